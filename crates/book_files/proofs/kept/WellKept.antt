-- The test whether a book is well kept, part by part: what a turn over its files decides, what each part does, and what the two loops of
-- the test have decided so far. Assumes nothing.
use Prim.Native.Nat.{ℕ, ◌+◌, ◌^◌, ◌≤◌, ◌<◌}
use mathlib.Core.Path.{◌≡◌, refl, sym, ap, subst⁻¹, ◌∙◌}
use mathlib.Core.List.{List, [], ◌∷◌, ◌++◌}
use mathlib.Core.Bool.{Bool, true, false, cond, ◌&&◌, and-false}
use native.Mathlib.Numerals.{add-one}
use native.Mathlib.Omega.{arith}
use lib.Dec.{eqb, leb}
use lib.ListN.{length, take, drop, get_or, length-take}
use lib.Seq.{take-suc, take_all, get_or-take}
use borrow.Author.Tests.{eq-eqb, le-leb, lt-leb, lt-ltb, le-ltb}
use Rattle.std.specs.Prelude.{Option, Some, None}
use Rattle.lists.specs.Search.{all_of, Each}
use Rattle.lists.proofs.SearchLaws.{each_append}
use Rattle.lists.proofs.Find.{drop_part, part_none, drop-first, drop-none, all_miss, all_next, all_end}
use Rattle.lists.proofs.TestLaws.{and_left, and_right}
use Rattle.days.specs.Days.{last_day, is_day}
use Rattle.premise.specs.declared.File.{File}
use Rattle.premise.specs.Orders.{blank_file, held}
use Rattle.premise.specs.WellKept.{file_kept, file_blank, FileKept}
use Rattle.premise.proofs.KeptFiles.{kept_means}
use Rattle.premise_kept.specs.Test.{packed, packed_counts, file_test}
use Rattle.book.specs.declared.Book.{Book}
use Rattle.book.specs.declared.Waiting.{Waiting}
use Rattle.book.specs.Totals.{waiting_in, same_totals, moved}
use Rattle.book.specs.Book.{most_files, files_of, rises_from, book_kept_by, book_kept}
use Rattle.book.proofs.Kept.{totals_off}
use Rattle.book.proofs.Totals.{totals_same, counts_none, moved_next}

-- ---- the files held: well kept, and their numbers rise from above a number
abbrev pub held_kept : ℕ → List File → Bool
held_kept last fs = all_of file_kept fs && rises_from last fs

module _ (last : ℕ) {f : File} {left rest : List File} (e : left ≡ f ∷ rest) where
  pub not_rising : f.premise ≤ last → held_kept last left ≡ false
  not_rising h = rw (e, le-ltb last f.premise h, and-false (file_kept f && all_of file_kept rest))

  pub not_kept : file_kept f ≡ false → held_kept last left ≡ false
  not_kept h = rw (e, h)

  pub rising_kept : last < f.premise → file_kept f ≡ true → held_kept last left ≡ held_kept f.premise rest
  rising_kept h k = rw (e, k, lt-ltb last f.premise h)

pub held_end : (last : ℕ) {left : List File} → left ≡ [] → held_kept last left ≡ true
held_end last e = rw e

-- ---- the four totals as one number
abbrev pub packed_totals : Waiting → ℕ
packed_totals w = packed w.review w.permit w.scheduled w.cancel

-- each total fits into its bits
pub record Narrow (w : Waiting) : Type 0 where
  pub review : w.review < 2 ^ 16
  pub permit : w.permit < 2 ^ 16
  pub dated : w.scheduled < 2 ^ 16
  pub cancel : w.cancel < 2 ^ 16

-- then the number says which four they are
packed_same : {w v : Waiting} → Narrow w → Narrow v → packed_totals w ≡ packed_totals v → w ≡ v
packed_same {w} {v} a b e =
    let cancel : w.cancel ≡ v.cancel = omega arith in
    let dated : w.scheduled ≡ v.scheduled = omega arith in
    let permit : w.permit ≡ v.permit = omega arith in
    let review : w.review ≡ v.review = omega arith in
    λ i. record { review = review i; permit = permit i; scheduled = dated i; cancel = cancel i }

-- ---- the parts
one_fails : (x kept rising : Bool) → (kept && rising) ≡ false → (x && kept && rising) ≡ false
one_fails true true rising h = h
one_fails true false rising h = refl
one_fails false kept rising h = refl

module _ (b : Book) where
  pub no_day_lem : last_day < b.today → book_kept b ≡ false
  unfolding book_kept_by
  no_day_lem h = rw (lt-leb b.today last_day h)

  pub too_many : most_files < b.count → book_kept b ≡ false
  unfolding book_kept_by
  too_many h = rw (lt-leb b.count most_files h, and-false (is_day b.today))

  pub held_fails : held_kept 0 (files_of b) ≡ false → book_kept b ≡ false
  unfolding book_kept_by
  held_fails h =
      ap (λ (a : Bool). a && same_totals b.waiting (waiting_in (files_of b)) && all_of file_blank (drop b.count b.files))
      (one_fails (is_day b.today && leb b.count most_files && eqb (length b.files) most_files) (all_of file_kept (files_of b))
      (rises_from 0 (files_of b)) h)

  -- Document 02, change 11: "A book whose totals are off is not well kept."
  pub totals_fail : (packed_totals b.waiting ≡ packed_totals (waiting_in (files_of b)) → ⊥) → book_kept b ≡ false
  totals_fail differ = totals_off b (λ e. differ (ap packed_totals e))

  -- the places after the files decide where the other parts passed
  pub unused_decide : b.today ≤ last_day → b.count ≤ most_files → length b.files ≡ most_files → held_kept 0 (files_of b) ≡ true
      → b.waiting ≡ waiting_in (files_of b) → book_kept b ≡ all_of file_blank (drop b.count b.files)
  unfolding book_kept_by
  unused_decide day few long held sum =
      rw (
        le-leb b.today last_day day,
        le-leb b.count most_files few,
        eq-eqb (length b.files) most_files long,
        and_left (all_of file_kept (files_of b)) (rises_from 0 (files_of b)) held,
        and_right (all_of file_kept (files_of b)) (rises_from 0 (files_of b)) held,
        totals_same b.waiting (waiting_in (files_of b)) sum,
      )

-- ---- the test of a file: whether it is well kept, and its orders added to the totals
module _ (f : File) {t : Option ℕ} (e : t ≡ file_test f) where
  pub test_fails : t ≡ None → file_kept f ≡ false
  unfolding file_test
  test_fails q = go (file_kept f) (sym q ∙ e)
    where
      go : (b : Bool) → None ≡ cond b (Some (packed_counts (held f))) None → b ≡ false
      go true p = cc
      go false p = refl

  module _ {counts : ℕ} (q : t ≡ Some counts) where
    test_says : (file_kept f ≡ true) × (counts ≡ packed_counts (held f))
    unfolding file_test
    test_says = go (file_kept f) (sym q ∙ e)
      where
        go : (b : Bool) → Some counts ≡ cond b (Some (packed_counts (held f))) None → (b ≡ true) × (counts ≡ packed_counts (held f))
        go true p = (refl, cc)
        go false p = (cc, cc)

    test_counts : (w : Waiting) → packed_totals w + counts ≡ packed_totals (moved w blank_file f)
    unfolding moved
    test_counts w = omega (arith, test_says.1)

-- ---- the loop over the files held: the test of those left gives what the test of all of them gives, and of those passed, which are well
-- kept, the waiting orders are added up
pub record HeldSofar (b : Book) (n waiting last i : ℕ) : Type 0 where
  pub within : i ≤ n
  pub same : n ≡ b.count
  pub few : n ≤ most_files
  pub day : b.today ≤ last_day
  pub long : length b.files ≡ most_files
  pub kept : held_kept last (drop i (files_of b)) ≡ held_kept 0 (files_of b)
  pub passed : Each FileKept (take i (files_of b))
  pub sum : waiting ≡ packed_totals (waiting_in (take i (files_of b)))

-- ---- the loop over the unused places: the test of those left gives what the test of the book gives
pub record UnusedSofar (b : Book) (i : ℕ) : Type 0 where
  pub within : i ≤ most_files
  pub long : length b.files ≡ most_files
  pub decides : all_of file_blank (drop i b.files) ≡ book_kept b

module _ {b : Book} {n waiting last i : ℕ} (v : HeldSofar b n waiting last i) where
  -- the totals of the files passed are within a book's orders
  sofar_narrow : Narrow (waiting_in (take i (files_of b)))
  sofar_narrow =
      let few = counts_none (take i (files_of b)) (omega (arith, length-take i (files_of b), v.within, v.few)) v.passed in
      record {
        review = omega (arith, few.review.1);
        permit = omega (arith, few.permit.1);
        dated = omega (arith, few.dated.1);
        cancel = omega (arith, few.cancel.1);
      }

  pub waiting_fits : waiting < 2 ^ 64
  waiting_fits = omega (arith, v.sum, sofar_narrow)

  -- a turn: the file at the place, and those after it
  module _ (d : File) (h : i < n) where
    turn : drop i (files_of b) ≡ get_or b.files i d ∷ drop (i + 1) (files_of b)
    turn = drop_part d b.files b.count i (omega (arith, v.long, v.few, v.same)) (omega (arith, v.same))

    pub file_not_rising : (get_or b.files i d).premise ≤ last → false ≡ book_kept b
    file_not_rising q = sym (held_fails b (sym v.kept ∙ not_rising last turn q))

    -- with it the first i + 1 files
    inside : i < length (files_of b)
    inside = omega (arith, h, v.same, v.few, v.long, length-take b.count b.files)

    more : take (i + 1) (files_of b) ≡ take i (files_of b) ++ (get_or b.files i d ∷ [])
    more =
        ap (λ (m : ℕ). take m (files_of b)) (add-one i) ∙ take-suc (files_of b) i d inside
        ∙ ap (λ (f : File). take i (files_of b) ++ (f ∷ [])) (get_or-take b.count b.files i d (omega (arith, h, v.same)))

    module _ {t : Option ℕ} (e : t ≡ file_test (get_or b.files i d)) where
      pub file_not_kept : t ≡ None → false ≡ book_kept b
      file_not_kept q = sym (held_fails b (sym v.kept ∙ not_kept last turn (test_fails (get_or b.files i d) e q)))

      pub file_passes : last < (get_or b.files i d).premise → {counts : ℕ} → t ≡ Some counts
          → HeldSofar b n (waiting + counts) (get_or b.files i d).premise (i + 1)
      file_passes r {counts} q =
          let k = (test_says (get_or b.files i d) e q).0 in
          record {
            within = omega arith;
            same = v.same;
            few = v.few;
            day = v.day;
            long = v.long;
            kept = sym (rising_kept last turn r k) ∙ v.kept;
            passed = subst⁻¹ (Each FileKept) more
                (each_append FileKept (take i (files_of b)) (get_or b.files i d ∷ []) v.passed
                ((kept_means (get_or b.files i d)).0 k, tt));
            sum = ap (λ (m : ℕ). m + counts) v.sum
                ∙ test_counts (get_or b.files i d) e q (waiting_in (take i (files_of b)))
                ∙ ap packed_totals (moved_next (take i (files_of b)) (get_or b.files i d) ∙ ap waiting_in (sym more));
          }

  -- after the last one all files are passed ..
  module _ (h : n ≤ i) {number : ℕ} (e : number ≡ packed_totals b.waiting) where
    all_files : take i (files_of b) ≡ files_of b
    all_files = take_all i (files_of b) (omega (arith, h, v.same, length-take b.count b.files))

    pub totals_differ : (number ≡ waiting → ⊥) → false ≡ book_kept b
    totals_differ q = sym (totals_fail b (λ p. q (e ∙ p ∙ sym (v.sum ∙ ap (λ (fs : List File). packed_totals (waiting_in fs)) all_files))))

    -- .. and where the book's totals are theirs, the unused places decide
    pub held_done : Narrow b.waiting → number ≡ waiting → UnusedSofar b i
    held_done narrow q =
        let end : i ≡ b.count = omega (arith, v.within, v.same) in
        let held = sym v.kept ∙ held_end last (part_none b.files b.count i (omega (arith, end))) in
        record {
          within = omega (arith, v.within, v.few);
          long = v.long;
          decides = ap (λ (j : ℕ). all_of file_blank (drop j b.files)) end
              ∙ sym (unused_decide b v.day (omega (arith, v.few, v.same)) v.long held
              (packed_same narrow sofar_narrow (sym e ∙ q ∙ v.sum) ∙ ap waiting_in all_files));
        }

module _ {b : Book} {i : ℕ} (v : UnusedSofar b i) where
  module _ (d : File) (h : i < most_files) where
    place : drop i b.files ≡ get_or b.files i d ∷ drop (i + 1) b.files
    place = drop-first d b.files i (omega (arith, v.long))

    pub place_not_blank : file_blank (get_or b.files i d) ≡ false → false ≡ book_kept b
    place_not_blank q = sym (all_miss file_blank place q) ∙ v.decides

    pub place_passes : file_blank (get_or b.files i d) ≡ true → UnusedSofar b (i + 1)
    place_passes q = record { within = omega arith; long = v.long; decides = sym (all_next file_blank place q) ∙ v.decides }

  pub unused_done : most_files ≤ i → true ≡ book_kept b
  unused_done h = sym (all_end file_blank (drop-none b.files i (omega (arith, v.long)))) ∙ v.decides
