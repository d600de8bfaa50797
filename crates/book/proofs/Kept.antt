-- A well_kept book: the test and the facts behind it say the same, and a book is made of its day and its files. Assumes nothing.
use Prim.Native.Nat.{ℕ, ◌-◌, ◌≤◌, ◌<◌, min}
use mathlib.Core.Path.{◌≡◌, refl, ap, ap₂, sym, ◌∙◌}
use mathlib.Core.List.{List, [], ◌∷◌, ◌++◌}
use mathlib.Core.Bool.{Bool, true, false, ◌&&◌}
use native.Mathlib.Omega.{arith}
use lib.Dec.{eqb, leb}
use lib.ListN.{length, drop, set, replicate, length-append, length-drop, length-replicate, length-set, take-append-drop}
use lib.Seq.{take_at, drop_at, length-take-le, set-append_left}
use borrow.Author.Tests.{eqb-true, leb-true, eq-eqb, le-leb}
use Rattle.lists.specs.Search.{all_of, Each}
use Rattle.lists.proofs.TestLaws.{pass_each}
use Rattle.lists.proofs.SearchLaws.{each_of_all, all_of_each, each_map, all_are, all_same}
use Rattle.days.specs.Days.{last_day, is_day}
use Rattle.records.specs.Layout.{wide, narrow}
use Rattle.premise.specs.declared.File.{File}
use Rattle.premise.specs.Orders.{blank_file}
use Rattle.premise.specs.WellKept.{file_kept_by, file_kept, file_blank, FileKept}
use Rattle.premise.proofs.Blank.{blank_means}
use Rattle.premise.proofs.KeptFiles.{kept_means}
use Rattle.premise_laws.specs.Retailers.{RetailersUpTo}
use Rattle.premise_laws.proofs.Retailers.{kept_by_either}
use Rattle.book.specs.declared.Book.{Book}
use Rattle.book.specs.Totals.{waiting_in, same_totals}
use Rattle.book.specs.Book.{most_files, files_of, book_of, rises_from, book_kept_by, book_kept}
use Rattle.book.specs.Laws.{TidyBook, BookKept, BookKeptMeans, BookKeptByEither, HoldsItsFiles, FreshKept, TotalsOff, with_file_at}
use Rattle.book.proofs.Totals.{same_totals_lem, totals_same}

-- ---- every file of a list
each_kept : (fs : List File) → all_of file_kept fs ≡ true → Each FileKept fs
each_kept fs e = each_map (λ (f : File). file_kept f ≡ true) FileKept (λ f. (kept_means f).0) fs (each_of_all file_kept fs e)

kept_each : (fs : List File) → Each FileKept fs → all_of file_kept fs ≡ true
kept_each fs u = all_of_each file_kept fs (each_map FileKept (λ (f : File). file_kept f ≡ true) (λ f. (kept_means f).1) fs u)

-- ---- a book by its day and its files
pub holds_its_files : HoldsItsFiles
unfolding book_of
holds_its_files today fs = take_at fs _ (length fs) refl

whole : (b : Book) → b.count ≤ most_files → length b.files ≡ most_files → all_of file_blank (drop b.count b.files) ≡ true
    → b.waiting ≡ waiting_in (files_of b) → b ≡ book_of b.today (files_of b)
unfolding book_of
whole b few long unused totals =
    let counted : length (files_of b) ≡ b.count = length-take-le b.count b.files (omega arith) in
    let left : length (drop b.count b.files) ≡ most_files - length (files_of b) = omega (arith, length-drop b.count b.files) in
    let rest : drop b.count b.files ≡ replicate (most_files - length (files_of b)) blank_file =
    all_are file_blank blank_file (λ f. (blank_means f).0) (drop b.count b.files) unused
    ∙ ap (λ (n : ℕ). replicate n blank_file) left in
    let files : b.files ≡ files_of b ++ replicate (most_files - length (files_of b)) blank_file =
    sym (take-append-drop b.count b.files) ∙ ap (λ l. files_of b ++ l) rest in
    λ i. record { today = b.today; count = sym counted i; waiting = totals i; files = files i }

kept_facts : (b : Book) → book_kept b ≡ true → BookKept b
unfolding book_kept_by
kept_facts b e =
    let day : Bool = is_day b.today in
    let few : Bool = leb b.count most_files in
    let long : Bool = eqb (length b.files) most_files in
    let kept : Bool = all_of file_kept (files_of b) in
    let rising : Bool = rises_from 0 (files_of b) in
    let totals : Bool = same_totals b.waiting (waiting_in (files_of b)) in
    let unused : Bool = all_of file_blank (drop b.count b.files) in
    let t = pass_each day (few ∷ long ∷ kept ∷ rising ∷ totals ∷ unused ∷ []) e in
    let within = leb-true b.count most_files t.1.0 in
    record {
      tidy = record {
        few = within;
        whole = whole b within (eqb-true (length b.files) most_files t.1.1.0) t.1.1.1.1.1.1.0
            (same_totals_lem b.waiting (waiting_in (files_of b)) t.1.1.1.1.1.0);
      };
      today = leb-true b.today last_day t.0;
      files = each_kept (files_of b) t.1.1.1.0;
      rising = t.1.1.1.1.0;
    }

-- a day, and at most 64 files that are well kept and rise, make a well_kept book
pub kept_of_lem : (today : ℕ) (fs : List File) → today ≤ last_day → length fs ≤ most_files → Each FileKept fs → rises_from 0 fs ≡ true
    → book_kept (book_of today fs) ≡ true
unfolding book_kept_by book_of
kept_of_lem today fs day few kept rising =
    let long : length (fs ++ replicate (most_files - length fs) blank_file) ≡ most_files =
    simp (length-append, length-replicate) (omega arith) in
    rw (
      le-leb today last_day day,
      le-leb (length fs) most_files few,
      eq-eqb (length (fs ++ replicate (most_files - length fs) blank_file)) most_files long,
      take_at fs (replicate (most_files - length fs) blank_file) (length fs) refl,
      kept_each fs kept,
      rising,
      totals_same (waiting_in fs) (waiting_in fs) refl,
      drop_at fs (replicate (most_files - length fs) blank_file) (length fs) refl,
    )
    (all_same file_blank blank_file ((blank_means blank_file).1 refl) (most_files - length fs))

counted : (today : ℕ) (fs : List File) → (book_of today fs).count ≡ length fs
unfolding book_of
counted today fs = refl

-- the count is the number of files
pub count_is : (b : Book) → TidyBook b → length (files_of b) ≡ b.count
count_is b tidy = sym (ap (λ (x : Book). x.count) tidy.whole ∙ counted b.today (files_of b))

totalled : (today : ℕ) (fs : List File) → (book_of today fs).waiting ≡ waiting_in fs
unfolding book_of
totalled today fs = refl

-- the totals are those of the files ..
pub totals_are : (b : Book) → TidyBook b → b.waiting ≡ waiting_in (files_of b)
totals_are b tidy = ap (λ (x : Book). x.waiting) tidy.whole ∙ totalled b.today (files_of b)

-- another file at a place
pub stored : (b : Book) → TidyBook b → (at : ℕ) (g : File) → at < b.count → book_of b.today (set (files_of b) at g) ≡ with_file_at b at g
unfolding book_of
stored b tidy at g h =
    let rest : ℕ → List File = (λ n. replicate (most_files - n) blank_file) in
    let same = length-set (files_of b) at g in
    let files : b.files ≡ files_of b ++ rest (length (files_of b)) = ap (λ (x : Book). x.files) tidy.whole in
    let e : set (files_of b) at g ++ rest (length (set (files_of b) at g)) ≡ set b.files at g =
    ap (λ (n : ℕ). set (files_of b) at g ++ rest n) same
    ∙ sym (set-append_left (files_of b) (rest (length (files_of b))) at g (omega (arith, h, count_is b tidy)))
    ∙ ap (λ (l : List File). set l at g) (sym files) in
    λ i. record { today = b.today; count = (same ∙ count_is b tidy) i; waiting = waiting_in (set (files_of b) at g); files = e i }

facts_kept : (b : Book) → BookKept b → book_kept b ≡ true
facts_kept b k = ap book_kept k.tidy.whole
    ∙ kept_of_lem b.today (files_of b) k.today (omega (arith, k.tidy.few, count_is b k.tidy)) k.files k.rising

pub book_kept_means : BookKeptMeans
book_kept_means b = (kept_facts b, facts_kept b)

-- .. and a book whose totals are off is not well kept
pub totals_off : TotalsOff
totals_off b off = go (book_kept b) refl
  where
    go : (kept : Bool) → book_kept b ≡ kept → kept ≡ false
    go true e = absurd (off (totals_are b (kept_facts b e).tidy))
    go false e = refl

-- ---- by either layout
files_by_either : (fs : List File) → Each (RetailersUpTo narrow.last_retailer) fs
    → all_of (file_kept_by narrow) fs ≡ all_of (file_kept_by wide) fs
files_by_either [] h = refl
files_by_either (f ∷ fs) h = ap₂ (λ (a b : Bool). a && b) (kept_by_either f h.0) (files_by_either fs h.1)

pub book_kept_by_either : BookKeptByEither
unfolding book_kept_by
book_kept_by_either b h = rw (files_by_either (files_of b) h) refl

pub fresh_kept : FreshKept
fresh_kept start = kept_of_lem (min start last_day) [] (omega arith) (omega arith) tt refl
