-- The sums over the rows are the book's counts: how many rows a file is in is counted file by file in the place of row by row, and each
-- file is in exactly one. Assumes nothing.
use Prim.Native.Nat.{ℕ, ◌+◌, ◌≤◌}
use mathlib.Core.Path.{◌≡◌, refl, sym, ap, ap₂, subst, ◌∙◌}
use mathlib.Core.List.{List, [], ◌∷◌, map}
use mathlib.Core.Bool.{Bool, true, false, cond, ◌&&◌, ◌||◌, false≢true}
use native.Mathlib.Omega.{arith}
use lib.ListN.{length}
use Rattle.std.specs.Prelude.{Ok, Err}
use Rattle.lists.specs.Search.{any_of, count_of, Each}
use Rattle.premise.specs.declared.File.{File}
use Rattle.book.specs.declared.Book.{Book}
use Rattle.book.specs.Book.{files_of}
use Rattle.sheet_rules.specs.declared.BlockRow.{BlockRow}
use Rattle.sheet_rules.specs.declared.SheetRefusal.TheVariants.{NotWellKept, UnsoundRow}
use Rattle.sheet_rules.specs.Sheet.{SheetAnswer, number, is_dark, any, passes_in, tally_of, counted, sheet_answer, rows_after}
use Rattle.sheet_rules.specs.Theorems.{sum_of, spans, Apart, Covers, SumsOf, SumsAreTheBooks, SameBlocks, KeepsBlocks}

-- ---- sums
module _ {A : Type 0} where
  sum-none : (xs : List A) → sum_of (λ (x : A). 0) xs ≡ 0
  sum-none [] = refl
  sum-none (x ∷ xs) = let rest = sum-none xs in omega (arith, rest)

  sum-add : (f g : A → ℕ) (xs : List A) → sum_of (λ (x : A). f x + g x) xs ≡ sum_of f xs + sum_of g xs
  sum-add f g [] = refl
  sum-add f g (x ∷ xs) = let rest = sum-add f g xs in omega (arith, rest)

  sum_count : (p : A → Bool) (xs : List A) → sum_of (λ (x : A). cond (p x) 1 0) xs ≡ count_of p xs
  sum_count p [] = refl
  sum_count p (x ∷ xs) = ap (λ (n : ℕ). cond (p x) 1 0 + n) (sum_count p xs)

  sum-each : (f g : A → ℕ) (xs : List A) → Each (λ (x : A). f x ≡ g x) xs → sum_of f xs ≡ sum_of g xs
  sum-each f g [] h = refl
  sum-each f g (x ∷ xs) h = ap₂ (λ (m n : ℕ). m + n) h.0 (sum-each f g xs h.1)

  sum-map : {B : Type 0} (f : B → ℕ) (g : A → B) (xs : List A) → sum_of f (map g xs) ≡ sum_of (λ (x : A). f (g x)) xs
  sum-map f g [] = refl
  sum-map f g (x ∷ xs) = ap (λ (n : ℕ). f (g x) + n) (sum-map f g xs)

  count_some : (p : A → Bool) (xs : List A) → any_of p xs ≡ true → 1 ≤ count_of p xs
  count_some p [] h = absurd (false≢true h)
  count_some p (x ∷ xs) h = go (p x) h (count_some p xs)
    where
      go : (a : Bool) → (a || any_of p xs) ≡ true → (any_of p xs ≡ true → 1 ≤ count_of p xs) → 1 ≤ cond a 1 0 + count_of p xs
      go true k ih = omega arith
      go false k ih = omega (arith, ih k)

  count_none : (xs : List A) → count_of (λ (x : A). false) xs ≡ 0
  count_none [] = refl
  count_none (x ∷ xs) = let rest = count_none xs in omega (arith, rest)

  count_every : (xs : List A) → count_of (λ (x : A). true) xs ≡ length xs
  count_every [] = refl
  count_every (x ∷ xs) = let rest = count_every xs in omega (arith, rest)

-- counted row by row, or file by file
sums_swap : {A B : Type 0} (q : A → B → Bool) (xs : List A) (ys : List B)
    → sum_of (λ (x : A). count_of (q x) ys) xs ≡ sum_of (λ (y : B). count_of (λ (x : A). q x y) xs) ys
sums_swap {A} {B} q [] ys = sym (sum-none ys)
sums_swap {A} {B} q (x ∷ xs) ys =
    ap₂ (λ (m n : ℕ). m + n) (sym (sum_count (q x) ys)) (sums_swap q xs ys)
    ∙ sym (sum-add (λ (y : B). cond (q x y) 1 0) (λ (y : B). count_of (λ (z : A). q z y) xs) ys)

-- ---- a file is in exactly one row
module _ (rows : List BlockRow) (apart : Apart rows) where
  in_one : (test : File → Bool) (f : File) → any_of (spans f.premise) rows ≡ true
      → count_of (λ (r : BlockRow). passes_in test r.first r.last f) rows ≡ cond (test f) 1 0
  in_one test f h = go (test f)
    where
      go : (t : Bool) → count_of (λ (r : BlockRow). t && spans f.premise r) rows ≡ cond t 1 0
      go true = omega (arith, apart f.premise, count_some (spans f.premise) rows h)
      go false = count_none rows

  each_in_one : (test : File → Bool) (fs : List File) → Each (λ (f : File). any_of (spans f.premise) rows ≡ true) fs
      → Each (λ (f : File). count_of (λ (r : BlockRow). passes_in test r.first r.last f) rows ≡ cond (test f) 1 0) fs
  each_in_one test [] h = tt
  each_in_one test (f ∷ fs) h = (in_one test f h.0, each_in_one test fs h.1)

  -- The one law, over any test of files.
  sums : (test : File → Bool) (fs : List File) → Each (λ (f : File). any_of (spans f.premise) rows ≡ true) fs
      → sum_of (λ (r : BlockRow). count_of (passes_in test r.first r.last) fs) rows ≡ count_of test fs
  sums test fs h =
      sums_swap (λ (r : BlockRow). passes_in test r.first r.last) rows fs
      ∙ sum-each (λ (f : File). count_of (λ (r : BlockRow). passes_in test r.first r.last f) rows) (λ (f : File). cond (test f) 1 0) fs
      (each_in_one test fs h)
      ∙ sum_count test fs

-- ---- what a call promised
filled_sums : (b : Book) (rows : List BlockRow) → Apart rows → Covers rows b → SumsOf b (map (counted b) rows)
unfolding tally_of counted
filled_sums b rows apart covers =
    record {
      files = sum-map (λ (r : BlockRow). r.files) (counted b) rows ∙ sums rows apart any (files_of b) covers ∙ count_every (files_of b);
      dark = sum-map (λ (r : BlockRow). r.dark) (counted b) rows ∙ sums rows apart is_dark (files_of b) covers;
    }

-- only one answer has the number 0
answered : (answer : SheetAnswer) → number answer ≡ 0 → answer ≡ Ok tt
unfolding number
answered (Ok filled) e = refl
answered (Err NotWellKept) e = absurd (omega (arith, e))
answered (Err UnsoundRow) e = absurd (omega (arith, e))

pub sums_are_the_books : SumsAreTheBooks
unfolding rows_after
sums_are_the_books b before after answer promised zero apart covers =
    let e : sheet_answer b before ≡ Ok tt = sym promised.answered ∙ answered answer zero in
    let rows : after ≡ map (counted b) before = promised.rows ∙ ap (λ (a : SheetAnswer). rows_after a b before) e in
    subst (SumsOf b) (sym rows) (filled_sums b before apart covers)

-- ---- the other fields
same_after : (answer : SheetAnswer) (b : Book) (rows : List BlockRow) → SameBlocks rows (rows_after answer b rows)
unfolding counted rows_after
same_after (Ok filled) b [] = record { blocks = refl; firsts = refl; lasts = refl }
same_after (Ok filled) b (r ∷ rs) =
    let rest = same_after (Ok tt) b rs in
    record {
      blocks = ap (λ (l : List ℕ). r.block ∷ l) rest.blocks;
      firsts = ap (λ (l : List ℕ). r.first ∷ l) rest.firsts;
      lasts = ap (λ (l : List ℕ). r.last ∷ l) rest.lasts;
    }
same_after (Err NotWellKept) b rows = record { blocks = refl; firsts = refl; lasts = refl }
same_after (Err UnsoundRow) b rows = record { blocks = refl; firsts = refl; lasts = refl }

pub keeps_blocks : KeepsBlocks
keeps_blocks b before after answer promised =
    subst (SameBlocks before) (sym promised.rows) (same_after (sheet_answer b before) b before)
