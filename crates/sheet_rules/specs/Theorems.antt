-- Document 02, change 14, as theorems about what a call promises; proofs/Sums.antt and proofs/Spare.antt prove them.
use Rattle.std.specs.Prelude.{ℕ, ◌+◌, ◌≤◌, ◌≡◌, List, [], ◌∷◌, ◌++◌, map, Bool, true, length, take, replicate}
use Rattle.lists.specs.Search.{any_of, count_of, Each}
use Rattle.premise.specs.declared.File.{File}
use Rattle.book.specs.declared.Book.{Book}
use Rattle.book.specs.Book.{files_of}
use Rattle.sheet_rules.specs.declared.BlockRow.{BlockRow}
use Rattle.sheet_rules.specs.Sheet.{SheetAnswer, number, in_range, is_dark, sheet_answer, rows_after, Fills}

-- ---- the sums
abbrev pub sum_of : {A : Type 0} → (A → ℕ) → List A → ℕ
sum_of f [] = 0
sum_of f (x ∷ xs) = f x + sum_of f xs

-- whether a number lies in a row's range
abbrev pub spans : ℕ → BlockRow → Bool
spans premise r = in_range r.first r.last premise

-- "the ranges don't overlap": no number lies in the ranges of two rows, also where these are equal
abbrev pub Apart : List BlockRow → Type 0
Apart rows = (premise : ℕ) → count_of (spans premise) rows ≤ 1

-- "every held P is in one"
abbrev pub Covers : List BlockRow → Book → Type 0
Covers rows b = Each (λ (f : File). any_of (spans f.premise) rows ≡ true) (files_of b)

-- "the sums over the rows equal the book's two counts": how many files it holds, and how many of these have R 0
pub record SumsOf (b : Book) (rows : List BlockRow) : Type 0 where
  pub files : sum_of (λ (r : BlockRow). r.files) rows ≡ length (files_of b)
  pub dark : sum_of (λ (r : BlockRow). r.dark) rows ≡ count_of is_dark (files_of b)

-- Whatever the rows' order and number, and whether or not each has a file.
abbrev pub SumsAreTheBooks : Type 0
SumsAreTheBooks =
    (b : Book) (before after : List BlockRow) (answer : SheetAnswer)
    → Fills b before answer after → number answer ≡ 0
    → Apart before
    → Covers before b
    → SumsOf b after

-- ---- "changes no other field", whatever the answer: as many rows, in the same order, each with its block, first P and last P
pub record SameBlocks (before after : List BlockRow) : Type 0 where
  pub blocks : map (λ (r : BlockRow). r.block) after ≡ map (λ (r : BlockRow). r.block) before
  pub firsts : map (λ (r : BlockRow). r.first) after ≡ map (λ (r : BlockRow). r.first) before
  pub lasts : map (λ (r : BlockRow). r.last) after ≡ map (λ (r : BlockRow). r.last) before

abbrev pub KeepsBlocks : Type 0
KeepsBlocks = (b : Book) (before after : List BlockRow) (answer : SheetAnswer) → Fills b before answer after → SameBlocks before after

-- ---- rows in an array of fixed length: its places behind those used are filled up with a row that is sound, which does not show
abbrev pub spare : BlockRow
spare = record { block = 1; first = 0; last = 0; files = 0; dark = 0 }

pub record SpareHidden (b : Book) (rows : List BlockRow) (n : ℕ) : Type 0 where
  pub answer : sheet_answer b (rows ++ replicate n spare) ≡ sheet_answer b rows
  pub filled : take (length rows) (rows_after (sheet_answer b rows) b (rows ++ replicate n spare)) ≡ rows_after (sheet_answer b rows) b rows

abbrev pub SpareRowsHidden : Type 0
SpareRowsHidden = (b : Book) (rows : List BlockRow) (n : ℕ) → SpareHidden b rows n
