-- Books and rows, computed: what is handed in, the number and the rows that must come back.
use Rattle.std.specs.Prelude.{ℕ, ◌+◌, ◌≡◌, List, [], ◌∷◌, Bool, true, false, ◌&&◌, eqb, length, Ok}
use Rattle.lists.specs.Search.{all_of, count_of}
use Rattle.premise.specs.declared.File.{File}
use Rattle.premise.specs.Steps.{new_file}
use Rattle.book.specs.declared.Book.{Book}
use Rattle.book.specs.Book.{files_of, book_of}
use Rattle.sheet_rules.specs.declared.BlockRow.{BlockRow}
use Rattle.sheet_rules.specs.Sheet.{number, is_dark, sheet_answer, rows_after, Fills}
use Rattle.sheet_rules.specs.Theorems.{sum_of, Apart, Covers, SumsOf}

-- ---- books
-- a new file of a premise with a retailer
abbrev pub file_of : ℕ → ℕ → File
file_of premise retailer =
    new_file (record { kind = 1; detail = 0; day = 0; reference = 0; premise = premise; retailer = retailer })

-- three files, the second dark
abbrev pub three : Book
three = book_of 5 (file_of 10 101 ∷ file_of 19 0 ∷ file_of 30 103 ∷ [])

-- no file
abbrev pub none : Book
none = book_of 0 []

-- a premise stands twice: not well kept
abbrev pub damaged : Book
damaged = book_of 5 (file_of 10 101 ∷ file_of 10 0 ∷ [])

-- ---- rows
abbrev pub sheet_row : ℕ → ℕ → ℕ → ℕ → ℕ → BlockRow
sheet_row block first last files dark = record { block = block; first = first; last = last; files = files; dark = dark }

-- the last number that a premise can have
abbrev pub last_premise : ℕ
last_premise = 18446744073709551615

-- ranges that cover the three files, the later numbers first, and between them one that has none; any counts are handed in
abbrev pub falling : List BlockRow
falling = sheet_row 7 20 39 9 9 ∷ sheet_row 8 40 49 1 0 ∷ sheet_row 6 10 19 0 5 ∷ []

abbrev pub falling_filled : List BlockRow
falling_filled = sheet_row 7 20 39 1 0 ∷ sheet_row 8 40 49 0 0 ∷ sheet_row 6 10 19 2 1 ∷ []

-- two ranges that both have premise 19, and 10 to 30 between them
abbrev pub overlapping : List BlockRow
overlapping = sheet_row 1 10 19 0 0 ∷ sheet_row 1 19 30 0 0 ∷ []

abbrev pub overlapping_filled : List BlockRow
overlapping_filled = sheet_row 1 10 19 2 1 ∷ sheet_row 1 19 30 2 1 ∷ []

-- ---- the sums: their premises are met by the first rows; the second overlap, and what they sum to is one file and one dark file too many
pub record SumsMet : Type 0 where
  pub promised : Fills three falling (Ok tt) falling_filled
  pub apart : Apart falling
  pub covers : Covers falling three
  pub sums : SumsOf three falling_filled
  pub twice : sum_of (λ (r : BlockRow). r.files) overlapping_filled ≡ length (files_of three) + 1
  pub twice_dark : sum_of (λ (r : BlockRow). r.dark) overlapping_filled ≡ count_of is_dark (files_of three) + 1

-- ---- the cases
pub record Case : Type 0 where
  pub book : Book
  pub before : List BlockRow
  pub answer : ℕ
  pub after : List BlockRow

abbrev pub case : Book → List BlockRow → ℕ → List BlockRow → Case
case book before answer after = record { book = book; before = before; answer = answer; after = after }

abbrev pub cases : List Case
cases =
    case three falling 0 falling_filled
    ∷ case three overlapping 0 overlapping_filled
    -- an empty list is accepted, but on a damaged book
    ∷ case three [] 0 []
    ∷ case damaged [] 2 []
    -- the widest range, one of a single premise, one just below it and one just above
    ∷ case three
    (sheet_row 1 0 last_premise 0 0 ∷ sheet_row 1 19 19 0 0 ∷ sheet_row 4294967295 11 18 3 3 ∷ sheet_row 2 20 29 3 3 ∷ [])
    0
    (sheet_row 1 0 last_premise 3 1 ∷ sheet_row 1 19 19 1 1 ∷ sheet_row 4294967295 11 18 0 0 ∷ sheet_row 2 20 29 0 0 ∷ [])
    -- an unused place is no file, and would be dark
    ∷ case none (sheet_row 1 0 0 4 4 ∷ []) 0 (sheet_row 1 0 0 0 0 ∷ [])
    -- a bad row before, between and behind others; nothing is changed
    ∷ case three (sheet_row 0 10 19 4 4 ∷ sheet_row 1 10 19 5 5 ∷ []) 27 (sheet_row 0 10 19 4 4 ∷ sheet_row 1 10 19 5 5 ∷ [])
    ∷ case three (sheet_row 1 10 19 4 4 ∷ sheet_row 1 20 19 5 5 ∷ sheet_row 1 10 19 6 6 ∷ []) 27
    (sheet_row 1 10 19 4 4 ∷ sheet_row 1 20 19 5 5 ∷ sheet_row 1 10 19 6 6 ∷ [])
    ∷ case three (sheet_row 1 10 19 4 4 ∷ sheet_row 0 10 19 5 5 ∷ []) 27 (sheet_row 1 10 19 4 4 ∷ sheet_row 0 10 19 5 5 ∷ [])
    -- 2 comes first
    ∷ case damaged (sheet_row 1 10 19 4 4 ∷ []) 2 (sheet_row 1 10 19 4 4 ∷ [])
    ∷ case damaged (sheet_row 0 10 19 4 4 ∷ []) 2 (sheet_row 0 10 19 4 4 ∷ [])
    ∷ []

abbrev pub same : BlockRow → BlockRow → Bool
same r s =
    eqb r.block s.block && (eqb r.first s.first
    && (eqb r.last s.last && (eqb r.files s.files && eqb r.dark s.dark)))

abbrev pub same_rows : List BlockRow → List BlockRow → Bool
same_rows [] [] = true
same_rows [] (s ∷ ss) = false
same_rows (r ∷ rs) [] = false
same_rows (r ∷ rs) (s ∷ ss) = same r s && same_rows rs ss

abbrev pub holds : Case → Bool
holds c =
    let came = sheet_answer c.book c.before in
    eqb (number came) c.answer && same_rows (rows_after came c.book c.before) c.after

abbrev pub all_hold : Bool
all_hold = all_of holds cases
