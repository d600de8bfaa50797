-- Document 02, change 14: the block sheet. "A lent list of block rows holds block number (32 bits, not 0), first P and last P, both
-- inclusive, and two counts."
use Rattle.std.specs.Prelude.{ℕ, ◌≡◌, List, map, Bool, true, cond, not, ◌&&◌, eqb, leb}
use Rattle.std.specs.Prelude.{Result, Ok, Err}
use Rattle.lists.specs.Search.{all_of, count_of}
use Rattle.premise.specs.declared.File.{File}
use Rattle.premise.specs.Orders.{no_retailer}
use Rattle.book.specs.declared.Book.{Book}
use Rattle.book.specs.Book.{files_of, book_kept}
use Rattle.sheet_rules.specs.declared.BlockRow.{BlockRow}
use Rattle.sheet_rules.specs.declared.Tally.{Tally}
use Rattle.sheet_rules.specs.declared.SheetRefusal.{SheetRefusal}
use Rattle.sheet_rules.specs.declared.SheetRefusal.TheVariants.{NotWellKept, UnsoundRow}

-- What a call answers: that the rows are filled in, or why not.
abbrev pub SheetAnswer : Type 0
SheetAnswer = Result (Unit {0}) SheetRefusal

-- The number returned, for every answer.
unfoldable pub number : SheetAnswer → ℕ
number (Ok filled) = 0
number (Err NotWellKept) = 2
number (Err UnsoundRow) = 27

-- ---- what is counted
-- "first P and last P, both inclusive"
abbrev pub in_range : ℕ → ℕ → ℕ → Bool
in_range first last premise = leb first premise && leb premise last

-- "R 0": the premise is de-energized
abbrev pub is_dark : File → Bool
is_dark f = eqb f.retailer no_retailer

-- a test that every file passes
abbrev pub any : File → Bool
any f = true

-- whether a file passes a test and lies in a range
abbrev pub passes_in : (File → Bool) → ℕ → ℕ → File → Bool
passes_in test first last f = test f && in_range first last f.premise

-- "the number of files in its range and how many have R 0": of the files that the book holds
unfoldable pub tally_of : Book → ℕ → ℕ → Tally
tally_of b first last =
    record { files = count_of (passes_in any first last) (files_of b); dark = count_of (passes_in is_dark first last) (files_of b) }

-- "One call fills in, for each row, .. and changes no other field."
unfoldable pub counted : Book → BlockRow → BlockRow
counted b r =
    record {
      block = r.block;
      first = r.first;
      last = r.last;
      files = (tally_of b r.first r.last).files;
      dark = (tally_of b r.first r.last).dark;
    }

-- ---- the answer
-- a row by its block number, its first and its last P
unfoldable pub row_sound : ℕ → ℕ → ℕ → Bool
row_sound block first last = not (eqb block 0) && leb first last

abbrev pub is_sound : BlockRow → Bool
is_sound r = row_sound r.block r.first r.last

-- by whether the book is well kept and whether every row is sound: "27 when a row has block 0 or first P above last P, after 2"
abbrev pub answer_by : Bool → Bool → SheetAnswer
answer_by kept sound = cond (not kept) (Err NotWellKept) (cond (not sound) (Err UnsoundRow) (Ok tt))

unfoldable pub sheet_answer : Book → List BlockRow → SheetAnswer
sheet_answer b rows = answer_by (book_kept b) (all_of is_sound rows)

-- "with either number no count is changed"
unfoldable pub rows_after : SheetAnswer → Book → List BlockRow → List BlockRow
rows_after (Ok filled) b rows = map (counted b) rows
rows_after (Err NotWellKept) b rows = rows
rows_after (Err UnsoundRow) b rows = rows

-- What a call promises, for every book and every list of rows: everything that comes out, by equation.
pub record Fills (b : Book) (before : List BlockRow) (answer : SheetAnswer) (after : List BlockRow) : Type 0 where
  pub answered : answer ≡ sheet_answer b before
  pub rows : after ≡ rows_after (sheet_answer b before) b before
