-- Document 01, "The book": the record call. The answer is the number of the first row of the table whose condition holds; accepted, a
-- record does what the one-premise rules say.
use Rattle.std.specs.Prelude.{ℕ, ◌+◌, List, [], ◌∷◌, ◌++◌, map, Bool, true, false, cond, not, ◌&&◌, eqb, ltb, length}
use Rattle.records.specs.declared.Record.{Record}
use Rattle.std.specs.Prelude.{Option, Some, None}
use Rattle.records.specs.declared.Notice.{Notice}
use Rattle.records.specs.Layout.{Layout, wide}
use Rattle.records.specs.Records.{reading_by, kind_create, kind_day_mark}
use Rattle.premise.specs.declared.File.{File}
use Rattle.std.specs.Prelude.{Ok, Err}
use Rattle.premise.specs.Refusals.{Answer}
use Rattle.premise.specs.declared.Refusal.TheVariants.{ShortBuffer, NotWellKept, MalformedRecord, BookFull, NotNextDay}
use Rattle.premise.specs.Orders.{kept_width}
use Rattle.premise.specs.Steps.{is}
use Rattle.premise.specs.Refusals.{Row, row, first_row, number, is_held, premise_rows, file_rows_with}
use Rattle.premise.specs.OnePremise.{State, Given, marked_with, step_with, step}
use Rattle.book.specs.declared.Book.{Book}
use Rattle.book.specs.Book.{most_files, files_of, book_of, book_kept_by, file_for, with_file}

-- the shortest buffer that is taken
abbrev pub notice_bytes : ℕ
notice_bytes = 24576

-- ---- the table
-- rows 3 to 15, with 18 after 4, 26 between 11 and 12 and 16 and 17 after 14, by what the record's bytes say
abbrev pub record_rows_with : (File → ℕ) → List ℕ → Book → Option Record → List Row
record_rows_with width calendar b None = row MalformedRecord true ∷ []
record_rows_with width calendar b (Some r) =
    row MalformedRecord false
    ∷ premise_rows (file_for r.premise (files_of b)) r
    ++ (row BookFull (is kind_create r && eqb (length (files_of b)) most_files)
    ∷ file_rows_with width calendar b.today (file_for r.premise (files_of b)) r)

abbrev pub record_rows : List ℕ → Book → Option Record → List Row
record_rows = record_rows_with kept_width

-- the whole table, in its order: rows 2 and 3 by a layout
unfoldable pub call_rows_by : Layout → (File → ℕ) → List ℕ → Book → List ℕ → List ℕ → List Row
call_rows_by layout width calendar b bytes lent =
    row ShortBuffer (ltb (length lent) notice_bytes)
    ∷ row NotWellKept (not (book_kept_by layout b))
    ∷ record_rows_with width calendar b (reading_by layout bytes)

abbrev pub call_rows_with : (File → ℕ) → List ℕ → Book → List ℕ → List ℕ → List Row
call_rows_with = call_rows_by wide

abbrev pub call_rows : List ℕ → Book → List ℕ → List ℕ → List Row
call_rows = call_rows_with kept_width

-- A well-formed create of a premise that is not held, while 64 files are held, meets row 6. `AnsweredFull` (Laws.antt) ties it to the
-- table.
abbrev pub meets_row6 : Book → Option Record → Bool
meets_row6 b None = false
meets_row6 b (Some r) = is kind_create r && not (is_held (file_for r.premise (files_of b))) && eqb (length (files_of b)) most_files

-- ---- what a record does that meets no row
-- what comes of a call: the answer, the notices, and the book afterwards
pub record Result : Type 0 where
  pub answer : Answer
  pub notices : List Notice
  pub book : Book

-- A day mark: T becomes the day; each file in rising P does the clock, then the evaluation.
abbrev pub marked_files_with : (File → ℕ) → List ℕ → ℕ → List File → List File
marked_files_with width calendar day fs = map (λ (f : File). (marked_with width calendar day f).file) fs

abbrev pub marked_files : List ℕ → ℕ → List File → List File
marked_files = marked_files_with kept_width

abbrev pub marked_notices_with : (File → ℕ) → List ℕ → ℕ → List File → List Notice
marked_notices_with width calendar day [] = []
marked_notices_with width calendar day (f ∷ fs) = (marked_with width calendar day f).notices ++ marked_notices_with width calendar day fs

abbrev pub marked_notices : List ℕ → ℕ → List File → List Notice
marked_notices = marked_notices_with kept_width

abbrev pub marked_book_with : (File → ℕ) → List ℕ → Book → ℕ → Result
marked_book_with width calendar b day =
    record {
      answer = Ok tt;
      notices = marked_notices_with width calendar day (files_of b);
      book = book_of day (marked_files_with width calendar day (files_of b));
    }

abbrev pub marked_book : List ℕ → Book → ℕ → Result
marked_book = marked_book_with kept_width

-- Any other record goes to its premise: the one-premise rules on T and that file or none.
abbrev pub premise_state : Book → ℕ → State
premise_state b premise = record { today = b.today; file = file_for premise (files_of b) }

abbrev pub on_premise_with : (File → ℕ) → List ℕ → Book → Record → Result
on_premise_with width calendar b r =
    record {
      answer = Ok tt;
      notices = (step_with width calendar (premise_state b r.premise) r).notices;
      book =
          book_of b.today (with_file r.premise (step_with width calendar (premise_state b r.premise) r).state.file (files_of b));
    }

abbrev pub on_premise : List ℕ → Book → Record → Result
on_premise = on_premise_with kept_width

abbrev pub on_reading_with : (File → ℕ) → List ℕ → Book → Option Record → Result
on_reading_with width calendar b None = record { answer = Err MalformedRecord; notices = []; book = b }
on_reading_with width calendar b (Some r) =
    cond (is kind_day_mark r) (marked_book_with width calendar b r.day) (on_premise_with width calendar b r)

abbrev pub on_reading : List ℕ → Book → Option Record → Result
on_reading = on_reading_with kept_width

-- ---- the call
-- A refusal returns its number and zero notices; book and buffer stay.
abbrev pub refusal : Answer → Book → Result
refusal answer b = record { answer = answer; notices = []; book = b }

unfoldable pub call_by : Layout → (File → ℕ) → List ℕ → Book → List ℕ → List ℕ → Result
call_by layout width calendar b bytes lent =
    cond (eqb (number (first_row (call_rows_by layout width calendar b bytes lent))) 0)
    (on_reading_with width calendar b (reading_by layout bytes))
    (refusal (first_row (call_rows_by layout width calendar b bytes lent)) b)

abbrev pub call_with : (File → ℕ) → List ℕ → Book → List ℕ → List ℕ → Result
call_with = call_by wide

-- The rules in force: the wide layout, and each file has the width of window that it keeps.
abbrev pub call : List ℕ → Book → List ℕ → List ℕ → Result
call = call_with kept_width

-- ---- what a call comes to on a well_kept book with a long enough buffer, by what its record is; proofs/Acts.antt proves it
-- a day mark: row 15, then the mark
abbrev pub on_day_mark : List ℕ → Book → Record → Result
on_day_mark calendar b r = cond (eqb r.day (b.today + 1)) (marked_book calendar b r.day) (refusal (Err NotNextDay) b)

-- what the one-premise rules give, in the book ..
abbrev pub in_book : Book → ℕ → Given → Result
in_book b premise given =
    record {
      answer = given.answer;
      notices = given.notices;
      book = book_of b.today (with_file premise given.state.file (files_of b));
    }

-- .. on T and the file of the record's premise or none, with row 6 out of the way
abbrev pub as_one : List ℕ → Book → Record → Result
as_one calendar b r = in_book b r.premise (step calendar (premise_state b r.premise) r)
