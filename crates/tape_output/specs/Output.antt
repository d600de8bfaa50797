-- Document 01, "The tape program": what it prints, from the calendar and the tape. The answers, the notices and the book are those of
-- the single calls, in order; the lines are those of `tape_text`.
use Rattle.std.specs.Prelude.{ℕ, ◌+◌, ◌*◌, List, [], ◌∷◌, ◌++◌, map, length, take}
use Rattle.records.specs.Layout.{record_length}
use Rattle.records.specs.Notices.{encode, decode}
use Rattle.premise.specs.declared.File.{File}
use Rattle.premise.specs.Refusals.{number}
use Rattle.book.specs.Book.{files_of, fresh_book}
use Rattle.book.specs.Calls.{Result}
use Rattle.book.specs.CallsInRow.{records_of, called}
use Rattle.tape_text.specs.Text.{record_line, notice_line, file_line, total_line}
use Rattle.tape_reader.specs.Counts.{most_records, counted}
use Rattle.tape_output.specs.declared.Playing.{Playing}

-- It reads the first 4,096 bytes of calendar.bin, and plays the first 65,520 bytes of standard input, record by record (`records_of`).
abbrev pub calendar_most : ℕ
calendar_most = 4096

abbrev pub tape_most : ℕ
tape_most = record_length * most_records

-- It starts a fresh book at 0.
abbrev pub starting : Playing
starting = record { reader = record { place = 0; accepted = 0; refused = 0 }; book = fresh_book 0 }

-- the tape after a record's call: the reader is one record on, and the book is the one that the call returned
abbrev pub played_on : List ℕ → Playing → List ℕ → Playing
played_on calendar p bytes =
    record {
      reader = counted p.reader (number (called calendar p.book bytes).answer);
      book = (called calendar p.book bytes).book;
    }

-- Lines: place from 1, answer, n; per notice a line, as its 24 bytes say it.
abbrev pub row_lines : List (List ℕ) → List ℕ
row_lines [] = []
row_lines (row ∷ rows) = notice_line (decode row) ++ row_lines rows

abbrev pub result_text : ℕ → Result → List ℕ
result_text place r = record_line place (number r.answer) (length r.notices) ++ row_lines (map encode r.notices)

unfoldable pub record_text : List ℕ → Playing → List ℕ → List ℕ
record_text calendar p bytes = result_text (p.reader.place + 1) (called calendar p.book bytes)

-- At the end per file a line, then the last line.
abbrev pub file_lines : List File → List ℕ
file_lines [] = []
file_lines (f ∷ fs) = file_line f.premise f.retailer f.since ++ file_lines fs

unfoldable pub ending : Playing → List ℕ
ending p = file_lines (files_of p.book) ++ total_line p.reader.accepted p.reader.refused

-- what is printed from a point of the tape on
abbrev pub printed : List ℕ → Playing → List (List ℕ) → List ℕ
printed calendar p [] = ending p
printed calendar p (bytes ∷ rest) = record_text calendar p bytes ++ printed calendar (played_on calendar p bytes) rest

-- the whole output, from what stands in calendar.bin and what comes by standard input
abbrev pub output : List ℕ → List ℕ → List ℕ
output calendar tape = printed (take calendar_most calendar) starting (records_of most_records (take tape_most tape))
