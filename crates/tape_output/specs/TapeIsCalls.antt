-- Demand 3 speaks of the tape program: what it prints is what record calls gave, one for each record of the tape, in order, from a fresh
-- book; proofs/TapeIsCalls.antt proves it (`tape_is_calls`, `calls_can_be_made`).
use Rattle.std.specs.Prelude.{ℕ, ◌+◌, ◌≤◌, ◌≡◌, List, [], ◌∷◌, ◌++◌, length, take}
use Rattle.lists.specs.Search.{Each}
use Rattle.records.specs.Notices.{rows}
use Rattle.premise.specs.Refusals.{number}
use Rattle.book.specs.Book.{fresh_book}
use Rattle.book.specs.Calls.{notice_bytes}
use Rattle.book.specs.CallsInRow.{records_of}
use Rattle.demands.specs.Demand3.{Made, Played, last_book}
use Rattle.demands.specs.Tapes.{tape_of}
use Rattle.tape_text.specs.Text.{record_line}
use Rattle.tape_reader.specs.declared.Reader.{Reader}
use Rattle.tape_reader.specs.Counts.{most_records, counted}
use Rattle.tape_output.specs.declared.Playing.{Playing}
use Rattle.tape_output.specs.Output.{calendar_most, tape_most, starting, row_lines, ending, output}

-- the lines of calls that were made: of each its place, its answer, how many notices it gave, and these as they stand in its buffer
abbrev pub calls_text : ℕ → List Made → List ℕ
calls_text place [] = []
calls_text place (m ∷ ms) =
    record_line (place + 1) (number m.reply.answer) m.reply.sent ++ row_lines (rows m.reply.sent m.after)
    ++ calls_text (place + 1) ms

-- the reader that counted their answers
abbrev pub counted_calls : Reader → List Made → Reader
counted_calls reader [] = reader
counted_calls reader (m ∷ ms) = counted_calls (counted reader (number m.reply.answer)) ms

-- the tape after some calls
abbrev pub after_calls : Playing → List Made → Playing
after_calls p ms = record { reader = counted_calls p.reader ms; book = last_book p.book ms }

-- the record calls of a tape: one for each of its records, each on the book that the one before returned, with any long enough buffers
pub record TapeCalls (calendar tape : List ℕ) (ms : List Made) : Type 0 where
  pub played : Played (take calendar_most calendar) (fresh_book 0) ms
  pub room : Each (λ (m : Made). notice_bytes ≤ length m.lent) ms
  pub fed : tape_of ms ≡ records_of most_records (take tape_most tape)

-- Whoever makes them gets what the tape program prints ..
abbrev pub TapeIsCalls : Type 0
TapeIsCalls =
    (calendar tape : List ℕ) (ms : List Made) → TapeCalls calendar tape ms
    → output calendar tape ≡ calls_text 0 ms ++ ending (after_calls starting ms)

-- .. and they can be made of every tape.
abbrev pub CallsCanBeMade : Type 0
CallsCanBeMade = (calendar tape : List ℕ) → (ms : List Made) × TapeCalls calendar tape ms
