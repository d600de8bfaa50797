-- Record calls in a row and demand 3: what a call of many records leaves is what a list of single record calls returned, each tied to the
-- next by the record call's own promise, so that demand 3 is about them too; proofs/CallsInRow.antt proves it (`row_is_calls`).
use Rattle.std.specs.Prelude.{ℕ, ◌*◌, ◌≤◌, ◌≡◌, List, [], ◌∷◌, ◌++◌, map, length, take, drop}
use Rattle.lists.specs.Search.{Each}
use Rattle.records.specs.Layout.{record_length}
use Rattle.records.specs.Notices.{encode_all, rows}
use Rattle.std.specs.Prelude.{Ok}
use Rattle.premise.specs.Refusals.{number}
use Rattle.book.specs.declared.Book.{Book}
use Rattle.book.specs.declared.Playback.{Playback}
use Rattle.book.specs.Calls.{notice_bytes}
use Rattle.book.specs.CallsInRow.{Course, calls_in_row, answers_of, counts_of, notices_of, last_answer, Noted, Plays}
use Rattle.demands.specs.Demand3.{Made, Played, last_book}

-- the notices of calls, as rows of bytes, call after call: the first n in each call's buffer on return
abbrev pub notice_rows : List Made → List (List ℕ)
notice_rows [] = []
notice_rows (m ∷ ms) = rows m.reply.sent m.after ++ notice_rows ms

-- what calls in a row left, by a list of single calls
pub record Tells (calendar : List ℕ) (b : Book) (records : List (List ℕ)) (r : Playback)
    (answers₀ answers₁ counts₀ counts₁ notices₁ : List ℕ)
    (calls : List Made) : Type 0 where
  -- each call keeps the record call's promise, gets the book that the one before it returned, and a long enough buffer
  pub played : Played calendar b calls
  pub room : Each (λ (m : Made). notice_bytes ≤ length m.lent) calls
  -- they are the calls of the records that were played, in order
  pub bytes : map (λ (m : Made). m.bytes) calls ≡ take r.played records
  -- their answers, their numbers of notices, these notices and the last book are what was noted, sent and returned
  pub answers : Noted (map (λ (m : Made). number m.reply.answer) calls) answers₀ answers₁
  pub counts : Noted (map (λ (m : Made). m.reply.sent) calls) counts₀ counts₁
  pub notices : rows r.sent notices₁ ≡ notice_rows calls
  pub book : r.book ≡ last_book b calls

abbrev pub RowIsCalls : Type 0
RowIsCalls =
    (calendar : List ℕ) (free : ℕ) (b : Book) (records : List (List ℕ)) (r : Playback)
    (answers₀ answers₁ counts₀ counts₁ notices₀ notices₁ : List ℕ)
    → Plays (calls_in_row calendar free b records) r answers₀ answers₁ counts₀ counts₁ notices₀ notices₁
    → (calls : List Made) × Tells calendar b records r answers₀ answers₁ counts₀ counts₁ notices₁ calls

-- What calls in a row promise can be had, whatever their buffers hold: from every course (`courses_can_be_played`).
abbrev pub CoursesCanBePlayed : Type 0
CoursesCanBePlayed =
    (c : Course) (answers counts notices : List ℕ)
    → Plays c
    (record {
      played = length c.results;
      sent = length (notices_of c.results);
      last = last_answer (Ok tt) c.results;
      book = c.book;
    })
    answers (answers_of c.results ++ drop (length (answers_of c.results)) answers)
    counts (counts_of c.results ++ drop (length (counts_of c.results)) counts)
    notices (encode_all (notices_of c.results) ++ drop (record_length * length (notices_of c.results)) notices)
