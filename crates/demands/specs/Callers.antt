-- What someone who makes record calls can count on, from the promise and the demands; proofs/Callers.antt proves it. Every line is written
-- out here, so that none of them gets weaker with the statements that it follows from.
use Rattle.std.specs.Prelude.{ℕ, ◌*◌, ◌≤◌, ◌≡◌, ◌↔◌, List, map, true, false, length, drop}
use Rattle.lists.specs.Search.{any_of, Each}
use Rattle.records.specs.Layout.{Bytes, record_length}
use Rattle.records.specs.Records.{reading}
use Rattle.premise.specs.Refusals.{Row, number}
use Rattle.book.specs.declared.Book.{Book}
use Rattle.book.specs.declared.Reply.{Reply}
use Rattle.book.specs.Book.{most_files, book_kept, fresh_book}
use Rattle.book.specs.Calls.{notice_bytes, record_rows}
use Rattle.book.specs.Promise.{Promised}
use Rattle.demands.specs.Demand3.{Made, Played, AllAllowed}
use Rattle.demands.specs.Tapes.{tape_of, Plays}

-- ---- one call
-- A call is accepted where its buffer is long enough, its book well kept, and no row from 3 on holds for its record; and nowhere else.
pub record InOrder (calendar : List ℕ) (b : Book) (bytes before : List ℕ) : Type 0 where
  pub room : notice_bytes ≤ length before
  pub kept : book_kept b ≡ true
  pub no_row : any_of (λ (x : Row). x.when) (record_rows calendar b (reading bytes)) ≡ false

abbrev pub AcceptedInOrder : Type 0
AcceptedInOrder =
    (calendar : List ℕ) (b : Book) (bytes before : List ℕ) (reply : Reply) (after : List ℕ)
    → Promised calendar b bytes before reply after → (number reply.answer ≡ 0) ↔ InOrder calendar b bytes before

-- Whatever a call does, its buffer keeps its length, and the bytes behind the notices are those that were there.
pub record BufferKept (before after : List ℕ) (n : ℕ) : Type 0 where
  pub rest : drop (record_length * n) after ≡ drop (record_length * n) before
  pub long : length after ≡ length before

abbrev pub EachBufferKept : Type 0
EachBufferKept =
    (calendar : List ℕ) (b : Book) (bytes before : List ℕ) (reply : Reply) (after : List ℕ)
    → Promised calendar b bytes before reply after → BufferKept before after reply.sent

-- ---- some calls
-- Among at most 64 calls from a fresh book none finds it full: with records that are bytes, and buffers long enough, they are such calls as
-- demand 3 speaks of.
abbrev pub AtMost64Calls : Type 0
AtMost64Calls =
    (calendar : List ℕ) (start : ℕ) (ms : List Made)
    → Played calendar (fresh_book start) ms
    → Each (λ (m : Made). Bytes m.bytes) ms → Each (λ (m : Made). notice_bytes ≤ length m.lent) ms → length ms ≤ most_files
    → AllAllowed (fresh_book start) ms

-- From a well_kept book too, if none is answered 6: with records that are bytes, and buffers long enough.
abbrev pub NoneAnswered6 : Type 0
NoneAnswered6 =
    (calendar : List ℕ) (b : Book) (ms : List Made) → book_kept b ≡ true → Played calendar b ms
    → Each Bytes (tape_of ms) → Each (λ (m : Made). notice_bytes ≤ length m.lent) ms
    → Each (λ (m : Made). number m.reply.answer ≡ 6 → ⊥) ms
    → AllAllowed b ms

-- How long the buffers were and what stood in them shows in no answer: two lists of calls made of one tape have the same, call by call.
abbrev pub BuffersDontCount : Type 0
BuffersDontCount =
    (calendar : List ℕ) (start : ℕ) (tape : List (List ℕ)) (ms ns : List Made)
    → Plays calendar start tape ms → Plays calendar start tape ns
    → map (λ (m : Made). number m.reply.answer) ms ≡ map (λ (n : Made). number n.reply.answer) ns
