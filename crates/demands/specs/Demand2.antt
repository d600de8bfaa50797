-- Demand 2, over the record call's promise: for every record the answer, the notices and the book afterwards are those of the rules;
-- proofs/Demand2.antt proves it (`demand_2`). What a refused call leaves is demand 1.
use Rattle.std.specs.Prelude.{ℕ, ◌+◌, ◌≤◌, ◌<◌, ◌≡◌, List, true, false, length}
use Rattle.records.specs.declared.Record.{Record}
use Rattle.std.specs.Prelude.{Some, None}
use Rattle.records.specs.Records.{reading, kind_day_mark}
use Rattle.records.specs.Notices.{Emits}
use Rattle.premise.specs.Steps.{is}
use Rattle.premise.specs.Refusals.{number}
use Rattle.premise.specs.OnePremise.{step}
use Rattle.premise.specs.Laws.{marked_or}
use Rattle.book.specs.declared.Book.{Book}
use Rattle.book.specs.declared.Reply.{Reply}
use Rattle.book.specs.Book.{files_of, rises_from, book_kept, file_for}
use Rattle.book.specs.Calls.{notice_bytes, premise_state, marked_files, marked_notices, meets_row6}
use Rattle.book.specs.Promise.{Promised}

-- a call that is past rows 1 and 2: its buffer is long enough and its book well kept
pub record PastRows1And2 (b : Book) (before : List ℕ) : Type 0 where
  pub room : notice_bytes ≤ length before
  pub kept : book_kept b ≡ true

-- ---- a record of one premise
-- The answer, the notices and the premise's file are those of the one-premise rules on T and its file or none; T and every other premise's
-- file stay.
pub record AsOnePremise (calendar : List ℕ) (b : Book) (before : List ℕ) (r : Record) (reply : Reply) (after : List ℕ) : Type 0 where
  pub answer : reply.answer ≡ (step calendar (premise_state b r.premise) r).answer
  pub notices : Emits before after reply.sent (step calendar (premise_state b r.premise) r).notices
  pub file : file_for r.premise (files_of reply.book) ≡ (step calendar (premise_state b r.premise) r).state.file
  pub today : reply.book.today ≡ b.today
  pub others : (premise : ℕ) → (r.premise ≡ premise → ⊥) → file_for premise (files_of reply.book) ≡ file_for premise (files_of b)

abbrev pub OfAPremise : Type 0
OfAPremise =
    (calendar : List ℕ) (b : Book) (bytes before : List ℕ) (reply : Reply) (after : List ℕ)
    → Promised calendar b bytes before reply after → PastRows1And2 b before
    → (r : Record) → reading bytes ≡ Some r → is kind_day_mark r ≡ false → meets_row6 b (Some r) ≡ false
    → AsOnePremise calendar b before r reply after

-- ---- a day mark
-- On the day after T it is accepted: T becomes the day, each file does its clock and its evaluation, and the notices stand in the files'
-- order, which is that of rising P.
pub record MarksEach (calendar : List ℕ) (b : Book) (before : List ℕ) (day : ℕ) (reply : Reply) (after : List ℕ) : Type 0 where
  pub answer : number reply.answer ≡ 0
  pub notices : Emits before after reply.sent (marked_notices calendar day (files_of b))
  pub rising : rises_from 0 (files_of b) ≡ true
  pub today : reply.book.today ≡ day
  pub files : files_of reply.book ≡ marked_files calendar day (files_of b)
  pub each : (premise : ℕ) → file_for premise (files_of reply.book) ≡ (marked_or calendar day (file_for premise (files_of b))).state.file

abbrev pub OfTheNextDay : Type 0
OfTheNextDay =
    (calendar : List ℕ) (b : Book) (bytes before : List ℕ) (reply : Reply) (after : List ℕ)
    → Promised calendar b bytes before reply after → PastRows1And2 b before
    → (r : Record) → reading bytes ≡ Some r → is kind_day_mark r ≡ true → r.day ≡ b.today + 1
    → MarksEach calendar b before r.day reply after

-- On any other day it gets 15.
abbrev pub OfAnotherDay : Type 0
OfAnotherDay =
    (calendar : List ℕ) (b : Book) (bytes before : List ℕ) (reply : Reply) (after : List ℕ)
    → Promised calendar b bytes before reply after → PastRows1And2 b before
    → (r : Record) → reading bytes ≡ Some r → is kind_day_mark r ≡ true → (r.day ≡ b.today + 1 → ⊥)
    → number reply.answer ≡ 15

-- ---- the rows that the one-premise rules don't have
abbrev pub ShortBufferGets1 : Type 0
ShortBufferGets1 =
    (calendar : List ℕ) (b : Book) (bytes before : List ℕ) (reply : Reply) (after : List ℕ)
    → Promised calendar b bytes before reply after → length before < notice_bytes → number reply.answer ≡ 1

abbrev pub DamagedBookGets2 : Type 0
DamagedBookGets2 =
    (calendar : List ℕ) (b : Book) (bytes before : List ℕ) (reply : Reply) (after : List ℕ)
    → Promised calendar b bytes before reply after → notice_bytes ≤ length before → book_kept b ≡ false → number reply.answer ≡ 2

abbrev pub MalformedGets3 : Type 0
MalformedGets3 =
    (calendar : List ℕ) (b : Book) (bytes before : List ℕ) (reply : Reply) (after : List ℕ)
    → Promised calendar b bytes before reply after → PastRows1And2 b before → reading bytes ≡ None → number reply.answer ≡ 3

abbrev pub NoPlaceGets6 : Type 0
NoPlaceGets6 =
    (calendar : List ℕ) (b : Book) (bytes before : List ℕ) (reply : Reply) (after : List ℕ)
    → Promised calendar b bytes before reply after → PastRows1And2 b before → meets_row6 b (reading bytes) ≡ true
    → number reply.answer ≡ 6

-- Demand 2, as one statement: every call is one of these seven.
pub record Demand2 : Type 0 where
  pub short : ShortBufferGets1
  pub damaged : DamagedBookGets2
  pub malformed : MalformedGets3
  pub full : NoPlaceGets6
  pub premise : OfAPremise
  pub mark : OfTheNextDay
  pub another : OfAnotherDay
