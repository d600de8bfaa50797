-- Document 02, change 5: many records in one call. "One call takes a stretch of tape and plays whole records from its start, each into the
-- notice bytes still free."
use Rattle.std.specs.Prelude.{ℕ, ◌*◌, ◌-◌, ◌/◌, ◌<◌, ◌≡◌, List, [], ◌∷◌, ◌++◌, cond, ltb, length, take}
use Rattle.lists.specs.Search.{Each}
use Rattle.records.specs.Layout.{record_length}
use Rattle.records.specs.Notices.{Emits}
use Rattle.book.specs.declared.Book.{Book}
use Rattle.book.specs.CallsInRow.{records_of, Course, stopped, calls_in_row, answers_of, notices_of, Noted}
use Rattle.stretch_rules.specs.declared.Replies.{Replies}
use Rattle.stretch_rules.specs.declared.StretchAnswer.{StretchAnswer}
use Rattle.stretch_rules.specs.declared.StretchAnswer.TheVariants.{Taken, FewAnswers}

-- The number returned, for every answer.
unfoldable pub number : StretchAnswer → ℕ
number Taken = 0
number FewAnswers = 19

-- ---- the records
-- "the number of whole records in the stretch"
abbrev pub whole_count : List ℕ → ℕ
whole_count tape = length tape / record_length

-- "whole records from its start"; "at fewer than 24 bytes of tape" it stops: a short rest is no record here, and gets no answer
unfoldable pub whole_records : List ℕ → List (List ℕ)
whole_records tape = records_of (whole_count tape) tape

-- that these are what the words say; proofs/Whole.antt proves it
abbrev pub joined : List (List ℕ) → List ℕ
joined [] = []
joined (bytes ∷ rest) = bytes ++ joined rest

pub record Whole (tape : List ℕ) : Type 0 where
  pub many : length (whole_records tape) ≡ whole_count tape
  pub each : Each (λ (bytes : List ℕ). length bytes ≡ record_length) (whole_records tape)
  pub start : joined (whole_records tape) ≡ take (record_length * whole_count tape) tape
  pub rest : length tape - record_length * whole_count tape < record_length

abbrev pub RecordsAreWhole : Type 0
RecordsAreWhole = (tape : List ℕ) → Whole tape

-- ---- the call
-- what comes of it: its answer, and the course of the single calls, in order (`calls_in_row`): "It stops before the first record that would
-- find fewer than 24,576 bytes free, or at fewer than 24 bytes of tape"
pub record Outcome : Type 0 where
  pub answer : StretchAnswer
  pub course : Course

-- By how many answer bytes and how many notice bytes are lent: "19 when the answer buffer is shorter than the number of whole records in
-- the stretch, before anything is played"; else "the call returns 0, even where a single call would get 1 or 2".
unfoldable pub stretch_call : List ℕ → Book → List ℕ → ℕ → ℕ → Outcome
stretch_call calendar b tape places free =
    cond (ltb places (whole_count tape))
    (record { answer = FewAnswers; course = stopped b (whole_records tape) })
    (record { answer = Taken; course = calls_in_row calendar free b (whole_records tape) })

-- What the code promises, for every calendar, book, stretch and both buffers: everything that comes out, by equation. Each buffer is named
-- as it was lent, and then as it was left: "answer bytes past the number played and notice bytes past those written stay".
pub record Gives (x : Outcome) (r : Replies) (answers₀ answers₁ notices₀ notices₁ : List ℕ) : Type 0 where
  pub answer : r.answer ≡ x.answer
  pub played : r.played ≡ length x.course.results
  pub book : r.book ≡ x.course.book
  pub answers : Noted (answers_of x.course.results) answers₀ answers₁
  pub notices : Emits notices₀ notices₁ r.sent (notices_of x.course.results)

abbrev pub StretchPromised : List ℕ → Book → List ℕ → Replies → List ℕ → List ℕ → List ℕ → List ℕ → Type 0
StretchPromised calendar b tape r answers₀ answers₁ notices₀ notices₁ =
    Gives (stretch_call calendar b tape (length answers₀) (length notices₀)) r answers₀ answers₁ notices₀ notices₁

-- Nothing is free: two returns that are promised for one call are the same, and so are both buffers; proofs/Whole.antt proves it.
pub record Same (r s : Replies) (answers₁ answers₂ notices₁ notices₂ : List ℕ) : Type 0 where
  pub replies : r ≡ s
  pub answers : answers₁ ≡ answers₂
  pub notices : notices₁ ≡ notices₂

abbrev pub NothingFree : Type 0
NothingFree =
    (calendar : List ℕ) (b : Book) (tape : List ℕ) (r s : Replies) (answers₀ answers₁ answers₂ notices₀ notices₁ notices₂ : List ℕ)
    → StretchPromised calendar b tape r answers₀ answers₁ notices₀ notices₁
    → StretchPromised calendar b tape s answers₀ answers₂ notices₀ notices₂
    → Same r s answers₁ answers₂ notices₁ notices₂
