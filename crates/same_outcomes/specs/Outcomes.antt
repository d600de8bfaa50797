-- What comes of record calls, call by call, by the rules with a layout and a width of window: the theorems of document 02, changes 2 and 7,
-- hold two such families of rules against each other. proofs/Outcomes.antt ties them to the record call's promise.
use Rattle.std.specs.Prelude.{ℕ, ◌*◌, ◌≡◌, List, [], ◌∷◌, ◌++◌, map, length, drop}
use Rattle.records.specs.Layout.{Layout, record_length}
use Rattle.records.specs.Notices.{encode_all_by}
use Rattle.premise.specs.declared.File.{File}
use Rattle.premise.specs.Orders.{kept_width}
use Rattle.premise.specs.Refusals.{number}
use Rattle.book.specs.declared.Book.{Book}
use Rattle.book.specs.declared.Reply.{Reply}
use Rattle.book.specs.Calls.{Result, call_by}
use Rattle.book.specs.Promise.{PromisedBy}
use Rattle.demands.specs.Demand3.{Made, PlayedBy}

-- ---- what comes of a call
-- the answer's number, the number of notices, the book afterwards, and every byte of the buffer on return
pub record Outcome : Type 0 where
  pub answer : ℕ
  pub sent : ℕ
  pub book : Book
  pub after : List ℕ

-- the notices stand at the buffer's start, and the rest of it stays
abbrev pub outcome_of : Layout → Result → List ℕ → Outcome
outcome_of layout x lent =
    record {
      answer = number x.answer;
      sent = length x.notices;
      book = x.book;
      after = encode_all_by layout x.notices ++ drop (record_length * length x.notices) lent;
    }

-- by the rules with a layout, and a width for every file
abbrev pub outcome_by : Layout → (File → ℕ) → List ℕ → Book → List ℕ → List ℕ → Outcome
outcome_by layout width calendar b bytes lent = outcome_of layout (call_by layout width calendar b bytes lent) lent

-- ---- calls to be made
-- one call: a record's bytes and the buffer that it is lent, each of any length
pub record ToMake : Type 0 where
  pub bytes : List ℕ
  pub lent : List ℕ

-- what comes of each, on the book that the one before it left
abbrev pub outcomes_by : Layout → (File → ℕ) → List ℕ → Book → List ToMake → List Outcome
outcomes_by layout width calendar b [] = []
outcomes_by layout width calendar b (c ∷ cs) =
    outcome_by layout width calendar b c.bytes c.lent
    ∷ outcomes_by layout width calendar (outcome_by layout width calendar b c.bytes c.lent).book cs

-- ---- calls that were made
-- what a call returned, and the buffer as it was left
abbrev pub returned : Reply → List ℕ → Outcome
returned r after = record { answer = number r.answer; sent = r.sent; book = r.book; after = after }

abbrev pub all_returned : List Made → List Outcome
all_returned ms = map (λ (m : Made). returned m.reply m.after) ms

abbrev pub asked : List Made → List ToMake
asked ms = map (λ (m : Made). record { bytes = m.bytes; lent = m.lent }) ms

-- Whatever keeps the record call's promise, by a layout, is what comes of the call by the rules with that layout and the kept width ..
abbrev pub PromisedIsOutcome : Type 0
PromisedIsOutcome =
    (layout : Layout) (calendar : List ℕ) (b : Book) (bytes before : List ℕ) (r : Reply) (after : List ℕ)
    → PromisedBy layout calendar b bytes before r after
    → returned r after ≡ outcome_by layout kept_width calendar b bytes before

-- .. and so call after call.
abbrev pub PlayedIsOutcomes : Type 0
PlayedIsOutcomes =
    (layout : Layout) (calendar : List ℕ) (b : Book) (ms : List Made)
    → PlayedBy layout calendar b ms
    → all_returned ms ≡ outcomes_by layout kept_width calendar b (asked ms)
