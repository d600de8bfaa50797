-- Document 02, change 10, as theorems about every answer that `compare` promises; proofs/Answers.antt and proofs/Books.antt prove them.
use Rattle.std.specs.Prelude.{ℕ, ◌≤◌, ◌<◌, ◌≡◌, ◌↔◌, List, true, false, length}
use Rattle.lists.specs.Search.{Each}
use Rattle.records.specs.Layout.{Bytes}
use Rattle.premise.specs.Refusals.{number}
use Rattle.book.specs.Book.{fresh_book}
use Rattle.book.specs.Calls.{notice_bytes}
use Rattle.demands.specs.Demand3.{Made, Played, Premise, SameBooks}
use Rattle.demands.specs.Tapes.{tape_of, own_of}
use Rattle.tape_agreement_rules.specs.declared.Agreement.{Agreement}
use Rattle.tape_agreement_rules.specs.Agreement.{says_yes, number_given, records_in, marks_of, Compared}

-- At a premise, named or not: its own records and the day marks, in the same order and with the same bytes.
abbrev pub AgreeAt : List ℕ → List ℕ → ℕ → Type 0
AgreeAt ours theirs premise = own_of premise (records_in ours) ≡ own_of premise (records_in theirs)

abbrev pub MarksAgree : List ℕ → List ℕ → Type 0
MarksAgree ours theirs = marks_of (records_in ours) ≡ marks_of (records_in theirs)

-- ---- yes
-- "The tool says yes exactly when, for each premise, the well-formed records naming it together with the day marks stand in the same order
-- and with the same bytes on both tapes" ..
abbrev pub YesExactly : Type 0
YesExactly =
    (ours theirs : List ℕ) (answer : Agreement) → Bytes ours → Bytes theirs → Compared ours theirs answer
    → (says_yes answer ≡ true) ↔ ((premise : ℕ) → Premise premise → AgreeAt ours theirs premise)

-- .. "the day marks by themselves included": whoever agrees at one premise agrees on the marks. "with a yes that number is 0"
pub record YesGives (ours theirs : List ℕ) (answer : Agreement) : Type 0 where
  pub marks_too : MarksAgree ours theirs
  pub gives : number_given answer ≡ 0

abbrev pub YesIncludesMarks : Type 0
YesIncludesMarks =
    (ours theirs : List ℕ) (answer : Agreement) → Bytes ours → Bytes theirs → Compared ours theirs answer
    → says_yes answer ≡ true → YesGives ours theirs answer

-- ---- no
pub record SaysNo (answer : Agreement) (given : ℕ) : Type 0 where
  pub no : says_yes answer ≡ false
  pub gives : number_given answer ≡ given

-- "With a no it also gives 0 if the day marks alone differ": if they differ taken by themselves, whatever else does ..
abbrev pub NoGivesZero : Type 0
NoGivesZero =
    (ours theirs : List ℕ) (answer : Agreement) → Bytes ours → Bytes theirs → Compared ours theirs answer
    → SaysNo answer 0 ↔ (MarksAgree ours theirs → ⊥)

-- .. "otherwise the smallest P at which they differ"
pub record SmallestDiffers (ours theirs : List ℕ) (premise : ℕ) : Type 0 where
  pub marks : MarksAgree ours theirs
  pub ranged : Premise premise
  pub differ : AgreeAt ours theirs premise → ⊥
  pub below : (other : ℕ) → Premise other → other < premise → AgreeAt ours theirs other

abbrev pub NoGivesPremise : Type 0
NoGivesPremise =
    (ours theirs : List ℕ) (answer : Agreement) → Bytes ours → Bytes theirs → Compared ours theirs answer
    → (premise : ℕ) → 0 < premise → SaysNo answer premise ↔ SmallestDiffers ours theirs premise

-- ---- "When it says yes, and neither tape is answered 6 anywhere, both tapes lead to equal books from one fresh book under one calendar
-- with full notice space"
-- record calls made of a whole tape, one for each of its records in order, each on the book that the one before returned, with at least
-- 24,576 bytes lent each time, and none answered 6
pub record TapeCalls (calendar : List ℕ) (start : ℕ) (tape : List ℕ) (ms : List Made) : Type 0 where
  pub played : Played calendar (fresh_book start) ms
  pub fed : tape_of ms ≡ records_in tape
  pub room : Each (λ (m : Made). notice_bytes ≤ length m.lent) ms
  pub places : Each (λ (m : Made). number m.reply.answer ≡ 6 → ⊥) ms

-- "this is to be shown with the tool's own answer as its premise"
abbrev pub YesMeansEqualBooks : Type 0
YesMeansEqualBooks =
    (calendar : List ℕ) (start : ℕ) (ours theirs : List ℕ) (answer : Agreement) → Bytes ours → Bytes theirs → Compared ours theirs answer
    → says_yes answer ≡ true → (ms ns : List Made)
    → TapeCalls calendar start ours ms → TapeCalls calendar start theirs ns
    → SameBooks start ms ns
