-- Demand 3 of calls of many records, one after the other from a fresh book: whatever the order of records between flats, and wherever the
-- tape is cut into stretches, each premise has what the one-premise rules give from its own records and the day marks.
-- proofs/Stretches.antt proves it (`stretches_each_alone`, `stretches_shuffled`).
use Rattle.std.specs.Prelude.{ℕ, ◌≡◌, List, [], ◌∷◌, ◌++◌, cond, take}
use Rattle.lists.specs.Search.{Each}
use Rattle.records.specs.Layout.{Bytes}
use Rattle.records.specs.Records.{reading}
use Rattle.records.specs.Notices.{rows}
use Rattle.premise.specs.OnePremise.{start_state, runs, end_state}
use Rattle.book.specs.declared.Book.{Book}
use Rattle.book.specs.Book.{files_of, fresh_book, file_for}
use Rattle.demands.specs.Demand3.{Premise, concerns, records, with_premise, ruled_answers, ruled_notices}
use Rattle.demands.specs.Tapes.{own_of}
use Rattle.stretch_rules.specs.declared.Replies.{Replies}
use Rattle.stretch_rules.specs.Stretch.{whole_records, StretchPromised}

-- ---- calls that were made
-- one call: the stretch, the two buffers that it was lent, what it returned, and the buffers on return
pub record MadeStretch : Type 0 where
  pub tape : List ℕ
  pub answers_lent : List ℕ
  pub notices_lent : List ℕ
  pub replies : Replies
  pub answers_after : List ℕ
  pub notices_after : List ℕ

-- each call keeps its promise, and gets the book that the one before it returned
abbrev pub PlayedStretches : List ℕ → Book → List MadeStretch → Type 0
PlayedStretches calendar b [] = Unit {0}
PlayedStretches calendar b (s ∷ ss) =
    StretchPromised calendar b s.tape s.replies s.answers_lent s.answers_after s.notices_lent s.notices_after
    × PlayedStretches calendar s.replies.book ss

-- the book that the last returned
abbrev pub book_after : Book → List MadeStretch → Book
book_after b [] = b
book_after b (s ∷ ss) = book_after s.replies.book ss

-- ---- what they played and gave, call after call: the records, the answer bytes up to the number played, the notices up to those written
abbrev pub records_played : List MadeStretch → List (List ℕ)
records_played [] = []
records_played (s ∷ ss) = take s.replies.played (whole_records s.tape) ++ records_played ss

abbrev pub answers_given : List MadeStretch → List ℕ
answers_given [] = []
answers_given (s ∷ ss) = take s.replies.played s.answers_after ++ answers_given ss

abbrev pub notices_given : List MadeStretch → List (List ℕ)
notices_given [] = []
notices_given (s ∷ ss) = rows s.replies.sent s.notices_after ++ notices_given ss

-- ---- the premises of the theorem: from a fresh book; the stretches are bytes; no record was answered 6
pub record FromFresh (calendar : List ℕ) (start : ℕ) (ss : List MadeStretch) : Type 0 where
  pub played : PlayedStretches calendar (fresh_book start) ss
  pub real : Each (λ (s : MadeStretch). Bytes s.tape) ss
  pub places : Each (λ (answer : ℕ). answer ≡ 6 → ⊥) (answers_given ss)

-- ---- what one premise sees
-- the answers to its own records and to the day marks
abbrev pub own_answers : ℕ → List (List ℕ) → List ℕ → List ℕ
own_answers premise [] answers = []
own_answers premise (bytes ∷ rest) [] = []
own_answers premise (bytes ∷ rest) (answer ∷ answers) =
    cond (concerns premise (reading bytes)) (answer ∷ own_answers premise rest answers) (own_answers premise rest answers)

-- Every premise has the file, answers and notices that the one-premise rules give from its own records and the day marks alone; and T is
-- theirs.
pub record StretchesAsRuled (calendar : List ℕ) (start premise : ℕ) (ss : List MadeStretch) : Type 0 where
  pub file : file_for premise (files_of (book_after (fresh_book start) ss))
      ≡ (end_state calendar (start_state start) (records (own_of premise (records_played ss)))).file
  pub today : (book_after (fresh_book start) ss).today
      ≡ (end_state calendar (start_state start) (records (own_of premise (records_played ss)))).today
  pub answered : own_answers premise (records_played ss) (answers_given ss)
      ≡ ruled_answers (runs calendar (start_state start) (records (own_of premise (records_played ss))))
  pub notices : with_premise premise (notices_given ss)
      ≡ ruled_notices (runs calendar (start_state start) (records (own_of premise (records_played ss))))

abbrev pub StretchesEachAlone : Type 0
StretchesEachAlone =
    (calendar : List ℕ) (start : ℕ) (ss : List MadeStretch) → FromFresh calendar start ss
    → (premise : ℕ) → Premise premise → StretchesAsRuled calendar start premise ss

-- Any two such lists that agree premise by premise on the records played give the same for every premise and equal books.
pub record SameOfStretches (start premise : ℕ) (ss ts : List MadeStretch) : Type 0 where
  pub file : file_for premise (files_of (book_after (fresh_book start) ss)) ≡ file_for premise (files_of (book_after (fresh_book start) ts))
  pub answered : own_answers premise (records_played ss) (answers_given ss) ≡ own_answers premise (records_played ts) (answers_given ts)
  pub notices : with_premise premise (notices_given ss) ≡ with_premise premise (notices_given ts)

pub record SameBooksOfStretches (start : ℕ) (ss ts : List MadeStretch) : Type 0 where
  pub each : (premise : ℕ) → Premise premise → SameOfStretches start premise ss ts
  pub book : book_after (fresh_book start) ss ≡ book_after (fresh_book start) ts

abbrev pub StretchesShuffled : Type 0
StretchesShuffled =
    (calendar : List ℕ) (start : ℕ) (one other : List MadeStretch) → FromFresh calendar start one → FromFresh calendar start other
    → ((premise : ℕ) → Premise premise → own_of premise (records_played one) ≡ own_of premise (records_played other))
    → SameBooksOfStretches start one other
