-- A fleet of books, from demand 3; proofs/Fleet.antt proves it. A firm with more flats than a book holds keeps several: a premise has a
-- home, one of the books; each book is fed, in tape order, the records of the premises whose home it is, and every day mark. Then every
-- premise has, in its home, what the one-premise rules give from its own records and the day marks of the whole tape; no other book has a
-- file or a notice of it; and any other fleet that is fed a tape which agrees premise by premise has the same.
use Rattle.std.specs.Prelude.{ℕ, ◌<◌, ◌≡◌, List, [], ◌∷◌, Bool, true, cond, eqb}
use Rattle.std.specs.Prelude.{Option, Some, None}
use Rattle.records.specs.declared.Record.{Record}
use Rattle.records.specs.Records.{reading, kind_day_mark}
use Rattle.premise.specs.Steps.{is}
use Rattle.premise.specs.OnePremise.{start_state, runs, end_state}
use Rattle.book.specs.Book.{files_of, fresh_book, file_for}
use Rattle.demands.specs.Demand3.{Made, last_book, Premise, records, answers, notices_for, ruled_answers, ruled_notices}
use Rattle.demands.specs.Tapes.{Plays, own_of}

-- what goes to book k: every day mark, and the records of the premises whose home it is; what is malformed goes wherever `stray` says
abbrev pub goes_to : (ℕ → ℕ) → (List ℕ → ℕ → Bool) → ℕ → List ℕ → Option Record → Bool
goes_to home stray k bytes None = stray bytes k
goes_to home stray k bytes (Some r) = cond (is kind_day_mark r) true (eqb (home r.premise) k)

abbrev pub share : (ℕ → ℕ) → (List ℕ → ℕ → Bool) → ℕ → List (List ℕ) → List (List ℕ)
share home stray k [] = []
share home stray k (bytes ∷ tape) =
    cond (goes_to home stray k bytes (reading bytes)) (bytes ∷ share home stray k tape) (share home stray k tape)

-- A fleet of so many books that played a tape, with one calendar and start day for all: every premise has a home among them, and each
-- book's calls are made of its share. So 64 files a book, and not 64 in all, is what its creates need.
pub record Fleet (calendar : List ℕ) (start size : ℕ) (home : ℕ → ℕ) (stray : List ℕ → ℕ → Bool) (tape : List (List ℕ))
    (made : ℕ → List Made) : Type 0 where
  pub homes : (premise : ℕ) → Premise premise → home premise < size
  pub plays : (k : ℕ) → k < size → Plays calendar start (share home stray k tape) (made k)

-- ---- at home
-- what the one-premise rules give a premise of a tape: its file, T, its answers and its notices
pub record HomeAsRuled (calendar : List ℕ) (start premise : ℕ) (tape : List (List ℕ)) (ms : List Made) : Type 0 where
  pub file : file_for premise (files_of (last_book (fresh_book start) ms))
      ≡ (end_state calendar (start_state start) (records (own_of premise tape))).file
  pub today : (last_book (fresh_book start) ms).today ≡ (end_state calendar (start_state start) (records (own_of premise tape))).today
  pub answered : answers premise ms ≡ ruled_answers (runs calendar (start_state start) (records (own_of premise tape)))
  pub notices : notices_for premise ms ≡ ruled_notices (runs calendar (start_state start) (records (own_of premise tape)))

abbrev pub FleetAsRuled : Type 0
FleetAsRuled =
    (calendar : List ℕ) (start size : ℕ) (home : ℕ → ℕ) (stray : List ℕ → ℕ → Bool) (tape : List (List ℕ)) (made : ℕ → List Made)
    → Fleet calendar start size home stray tape made
    → (premise : ℕ) → Premise premise → HomeAsRuled calendar start premise tape (made (home premise))

-- ---- away from home
-- a book that is not a premise's home knows nothing of it
pub record Silent (start premise : ℕ) (ms : List Made) : Type 0 where
  pub file : file_for premise (files_of (last_book (fresh_book start) ms)) ≡ None
  pub notices : notices_for premise ms ≡ []

abbrev pub OthersSilent : Type 0
OthersSilent =
    (calendar : List ℕ) (start size : ℕ) (home : ℕ → ℕ) (stray : List ℕ → ℕ → Bool) (tape : List (List ℕ)) (made : ℕ → List Made)
    → Fleet calendar start size home stray tape made
    → (premise k : ℕ) → Premise premise → k < size → (home premise ≡ k → ⊥) → Silent start premise (made k)

-- ---- any other split
-- the same for a premise in its home here and in its home there
pub record SameAtHome (start premise : ℕ) (ms ns : List Made) : Type 0 where
  pub file : file_for premise (files_of (last_book (fresh_book start) ms)) ≡ file_for premise (files_of (last_book (fresh_book start) ns))
  pub today : (last_book (fresh_book start) ms).today ≡ (last_book (fresh_book start) ns).today
  pub answered : answers premise ms ≡ answers premise ns
  pub notices : notices_for premise ms ≡ notices_for premise ns

-- two fleets, split as they like, fed tapes that agree premise by premise
abbrev pub AnySplit : Type 0
AnySplit =
    (calendar : List ℕ) (start size size₂ : ℕ) (home home₂ : ℕ → ℕ) (stray stray₂ : List ℕ → ℕ → Bool) (tape tape₂ : List (List ℕ))
    (made made₂ : ℕ → List Made)
    → Fleet calendar start size home stray tape made → Fleet calendar start size₂ home₂ stray₂ tape₂ made₂
    → ((premise : ℕ) → Premise premise → own_of premise tape ≡ own_of premise tape₂)
    → (premise : ℕ) → Premise premise → SameAtHome start premise (made (home premise)) (made₂ (home₂ premise))

-- a fleet, and one book that is fed the whole tape, where one book is enough for it
abbrev pub AsOneBook : Type 0
AsOneBook =
    (calendar : List ℕ) (start size : ℕ) (home : ℕ → ℕ) (stray : List ℕ → ℕ → Bool) (tape : List (List ℕ)) (made : ℕ → List Made)
    (ms : List Made)
    → Fleet calendar start size home stray tape made → Plays calendar start tape ms
    → (premise : ℕ) → Premise premise → SameAtHome start premise (made (home premise)) ms
