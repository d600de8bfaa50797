-- A tape of records, as bytes, and the calls that were made of it: what the corollaries of demand 3 speak of.
use Rattle.std.specs.Prelude.{ℕ, ◌≡◌, List, [], ◌∷◌, map, Bool, false, cond, not, ◌&&◌, eqb}
use Rattle.std.specs.Prelude.{Option, Some, None}
use Rattle.records.specs.declared.Record.{Record}
use Rattle.records.specs.Records.{reading, kind_day_mark}
use Rattle.premise.specs.Steps.{is}
use Rattle.book.specs.Book.{fresh_book}
use Rattle.demands.specs.Demand3.{Made, Played, AllAllowed, concerns}

-- the records that calls were made on
abbrev pub tape_of : List Made → List (List ℕ)
tape_of ms = map (λ (m : Made). m.bytes) ms

-- calls made of a tape's records, one after the other from a fresh book, under demand 3's premises
pub record Plays (calendar : List ℕ) (start : ℕ) (tape : List (List ℕ)) (ms : List Made) : Type 0 where
  pub fed : tape_of ms ≡ tape
  pub played : Played calendar (fresh_book start) ms
  pub allowed : AllAllowed (fresh_book start) ms

-- the records of a tape that concern a premise: its own and the day marks
abbrev pub own_of : ℕ → List (List ℕ) → List (List ℕ)
own_of premise [] = []
own_of premise (bytes ∷ tape) = cond (concerns premise (reading bytes)) (bytes ∷ own_of premise tape) (own_of premise tape)

-- a record of a premise: well formed, no day mark, with its number
abbrev pub of_premise : ℕ → Option Record → Bool
of_premise premise None = false
of_premise premise (Some r) = not (is kind_day_mark r) && eqb r.premise premise

-- a tape without the records of a premise
abbrev pub without : ℕ → List (List ℕ) → List (List ℕ)
without premise [] = []
without premise (bytes ∷ tape) = cond (of_premise premise (reading bytes)) (without premise tape) (bytes ∷ without premise tape)
