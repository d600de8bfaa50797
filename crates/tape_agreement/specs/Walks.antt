-- What the walks over a tape give: the next record that concerns a premise, and the next premise that is named.
use Rattle.std.specs.Prelude.{ℕ, ◌-◌, ◌≤◌, ◌≡◌, List, [], ◌∷◌, Bool, true, false, cond, ◌&&◌, ltb, length, take, drop}
use Rattle.std.specs.Prelude.{Option, Some, None}
use Rattle.records.specs.declared.Record.{Record}
use Rattle.records.specs.Layout.{record_length}
use Rattle.records.specs.Records.{reading, kind_day_mark}
use Rattle.premise.specs.Steps.{is}
use Rattle.demands.specs.Demand3.{concerns}
use Rattle.demands.specs.Tapes.{own_of}
use Rattle.tape_agreement_rules.specs.Agreement.{records_in}

-- the 24 bytes from a place on
abbrev pub record_at : List ℕ → ℕ → List ℕ
record_at tape at = take record_length (drop at tape)

-- whether bytes are well formed
abbrev pub is_said : Option Record → Bool
is_said None = false
is_said (Some r) = true

-- the premise that a record names, if it lies above the last one and below the nearest so far; else that
abbrev pub nearer : ℕ → ℕ → Option Record → ℕ
nearer last so_far None = so_far
nearer last so_far (Some r) =
    cond (is kind_day_mark r) so_far (cond (ltb last r.premise && ltb r.premise so_far) r.premise so_far)

-- the smallest that some records name above the last one and below a limit; the limit where there is none
abbrev pub nearest : ℕ → ℕ → List (List ℕ) → ℕ
nearest last limit [] = limit
nearest last limit (bytes ∷ rest) = nearest last (nearer last limit (reading bytes)) rest

-- the largest premise there is
abbrev pub last_premise : ℕ
last_premise = 18446744073709551615

-- the smallest that either of two tapes names above the last one; the largest there is where neither names one
abbrev pub next_named : ℕ → List (List ℕ) → List (List ℕ) → ℕ
next_named last us them = nearest last (nearest last last_premise us) them

-- a place that a walk for a premise reaches from another: nothing that concerns it stands between, and the record there does, if one is
-- left
pub record Reaches (premise : ℕ) (tape : List ℕ) (from to : ℕ) : Type 0 where
  pub onward : from ≤ to
  pub within : to ≤ length tape
  pub rest : own_of premise (records_in (drop to tape)) ≡ own_of premise (records_in (drop from tape))
  pub stands : record_length ≤ length tape - to → concerns premise (reading (record_at tape to)) ≡ true
