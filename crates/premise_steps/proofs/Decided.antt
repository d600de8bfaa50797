-- What a record gives, by the answer of the rows. Assumes nothing.
use Prim.Native.Nat.{ℕ}
use mathlib.Core.Path.{◌≡◌, ap, ◌∙◌}
use mathlib.Core.List.{List}
use Rattle.std.specs.Prelude.{Option}
use mathlib.Core.Bool.{true, false}
use lib.Dec.{eqb}
use Rattle.records.specs.declared.Record.{Record}
use Rattle.premise.specs.declared.File.{File}
use Rattle.premise.specs.Refusals.{Answer}
use Rattle.premise.specs.Refusals.{number, first_row, rows}
use Rattle.premise.specs.OnePremise.{State, refused, effect_on, decide, step, step_with}

-- T and a file or none
abbrev pub on : ℕ → Option File → State
on today file = record { today = today; file = file }

module _ (calendar : List ℕ) (today : ℕ) (file : Option File) (r : Record) where
  pub refused_by : (answer : Answer) → first_row (rows calendar today file r) ≡ answer → eqb (number answer) 0 ≡ false
      → step calendar (on today file) r ≡ refused answer (on today file)
  unfolding step_with
  refused_by answer e n = ap (λ (a : Answer). decide a (effect_on calendar today file r) (on today file)) e ∙ rw n

  pub accepted_by : (answer : Answer) → first_row (rows calendar today file r) ≡ answer → eqb (number answer) 0 ≡ true
      → step calendar (on today file) r ≡ effect_on calendar today file r
  unfolding step_with
  accepted_by answer e n = ap (λ (a : Answer). decide a (effect_on calendar today file r) (on today file)) e ∙ rw n
