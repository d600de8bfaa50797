-- What a record of kinds 1 and 2 gives: one law for each of rows 5 and 7, and one for each acceptance. Assumes nothing.
use Prim.Native.Nat.{ℕ}
use mathlib.Core.Path.{◌≡◌, refl, ◌∙◌}
use mathlib.Core.List.{List, []}
use Rattle.std.specs.Prelude.{Some, None}
use mathlib.Core.Bool.{true, false, cond}
use Rattle.lists.specs.Search.{any_of}
use Rattle.records.specs.declared.Record.{Record}
use Rattle.records.specs.Records.{kind_create, kind_retire}
use Rattle.premise.specs.declared.File.{File}
use Rattle.std.specs.Prelude.{Ok, Err}
use Rattle.premise.specs.declared.Refusal.TheVariants.{PremiseHeld, OrderOpen}
use Rattle.premise.specs.Orders.{is_open, held}
use Rattle.premise.specs.Steps.{new_file}
use Rattle.premise.specs.Refusals.{number, first_row, premise_rows, order_rows, rows}
use Rattle.premise.specs.OnePremise.{accepted, refused, step}
use Rattle.premise_steps.proofs.Decided.{on, refused_by, accepted_by}

-- ---- row 5: whether there is a file
module _ (calendar : List ℕ) (today : ℕ) (r : Record) where
  pub create_held : (f : File) → r.kind ≡ kind_create → step calendar (on today (Some f)) r ≡ refused (Err PremiseHeld) (on today (Some f))
  unfolding premise_rows number
  create_held f e = refused_by calendar today (Some f) r (Err PremiseHeld) (rw e) refl

  pub create_done : r.kind ≡ kind_create → step calendar (on today None) r ≡ accepted [] (on today (Some (new_file r)))
  unfolding premise_rows order_rows number
  create_done e = accepted_by calendar today None r (Ok tt) (rw e) refl ∙ rw e

-- ---- row 7
module _ (calendar : List ℕ) (today : ℕ) (f : File) (r : Record) (e : r.kind ≡ kind_retire) where
  retire_answer : first_row (rows calendar today (Some f) r) ≡ cond (any_of is_open (held f)) (Err OrderOpen) (Ok tt)
  unfolding premise_rows order_rows
  retire_answer = rw e

  pub retire_open : any_of is_open (held f) ≡ true → step calendar (on today (Some f)) r ≡ refused (Err OrderOpen) (on today (Some f))
  unfolding number
  retire_open h = refused_by calendar today (Some f) r (Err OrderOpen) (retire_answer ∙ rw h) refl

  pub retire_done : any_of is_open (held f) ≡ false → step calendar (on today (Some f)) r ≡ accepted [] (on today None)
  unfolding number
  retire_done h = accepted_by calendar today (Some f) r (Ok tt) (retire_answer ∙ rw h) refl ∙ rw e
