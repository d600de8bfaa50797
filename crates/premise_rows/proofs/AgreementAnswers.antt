-- The rows of the table on an agreement: 18, or none. Assumes nothing.
use Prim.Native.Nat.{ℕ}
use mathlib.Core.Path.{◌≡◌}
use mathlib.Core.List.{List}
use Rattle.std.specs.Prelude.{Some}
use mathlib.Core.Bool.{cond}
use Rattle.records.specs.declared.Record.{Record}
use Rattle.records.specs.Records.{kind_agreement}
use Rattle.premise.specs.declared.File.{File}
use Rattle.std.specs.Prelude.{Ok, Err}
use Rattle.premise.specs.declared.Refusal.TheVariants.{OtherAgreement}
use Rattle.premise.specs.Refusals.{first_row, premise_rows, order_rows, rows}
use Rattle.premise_rows.specs.AgreementRows.{deletes_another}

pub agreement_answer : (calendar : List ℕ) (today : ℕ) (f : File) (r : Record) → r.kind ≡ kind_agreement
    → first_row (rows calendar today (Some f) r) ≡ cond (deletes_another f.agreement r) (Err OtherAgreement) (Ok tt)
unfolding premise_rows order_rows
agreement_answer calendar today f r e = rw e
