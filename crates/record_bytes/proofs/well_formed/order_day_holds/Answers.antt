-- `order_day_holds` meets its contract: the test on the order kind picks the case.
use mathlib.Core.Path.{sym, ap}
use mathlib.Core.Bool.{Bool, cond}
use borrow.Author.Tests.{eq-eqb, ne_eqb}
use Rattle.days.specs.Days.{is_day}
use Rattle.records.specs.Records.{unused}
use Rattle.record_bytes.proofs.well_formed.order_day_holds.Goals as goal

pub returns-then-kind-eq-STANDARD_SWITCH : goal.returns-then-kind-eq-STANDARD_SWITCH
returns-then-kind-eq-STANDARD_SWITCH c = sym (ap (λ (switch : Bool). cond switch unused is_day c.args.day) (eq-eqb _ _ c.if-kind-eq-STANDARD_SWITCH.true))

pub returns-else-kind-eq-STANDARD_SWITCH : goal.returns-else-kind-eq-STANDARD_SWITCH
returns-else-kind-eq-STANDARD_SWITCH c = sym (ap (λ (switch : Bool). cond switch unused is_day c.args.day) (ne_eqb _ _ c.if-kind-eq-STANDARD_SWITCH.false))
