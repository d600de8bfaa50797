-- `on_named` meets its contract: where no order has the reference, row 13 refuses.
use mathlib.Core.Path.{◌≡◌}
use Rattle.std.specs.Prelude.{Err, None}
use Rattle.premise.specs.declared.Refusal.TheVariants.{NoSuchOrder}
use Rattle.premise.specs.Orders.{held}
use Rattle.premise.specs.Steps.{named}
use Rattle.premise_steps.proofs.Answered.{answered_quiet}
use Rattle.premise_steps.proofs.named.ByAnswer.{named_missing}
use Rattle.premise_steps.proofs.named.on_named.Goals as goal

pub returns-in_default : goal.returns-in_default
returns-in_default c =
    let a = c.args in
    let none : named a.r (held a.file.now) ≡ None = cc in
    answered_quiet (Err NoSuchOrder) a.today a.file.now a.out.now
    (named_missing a.calendar.now a.today a.file.now a.r c.requires.names_an_order none)
