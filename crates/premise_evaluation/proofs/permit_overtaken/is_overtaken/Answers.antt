use mathlib.Core.Path.{sym, ◌∙◌}
use borrow.Author.Rules.{rules}
use Rattle.lists.proofs.Chains.{any_is}
use Rattle.premise.specs.Orders.{blank}
use Rattle.premise.specs.Evaluation.{overtakes, is_overtaken}
use Rattle.premise_evaluation.proofs.permit_overtaken.is_overtaken.Goals as goal

pub returns-then-awaits_permit : goal.returns-then-awaits_permit
unfolding is_overtaken
returns-then-awaits_permit c =
    let a = c.args in
    let waits = sym c.awaits_permit.ensures ∙ c.if-awaits_permit.true in
    rw waits (any_is (overtakes a.today a.o.requested) a.orders.now blank _ (search rules) (search rules))
