use mathlib.Core.Path.{sym, ◌∙◌}
use borrow.Author.Rules.{rules}
use Rattle.lists.proofs.Chains.{any_is}
use Rattle.premise.specs.Orders.{blank}
use Rattle.premise.specs.Evaluation.{switch_on, is_displaced}
use Rattle.premise_evaluation.proofs.drop_on_switch_day.is_displaced.Goals as goal

pub returns-then-is_near_drop : goal.returns-then-is_near_drop
unfolding is_displaced
returns-then-is_near_drop c =
    let a = c.args in
    let near = sym c.is_near_drop.ensures ∙ c.if-is_near_drop.true in
    rw near (any_is (switch_on a.o.scheduled) a.orders.now blank _ (search rules) (search rules))
