use mathlib.Core.Path.{sym, ◌∙◌}
use borrow.Author.Rules.{rules}
use Rattle.lists.proofs.Find.{drop-first, drop-none, any_hit, any_next, any_end}
use Rattle.premise.specs.FirstIn.{stands_in_way, not_first_in}
use Rattle.premise.specs.Orders.{blank}
use Rattle.premise_rows.proofs.first_in.not_first_in.Goals as goal

pub orders-preserved : goal.orders-preserved
orders-preserved c = (
  search rules,
  sym (any_next (stands_in_way c.args.new c.args.requested) (drop-first blank c.args.orders.now c.orders.i (search rules))
      (sym c.stands_in_way.ensures ∙ c.if-stands_in_way.false)) ∙ c.orders.invariant.1,
)

pub returns-then-orders-i : goal.returns-then-orders-i
unfolding not_first_in
returns-then-orders-i c =
    sym (any_end (stands_in_way c.args.new c.args.requested) (drop-none c.args.orders.now c.orders.i (search rules)))
    ∙ c.orders.invariant.1

pub returns-then-stands_in_way : goal.returns-then-stands_in_way
unfolding not_first_in
returns-then-stands_in_way c =
    sym (any_hit (stands_in_way c.args.new c.args.requested) (drop-first blank c.args.orders.now c.orders.i (search rules))
    (sym c.stands_in_way.ensures ∙ c.if-stands_in_way.true)) ∙ c.orders.invariant.1
