-- `find` meets its contract, by what `position` says of each order.
use borrow.Author.Rules.{rules}
use lib.Dec.{eqb}
use Rattle.lists.proofs.Chains.{place_is}
use Rattle.premise.specs.declared.Order.{Order}
use Rattle.premise.specs.Orders.{blank}
use Rattle.premise_file.proofs.orders.find.Goals as goal

pub returns : goal.returns
returns c = place_is (λ (o : Order). eqb o.reference c.args.reference) c.args.orders.now blank _ (search rules) (search rules)
