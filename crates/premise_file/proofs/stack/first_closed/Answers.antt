-- `first_closed` meets its contract, by what `position` says of each order.
use borrow.Author.Rules.{rules}
use Rattle.lists.proofs.Chains.{place_is}
use Rattle.premise.specs.Orders.{is_closed, blank}
use Rattle.premise_file.proofs.stack.first_closed.Goals as goal

pub returns : goal.returns
returns c = place_is is_closed c.args.orders.now blank _ (search rules) (search rules)
