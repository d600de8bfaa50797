-- `any_open` meets its contract, by what `any` says of each order.
use borrow.Author.Rules.{rules}
use Rattle.lists.proofs.Chains.{any_is}
use Rattle.premise.specs.Orders.{is_open, blank}
use Rattle.premise_file.proofs.open.any_open.Goals as goal

pub returns : goal.returns
returns c = any_is is_open c.args.orders.now blank _ (search rules) (search rules)
