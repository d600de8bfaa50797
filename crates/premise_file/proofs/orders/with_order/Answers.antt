-- `with_order` meets its contract: the order at the place is replaced, by the law `set-held`.
use Rattle.premise_laws.proofs.FileOrders.{set-held}
use Rattle.premise_file.proofs.orders.with_order.Goals as goal

pub returns : goal.returns
returns c = set-held c.args.file.now c.requires.0 c.args.i c.args.order c.requires.1
