use borrow.Author.Rules.{rules}
use Rattle.lists.proofs.Chains.{place_is}
use Rattle.days.specs.Window.{up_to}
use Rattle.premise.specs.Orders.{blank}
use Rattle.premise_evaluation.specs.Contenders.{rival}
use Rattle.premise_evaluation.proofs.same_day_switches.first_rival.Goals as goal

pub returns : goal.returns
returns c = let a = c.args in place_is (rival (up_to a.last) a.day a.only) a.orders.now blank _ (search rules) (search rules)
