-- `are_blank` meets its contract, by what `all` says of each place.
use borrow.Author.Rules.{rules}
use Rattle.lists.proofs.Chains.{all_is}
use Rattle.premise.specs.Orders.{blank}
use Rattle.premise.specs.WellKept.{is_blank}
use Rattle.premise_kept.proofs.unused.are_blank.Goals as goal

pub returns : goal.returns
returns c = all_is is_blank c.args.places.now blank _ (search rules) (search rules)
