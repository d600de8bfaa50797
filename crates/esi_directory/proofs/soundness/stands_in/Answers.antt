use Rattle.std.proofs.Common.{[], rules}
use Rattle.lists.proofs.Chains.{any_is}
use Rattle.esi_rules.specs.Keys.{has_either}
use Rattle.esi_directory.proofs.soundness.stands_in.Goals as goal

pub returns : goal.returns
returns c = any_is (has_either c.args.key c.args.premise) c.args.records.now [] _ (search rules) (search rules)
