use Rattle.std.proofs.Common.{[], rules}
use Rattle.lists.proofs.Chains.{all_is}
use Rattle.esi_rules.specs.Directory.{record_kept}
use Rattle.esi_directory.proofs.soundness.records_kept.Goals as goal

pub returns : goal.returns
returns c = all_is record_kept c.args.records.now [] _ (search rules) (search rules)
