use Rattle.esi_rules.proofs.KeyLaws.{key_is}
use Rattle.esi_directory.proofs.keys.key_of.Goals as goal

pub returns : goal.returns
returns c = key_is c.args.bytes.now 0 _ _ c.eight.ensures c.four.ensures
