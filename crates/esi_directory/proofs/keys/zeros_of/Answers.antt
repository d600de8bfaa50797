use Rattle.records.specs.Layout.{field_of}
use Rattle.esi_directory.proofs.keys.zeros_of.Goals as goal

pub returns : goal.returns
unfolding field_of
returns c = c.four.ensures
