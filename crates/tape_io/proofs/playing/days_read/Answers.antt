-- `days_read` meets its contract.
use Rattle.tape_io.proofs.playing.First.{first_most}
use Rattle.tape_io.proofs.playing.days_read.Goals as goal

pub returns : goal.returns
returns c = first_most _ _ _ c.min.ensures
