-- `esi_directory::halves::low` meets its contract: a mask of four bits is a remainder by 16.
use lib.Bits.{and_mask}
use Rattle.esi_directory.proofs.halves.low.Goals as goal

pub returns : goal.returns
returns c = and_mask c.args.byte 4
