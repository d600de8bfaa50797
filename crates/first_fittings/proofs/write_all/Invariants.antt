-- What becomes of the records reached is written, and the rest is as it was.
use Rattle.std.proofs.Common.{length}
use Rattle.first_fittings.proofs.Writing.{Writing}
use Rattle.first_fittings.proofs.write_all.Given as goal

abbrev pub invariant-loop-i : goal.invariant-loop-i
invariant-loop-i g l = Writing g.D.Direction.way g.D.Direction.INTO l.input l.initial.output l.output (length l.yielded)
