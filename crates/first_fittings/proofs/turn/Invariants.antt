-- The bytes reached are those of the turned record, the others as they were.
use Rattle.first_fittings.proofs.Turns.{Turning}
use Rattle.first_fittings.proofs.turn.Given as goal

abbrev pub invariant-loop-i : goal.invariant-loop-i
invariant-loop-i l = Turning l.bytes l.initial.buffer l.buffer l.i
