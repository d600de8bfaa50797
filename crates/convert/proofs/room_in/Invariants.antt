-- The number read so far is no more than the most room.
use Rattle.std.proofs.Common.{◌≤◌}
use Rattle.convert.specs.Sizes.{most_out}
use Rattle.convert.proofs.room_in.Given as goal

abbrev pub invariant-loop-digit : goal.invariant-loop-digit
invariant-loop-digit l = l.room ≤ most_out
