-- The buffer keeps its length, and what was written stands within it.
use Rattle.std.proofs.Common.{length, ◌≤◌, ◌≡◌}
use Rattle.esi.proofs.answer_in.Given as goal

abbrev pub invariant-loop-i : goal.invariant-loop-i
invariant-loop-i g l = (length l.out ≡ length l.initial.out) × (l.at ≤ length l.out)
