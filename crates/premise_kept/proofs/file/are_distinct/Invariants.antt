-- `are_distinct` meets its contract. The loop's invariant: the test of the orders left gives what the test of all of them gives. The measure
-- is how many are left.
use mathlib.Core.Path.{◌≡◌}
use lib.ListN.{length}
use Rattle.premise.specs.WellKept.{distinct}
use Rattle.premise_kept.proofs.file.are_distinct.Given as goal

abbrev pub invariant-loop-first : goal.invariant-loop-first
invariant-loop-first l = distinct l.left ≡ distinct l.orders

abbrev pub decreases-loop-first : goal.decreases-loop-first
decreases-loop-first l = length l.left
