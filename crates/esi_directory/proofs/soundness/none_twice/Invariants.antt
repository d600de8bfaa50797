-- The test of the records left gives what the test of all gives.
use Rattle.std.proofs.Common.{◌≡◌, length}
use Rattle.esi_rules.specs.Distinct.{distinct}
use Rattle.esi_rules.specs.Keys.{clashes}
use Rattle.esi_directory.proofs.soundness.none_twice.Given as goal

abbrev pub invariant-loop-first : goal.invariant-loop-first
invariant-loop-first l = distinct clashes l.left ≡ distinct clashes l.records

abbrev pub decreases-loop-first : goal.decreases-loop-first
decreases-loop-first l = length l.left
