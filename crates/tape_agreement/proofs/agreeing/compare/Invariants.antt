-- `tape_agreement::agreeing::compare` meets its contract. The loop's invariant: every premise up to the last one agrees. The measure is how
-- far that is from the largest there is.
use Prim.Native.Nat.{◌-◌}
use Rattle.tape_agreement.specs.Walks.{last_premise}
use Rattle.tape_agreement.proofs.UpTo.{UpTo}
use Rattle.tape_agreement.proofs.agreeing.compare.Given as goal

abbrev pub invariant-loop-last : goal.invariant-loop-last
invariant-loop-last l = UpTo l.ours l.theirs l.last

abbrev pub decreases-loop-last : goal.decreases-loop-last
decreases-loop-last l = last_premise - l.last
