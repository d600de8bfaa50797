-- `tape_agreement::own::next_own` meets its contract. The loop's invariant: nothing that concerns the premise stands behind. The measure
-- is the bytes left.
use Prim.Native.Nat.{◌-◌}
use lib.ListN.{length}
use Rattle.tape_agreement.proofs.Cursors.{On}
use Rattle.tape_agreement.proofs.own.next_own.Given as goal

abbrev pub invariant-loop-at : goal.invariant-loop-at
invariant-loop-at l = On l.premise l.tape l.from l.at

abbrev pub decreases-loop-at : goal.decreases-loop-at
decreases-loop-at l = length l.tape - l.at
