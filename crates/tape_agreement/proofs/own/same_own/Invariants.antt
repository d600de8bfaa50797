-- `tape_agreement::own::same_own` meets its contract. The loop's invariant: the wholes are the same exactly if the rests are. The measure
-- is the bytes left of our tape.
use Prim.Native.Nat.{◌-◌}
use lib.ListN.{length}
use Rattle.tape_agreement.proofs.Cursors.{Both}
use Rattle.tape_agreement.proofs.own.same_own.Given as goal

abbrev pub invariant-loop-here : goal.invariant-loop-here
invariant-loop-here l = Both l.premise l.ours l.theirs l.here l.there

abbrev pub decreases-loop-here : goal.decreases-loop-here
decreases-loop-here l = length l.ours - l.here
