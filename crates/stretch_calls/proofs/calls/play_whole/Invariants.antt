-- `play_whole` meets its contract. The loop's invariant: some records are played and noted, and the course of the others is the rest of the
-- whole; its measure is how many are left. Of `play` it uses its promise and nothing else.
use Prim.Native.Nat.{◌-◌}
use mathlib.Core.Path.{◌≡◌}
use lib.ListN.{length}
use Rattle.stretch_calls.proofs.calls.Lots.{Underway}
use Rattle.stretch_calls.proofs.calls.play_whole.Given as goal

abbrev pub invariant-loop-played : goal.invariant-loop-played
invariant-loop-played l =
    Underway l.calendar l.tape l.initial.c l.initial.answers l.initial.notices l.whole l.answers l.counts l.notices l.c l.played l.sent × (length l.counts ≡ length l.initial.counts)

abbrev pub decreases-loop-played : goal.decreases-loop-played
decreases-loop-played l = l.whole - l.played
