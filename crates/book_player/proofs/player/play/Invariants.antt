-- `play` meets its contract. The outer loop's invariant: the records before the one reached are played and noted, and the course of those
-- that are left is the rest of the whole; its measure is the answers that can still be noted. The inner loop's: the files before the one
-- reached are marked.
use Prim.Native.Nat.{◌-◌}
use lib.ListN.{length}
use Rattle.book_player.proofs.Marking.{Marking}
use Rattle.book_player.proofs.Playing.{Playing}
use Rattle.book_player.proofs.player.play.Given as goal

abbrev pub invariant-loop-place : goal.invariant-loop-place
invariant-loop-place l =
    Marking l.calendar l.day l.initial.c l.standing l.initial.notices l.place l.sent l.c l.notices

abbrev pub invariant-loop-played : goal.invariant-loop-played
invariant-loop-played l =
    Playing l.calendar l.tape l.initial.c l.initial.answers l.initial.counts l.initial.notices l.answers l.counts l.notices l.c l.played l.sent l.from l.last

abbrev pub decreases-loop-played : goal.decreases-loop-played
decreases-loop-played l =
    length l.initial.answers - l.played
