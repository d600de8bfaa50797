-- `calls_in_row` meets its contract. The loop's invariant: some calls are made and noted, and the records of the others follow; its measure
-- is how many can still be noted. Of the record call it uses its promise and nothing else.
use Prim.Native.Nat.{◌-◌}
use lib.ListN.{length}
use Rattle.call_row.proofs.Calling.{Calling}
use Rattle.call_row.proofs.calls.calls_in_row.Given as goal

abbrev pub invariant-loop-played : goal.invariant-loop-played
invariant-loop-played l =
    Calling l.calendar l.tape l.initial.reply.book l.initial.answers l.initial.counts l.initial.notices l.answers l.counts l.notices l.reply.book l.played l.sent l.from l.reply.answer

abbrev pub decreases-loop-played : goal.decreases-loop-played
decreases-loop-played l =
    length l.initial.answers - l.played
