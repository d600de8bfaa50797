-- `file_kept` meets its contract. The loop's invariant: the tests and the counts of the orders left, with what has been found, give those of
-- all of them.
use Rattle.premise_kept.proofs.file.Turns.{HeldSofar}
use Rattle.premise_kept.proofs.file.file_kept.Given as goal

abbrev pub invariant-loop-o : goal.invariant-loop-o
invariant-loop-o l = HeldSofar l.orders l.waiting l.last l.rising l.o-index
