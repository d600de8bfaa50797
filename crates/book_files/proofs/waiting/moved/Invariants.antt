-- `moved` meets its contract. The loop's invariant: each total is moved by the places passed. Assumes nothing.
use lib.ListN.{length}
use Rattle.book_files.proofs.waiting.Turning.{Turning}
use Rattle.book_files.proofs.waiting.moved.Given as goal

abbrev pub invariant-loop-left : goal.invariant-loop-left
invariant-loop-left l = Turning l.initial.totals l.old l.stored l.totals (length l.yielded)
