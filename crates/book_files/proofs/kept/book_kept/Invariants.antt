-- `book_kept` meets its contract. The first loop's invariant: the test of the files left gives what the test of all of them gives, and the
-- waiting orders of those passed are added up; the second's: the test of the places left gives what the test of the book gives. The
-- measures are the places left.
use Prim.Native.Nat.{◌-◌}
use Rattle.book_files.proofs.kept.WellKept.{HeldSofar, UnusedSofar}
use Rattle.book_files.proofs.kept.book_kept.Given as goal

abbrev pub invariant-held : goal.invariant-held
invariant-held l = HeldSofar l.b l.n l.waiting l.last l.i

abbrev pub decreases-held : goal.decreases-held
decreases-held l = l.n - l.i

abbrev pub invariant-unused : goal.invariant-unused
invariant-unused l = UnusedSofar l.b l.i

abbrev pub decreases-unused : goal.decreases-unused
decreases-unused l = 64 - l.i
