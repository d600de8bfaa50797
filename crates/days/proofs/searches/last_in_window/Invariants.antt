-- `last_in_window` meets its contract: the loop's invariant is where the walk stands.
use Rattle.days.proofs.LastInWindow.{Passing}
use Rattle.days.proofs.searches.last_in_window.Given as goal

abbrev pub invariant-loop-day : goal.invariant-loop-day
invariant-loop-day l = Passing l.calendar l.width l.today l.allowed l.day
