-- `switch_date` meets its contract. The loop's invariant: the search from the day reached gives what the search from today gives.
-- The measure is the days left.
use Prim.Native.Nat.{◌-◌}
use mathlib.Core.Path.{◌≡◌}
use Rattle.days.specs.Days.{no_day, switch_date}
use Rattle.days.proofs.searches.switch_date.Given as goal

abbrev pub invariant-loop-day : goal.invariant-loop-day
invariant-loop-day l = switch_date l.calendar l.day ≡ switch_date l.calendar l.today

abbrev pub decreases-loop-day : goal.decreases-loop-day
decreases-loop-day l = no_day - l.day
