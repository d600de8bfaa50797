use Prim.Native.Nat.{◌<◌, ◌≤◌}
use mathlib.Core.Path.{sym, ◌∙◌}
use native.Mathlib.Omega.{arith}
use borrow.Author.Tests.{le-leb, lt-leb}
use Rattle.days.specs.Days.{kind_of_day}
use Rattle.days.proofs.Laws.{switch_end, switch_here, switch_next}
use Rattle.days.proofs.searches.switch_date.Goals as goal

pub loop-day-preserved : goal.loop-day-preserved
loop-day-preserved c =
    let calendar = c.args.calendar.now in
    let later : 1 < kind_of_day calendar c.loop-day.day = omega (arith, c.kind_of_day.ensures) in
    sym (switch_next calendar c.loop-day.day c.if-day-gt-LAST_DAY.false (lt-leb _ _ later)) ∙ c.loop-day.invariant

pub returns-then-day-gt-LAST_DAY : goal.returns-then-day-gt-LAST_DAY
returns-then-day-gt-LAST_DAY c = sym (switch_end _ _ c.if-day-gt-LAST_DAY.true) ∙ c.loop-day.invariant

pub returns-then-kind_of_day-le1 : goal.returns-then-kind_of_day-le1
returns-then-kind_of_day-le1 c =
    let calendar = c.args.calendar.now in
    let here : kind_of_day calendar c.loop-day.day ≤ 1 = omega (arith, c.kind_of_day.ensures) in
    sym (switch_here calendar c.loop-day.day c.if-day-gt-LAST_DAY.false (le-leb _ _ here)) ∙ c.loop-day.invariant
