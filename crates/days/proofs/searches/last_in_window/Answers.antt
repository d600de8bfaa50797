use Prim.Native.Nat.{ℕ, ◌+◌}
use mathlib.Core.Path.{sym, subst, ◌∙◌}
use native.Mathlib.Omega.{arith}
use Rattle.days.proofs.LastInWindow.{Passing, passing_first, passing_business, passing_other, ends_here, ends_last}
use Rattle.days.proofs.searches.last_in_window.Goals as goal
use Rattle.days.proofs.searches.last_in_window.Goals.{else-is_business_day, then-is_business_day+else-allowed-eq0}

pub loop-day-init : goal.loop-day-init
loop-day-init c = passing_first _ _ _

pub returns-then-allowed-eq0 : goal.returns-then-allowed-eq0
returns-then-allowed-eq0 c = ends_here _ _ _ _ _ c.loop-day.invariant
    (sym c.is_business_day.ensures ∙ c.if-is_business_day.true) (omega (arith, c.if-allowed-eq0.true)) (omega arith)

pub loop-day-preserved : goal.loop-day-preserved
loop-day-preserved c =
    let a = c.args in
    let at : ℕ → Type 0 = λ n. Passing a.calendar.now a.width a.today n (c.loop-day.day + 1) in
    elim c.if-is_business_day.branch [
      | then-is_business_day+else-allowed-eq0 w ↦ subst at (sym w.allowed-is)
          (passing_business _ _ _ _ _ c.loop-day.invariant (sym c.is_business_day.ensures ∙ w.if-is_business_day.true) (omega (arith, w.if-allowed-eq0.false)))
      | else-is_business_day w ↦ subst at (sym w.allowed-is) (passing_other _ _ _ _ _ c.loop-day.invariant (sym c.is_business_day.ensures ∙ w.if-is_business_day.false))
    ]

pub returns : goal.returns
returns c = ends_last _ _ _ _ _ c.loop-day.invariant (omega arith)
