use Prim.Native.Nat.{ℕ}
use mathlib.Core.Path.{sym, subst, ◌∙◌}
use mathlib.Core.Bool.{Bool}
use Rattle.premise.specs.Orders.{held}
use Rattle.premise.specs.Passes.{pass, on_file}
use Rattle.premise.specs.Clock.{ticked}
use Rattle.premise_laws.proofs.ClockChanges.{tick_still}
use Rattle.premise_notices.specs.Outboxes.{DoneToFile}
use Rattle.premise_notices.proofs.PassTurns.{next_room, next_turn, next_leaves, sofar_all}
use Rattle.premise_clock.proofs.on_file.wind.Goals.{then-clock_changes_order, else-clock_changes_order}
use Rattle.premise_clock.proofs.on_file.wind.Goals as goal

pub tick-requires : goal.tick-requires
tick-requires c = next_room c.loop-i.invariant c.loop-i-test.true

pub loop-i-preserved : goal.loop-i-preserved
loop-i-preserved c =
    elim c.if-clock_changes_order.branch [
      | then-clock_changes_order w ↦
          rw (w.file-is, w.out-is) (next_turn c.loop-i.invariant c.loop-i-test.true w.tick.result w.tick.ensures)
      | else-clock_changes_order w ↦
          rw (w.file-is, w.out-is)
          (next_leaves c.loop-i.invariant c.loop-i-test.true
          (tick_still _ _ _ _ (sym c.clock_changes_order.ensures ∙ w.if-clock_changes_order.false)))
    ]

pub returns : goal.returns
returns c =
    let a = c.args in
    subst (λ (business : Bool). DoneToFile
    (on_file a.file.now (pass (λ (i : ℕ). ticked business a.today a.file.now.premise) (held a.file.now)))
    c.loop-i.file a.out.now c.loop-i.out)
    c.is_business_day-business.ensures
    (sofar_all c.loop-i.invariant c.loop-i-test.false)
