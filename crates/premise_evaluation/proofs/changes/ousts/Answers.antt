-- `ousts` meets its contract: at each return the tests that led there pick the case of its definition.
use mathlib.Core.Path.{◌≡◌, sym, ap₂, ◌∙◌}
use mathlib.Core.Bool.{Bool, false, ◌&&◌}
use Rattle.premise_evaluation.specs.Ousting.{awaits_permit}
use Rattle.premise_evaluation.proofs.changes.Pairs.{ousts_permit, ousts_other_day, ousts_contender, ousts-drop}
use Rattle.premise_evaluation.proofs.changes.ousts.Goals as goal
use Rattle.premise_evaluation.proofs.changes.ousts.Goals.{Else-awaits_permit}

pub returns-then-awaits_permit : goal.returns-then-awaits_permit
returns-then-awaits_permit c =
    let a = c.args in
    c.is_overtaking.ensures
    ∙ ousts_permit a.today a.last a.i a.o a.j a.other (sym c.awaits_permit.ensures ∙ c.if-awaits_permit.true)

-- the order awaits no permit
no_permit : (e : Else-awaits_permit) → awaits_permit e.args.o ≡ false
no_permit e = sym e.awaits_permit.ensures ∙ e.if-awaits_permit.false

pub returns-then-other-o : goal.returns-then-other-o
returns-then-other-o c =
    let a = c.args in
    ousts_other_day a.today a.last a.i a.o a.j a.other (no_permit (goal.at.returns-then-other-o c).Else-awaits_permit) c.if-other-o.true

pub returns-then-is_contender : goal.returns-then-is_contender
returns-then-is_contender c =
    let a = c.args in
    ap₂ (λ (switch preferred : Bool). switch && preferred) c.is_switch.ensures c.is_preferred.ensures
    ∙ ousts_contender a.today a.last a.i a.o a.j a.other (no_permit (goal.at.returns-then-is_contender c).Else-awaits_permit) c.if-other-o.false
    (sym c.is_contender.ensures ∙ c.if-is_contender.true)

pub returns : goal.returns
returns c =
    let a = c.args in
    ap₂ (λ (drop switch : Bool). drop && switch) c.is_near_drop.ensures c.is_switch_on.ensures
    ∙ ousts-drop a.today a.last a.i a.o a.j a.other (no_permit (goal.at.returns c).Else-awaits_permit) (sym c.is_contender.ensures ∙ c.if-is_contender.false)
