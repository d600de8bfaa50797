-- `on_agreement` meets its contract: a delete of another agreement is refused, and any other is accepted.
use mathlib.Core.Path.{sym, ◌∙◌}
use Rattle.std.specs.Prelude.{Err}
use Rattle.premise.specs.declared.Refusal.TheVariants.{OtherAgreement}
use Rattle.premise_steps.proofs.Answered.{answered_quiet, room_leaving, answered_done}
use Rattle.premise_steps.proofs.agreement.ByAnswer.{agreement_refused, agreement_done}
use Rattle.premise_steps.proofs.agreement.on_agreement.Goals as goal

pub returns-then-deletes_another : goal.returns-then-deletes_another
returns-then-deletes_another c =
    let a = c.args in
    answered_quiet (Err OtherAgreement) a.today a.file.now a.out.now
    (agreement_refused a.calendar.now a.today a.file.now a.r c.requires.is_agreement (sym c.deletes_another.ensures ∙ c.if-deletes_another.true))

pub agree-requires : goal.agree-requires
agree-requires c =
    let a = c.args in
    room_leaving a.today _
    (agreement_done a.calendar.now a.today a.file.now a.r c.requires.is_agreement (sym c.deletes_another.ensures ∙ c.if-deletes_another.false))
    a.out.now c.requires.on_file.room

pub returns : goal.returns
returns c =
    let a = c.args in
    answered_done a.today _
    (agreement_done a.calendar.now a.today a.file.now a.r c.requires.is_agreement (sym c.deletes_another.ensures ∙ c.if-deletes_another.false))
    c.agree.ensures
