-- `change` meets its contract: whether the order is overtaken picks the case of `permit_overtaken`.
use mathlib.Core.Path.{sym, ◌∙◌}
use Rattle.premise.specs.Orders.{held}
use Rattle.premise_laws.proofs.PermitOvertaken.{permit_stays, permit_cancels}
use Rattle.premise_notices.proofs.Sent.{room_case, done_case, done_none}
use Rattle.premise_evaluation.proofs.permit_overtaken.PermitsOvertakenPass.change.Goals as goal

pub cancel-requires : goal.cancel-requires
cancel-requires c =
    let a = c.args in
    room_case _
    (permit_cancels a.self.now.today (held a.file.now) a.o a.file.now.premise (rw c.held.ensures at (sym c.is_overtaken.ensures ∙ c.if-is_overtaken.true)))
    a.out.now c.requires.room

pub returns-then-is_overtaken : goal.returns-then-is_overtaken
returns-then-is_overtaken c =
    let a = c.args in
    done_case _
    (permit_cancels a.self.now.today (held a.file.now) a.o a.file.now.premise
    (rw c.held.ensures at (sym c.is_overtaken.ensures ∙ c.if-is_overtaken.true))) c.cancel.ensures

pub returns-else-is_overtaken : goal.returns-else-is_overtaken
returns-else-is_overtaken c =
    let a = c.args in
    done_none a.o a.out.now
    (permit_stays a.self.now.today (held a.file.now) a.o a.file.now.premise (rw c.held.ensures at (sym c.is_overtaken.ensures ∙ c.if-is_overtaken.false)))
