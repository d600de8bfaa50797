-- `change_order` meets its contract: the kind picks the step.
use Rattle.premise_notices.proofs.Sent.{room_case, done_case}
use Rattle.premise_effects.proofs.changes.ByKind.{named_date, named_other}
use Rattle.premise_effects.proofs.changes.change_order.Goals as goal

pub change_date-requires : goal.change_date-requires
change_date-requires c =
    let a = c.args in
    room_case _ (named_date a.calendar.now a.today a.file.now a.r a.o c.if-r-eq-DATE_CHANGE.true) a.out.now c.requires

pub returns-then-r-eq-DATE_CHANGE : goal.returns-then-r-eq-DATE_CHANGE
returns-then-r-eq-DATE_CHANGE c =
    let a = c.args in
    done_case _ (named_date a.calendar.now a.today a.file.now a.r a.o c.if-r-eq-DATE_CHANGE.true) c.change_date.ensures

pub change_status-requires : goal.change_status-requires
change_status-requires c =
    let a = c.args in
    room_case _ (named_other a.calendar.now a.today a.file.now a.r a.o c.if-r-eq-DATE_CHANGE.false) a.out.now c.requires

pub returns-else-r-eq-DATE_CHANGE : goal.returns-else-r-eq-DATE_CHANGE
returns-else-r-eq-DATE_CHANGE c =
    let a = c.args in
    done_case _ (named_other a.calendar.now a.today a.file.now a.r a.o c.if-r-eq-DATE_CHANGE.false) c.change_status.ensures
