-- `change` meets its contract: whether the order is displaced, and whether there is a retailer, pick the case of
-- `drop_on_switch_day`.
use mathlib.Core.Path.{◌≡◌, refl, sym, ap, ◌∙◌}
use Rattle.days.specs.Window.{up_to}
use Rattle.records.specs.Notices.{tdsp}
use Rattle.premise.specs.Orders.{held}
use Rattle.premise.specs.Passes.{Change, code_cancel}
use Rattle.premise.specs.Evaluation.{drop_on_switch_day}
use Rattle.premise_laws.proofs.DropOnSwitchDay.{drop_stays, drop_two, drop_one}
use Rattle.premise_notices.specs.Telling.{telling}
use Rattle.premise_notices.proofs.Sent.{room_case, done_case, done_none}
use Rattle.premise_evaluation.proofs.drop_on_switch_day.DropsOnSwitchDaysPass.change.Goals as goal
use Rattle.premise_evaluation.proofs.drop_on_switch_day.DropsOnSwitchDaysPass.change.Goals.{After-as_cancelled-t}

pub returns-then-not-is_displaced : goal.returns-then-not-is_displaced
returns-then-not-is_displaced c =
    let a = c.args in
    done_none a.o a.out.now
    (drop_stays (up_to a.self.now.last) (held a.file.now) a.o a.file.now.premise a.file.now.retailer
    (rw c.held.ensures at (sym c.is_displaced.ensures ∙ c.if-not-is_displaced.true)))

pub cancel-requires : goal.cancel-requires
cancel-requires c =
    let a = c.args in
    room_case _
    (drop_two (up_to a.self.now.last) (held a.file.now) a.o a.file.now.premise a.file.now.retailer
    (rw c.held.ensures at (sym c.is_displaced.ensures ∙ c.if-not-is_displaced.false)) c.if-file-ne-NOBODY.true) a.out.now c.requires.room

pub returns-then-file-ne-NOBODY : goal.returns-then-file-ne-NOBODY
returns-then-file-ne-NOBODY c =
    let a = c.args in
    done_case _
    (drop_two (up_to a.self.now.last) (held a.file.now) a.o a.file.now.premise a.file.now.retailer
    (rw c.held.ensures at (sym c.is_displaced.ensures ∙ c.if-not-is_displaced.false)) c.if-file-ne-NOBODY.true) c.cancel.ensures

-- one notice, on the order as `as_cancelled` left it
alone : (m : After-as_cancelled-t) → let a = m.args in
    drop_on_switch_day (up_to a.self.now.last) a.file.now.premise a.file.now.retailer (held a.file.now) a.o
    ≡ telling code_cancel a.file.now.premise tdsp m.as_cancelled-t.result
alone m =
    let a = m.args in
    drop_one (up_to a.self.now.last) (held a.file.now) a.o a.file.now.premise a.file.now.retailer
    (rw m.held.ensures at (sym m.is_displaced.ensures ∙ m.if-not-is_displaced.false)) m.if-file-ne-NOBODY.false
    ∙ ap {B = Change} (telling code_cancel a.file.now.premise tdsp) (sym m.as_cancelled-t.ensures)

pub send_cancel-requires : goal.send_cancel-requires
send_cancel-requires c = room_case _ (alone (goal.at.send_cancel-requires c).After-as_cancelled-t) c.args.out.now c.requires.room

pub returns : goal.returns
returns c = done_case _ (alone (goal.at.returns c).After-as_cancelled-t) (record { order_after = refl; sends = c.send_cancel.ensures })
