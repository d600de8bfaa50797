-- `change` meets its contract: whether the order gives way picks the case of `same_day_switch`.
use mathlib.Core.Path.{sym, ◌∙◌}
use Rattle.days.specs.Window.{up_to}
use Rattle.premise.specs.Orders.{held}
use Rattle.premise_laws.proofs.SameDaySwitch.{same_day_cancels, same_day_stays}
use Rattle.premise_notices.proofs.Sent.{room_case, done_case, done_none}
use Rattle.premise_evaluation.proofs.same_day_switches.SameDaySwitchesPass.change.Goals as goal

pub cancel-requires : goal.cancel-requires
cancel-requires c =
    let a = c.args in
    room_case _
    (same_day_cancels (up_to a.self.now.last) (held a.file.now) a.i a.o a.file.now.premise
    (rw c.held.ensures at (sym c.gives_way.ensures ∙ c.if-gives_way.true))) a.out.now c.requires.room

pub returns-then-gives_way : goal.returns-then-gives_way
returns-then-gives_way c =
    let a = c.args in
    done_case _
    (same_day_cancels (up_to a.self.now.last) (held a.file.now) a.i a.o a.file.now.premise
    (rw c.held.ensures at (sym c.gives_way.ensures ∙ c.if-gives_way.true))) c.cancel.ensures

pub returns-else-gives_way : goal.returns-else-gives_way
returns-else-gives_way c =
    let a = c.args in
    done_none a.o a.out.now
    (same_day_stays (up_to a.self.now.last) (held a.file.now) a.i a.o a.file.now.premise (rw c.held.ensures at (sym c.gives_way.ensures ∙ c.if-gives_way.false)))
