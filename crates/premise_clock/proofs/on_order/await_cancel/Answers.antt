-- `await_cancel` meets its contract: the test on the days in Cancel Pending picks the case of `cancel_awaited`.
use mathlib.Core.Path.{sym, ◌∙◌}
use Rattle.premise.specs.Orders.{with_pending}
use Rattle.premise_clock.proofs.on_order.ByStatus.{cancel_ends, cancel_goes_on}
use Rattle.premise_notices.proofs.Sent.{room_case, done_case, done_none}
use Rattle.premise_clock.proofs.on_order.await_cancel.Goals as goal

pub cancel-requires : goal.cancel-requires
cancel-requires c =
    let a = c.args in
    room_case _ (cancel_ends a.premise a.o (sym c.is_over.ensures ∙ c.if-is_over.true)) a.out.now c.requires

pub returns-then-is_over : goal.returns-then-is_over
returns-then-is_over c =
    let a = c.args in
    done_case _ (cancel_ends a.premise a.o (sym c.is_over.ensures ∙ c.if-is_over.true)) c.cancel.ensures

pub returns : goal.returns
returns c =
    let a = c.args in
    done_none (with_pending c.one_more-t.result.0 a.o) a.out.now
    (cancel_goes_on a.premise a.o (sym c.is_over.ensures ∙ c.if-is_over.false) c.one_more-t.result.0 c.one_more-t.ensures)
