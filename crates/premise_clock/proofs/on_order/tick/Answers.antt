-- `tick` meets its contract: the arm of the status picks the case of `ticked`.
use native.Mathlib.Omega.{arith}
use Rattle.premise_clock.proofs.on_order.ByStatus.{tick_review, tick_permit, tick_cancel, tick_same}
use Rattle.premise_notices.proofs.Sent.{room_case, done_case, done_none}
use Rattle.premise_clock.proofs.on_order.tick.Goals as goal

pub review-requires : goal.review-requires
review-requires c =
    let a = c.args in
    room_case _ (tick_review a.business a.today a.premise a.o c.in-1.is) a.out.now c.requires

pub returns-in-1 : goal.returns-in-1
returns-in-1 c =
    let a = c.args in
    done_case _ (tick_review a.business a.today a.premise a.o c.in-1.is) c.review.ensures

pub await_permit-requires : goal.await_permit-requires
await_permit-requires c =
    let a = c.args in
    room_case _ (tick_permit a.business a.today a.premise a.o (omega arith) c.in-2.is) a.out.now c.requires

pub returns-in-2 : goal.returns-in-2
returns-in-2 c =
    let a = c.args in
    done_case _ (tick_permit a.business a.today a.premise a.o (omega arith) c.in-2.is) c.await_permit.ensures

pub await_cancel-requires : goal.await_cancel-requires
await_cancel-requires c =
    let a = c.args in
    room_case _ (tick_cancel a.business a.today a.premise a.o (omega arith) (omega arith) c.in-4.is) a.out.now c.requires

pub returns-in-4 : goal.returns-in-4
returns-in-4 c =
    let a = c.args in
    done_case _ (tick_cancel a.business a.today a.premise a.o (omega arith) (omega arith) c.in-4.is) c.await_cancel.ensures

pub returns-in_default : goal.returns-in_default
returns-in_default c =
    let a = c.args in
    done_none a.o a.out.now (tick_same a.business a.today a.premise a.o (omega arith) (omega arith) (omega arith))
