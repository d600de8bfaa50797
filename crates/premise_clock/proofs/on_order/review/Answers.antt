-- `review` meets its contract: the order waits on, or its wait ends, by the days waited as they have grown.
use Rattle.premise_notices.proofs.Sent.{room_case, done_case}
use Rattle.premise_clock.proofs.on_order.Waiting.{review_waits}
use Rattle.premise_clock.proofs.on_order.review.Goals as goal

pub wait_on-requires : goal.wait_on-requires
wait_on-requires c =
    let a = c.args in
    room_case _
    (review_waits a.premise a.o c.grow-waited.result.0 c.review_ends-ends.result a.business a.today c.grow-waited.ensures
    c.review_ends-ends.ensures) a.out.now c.requires

pub returns : goal.returns
returns c =
    let a = c.args in
    done_case _
    (review_waits a.premise a.o c.grow-waited.result.0 c.review_ends-ends.result a.business a.today c.grow-waited.ensures
    c.review_ends-ends.ensures) c.wait_on.ensures
