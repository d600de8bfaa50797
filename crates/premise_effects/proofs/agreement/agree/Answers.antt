-- `agree` meets its contract: a delete gives one notice, and an agreement that is established one behind the earlier holder's. Assumes
-- nothing.
use Rattle.premise_effects.proofs.agreement.Agreed.{delete_room, delete_done, request_room, response_room, establish_done}
use Rattle.premise_effects.proofs.agreement.agree.Goals as goal

pub send-requires : goal.send-requires
send-requires c =
    let a = c.args in
    delete_room a.file.now a.r _ c.notice_of_no_order-response.ensures a.out.now c.requires c.if-r-eq-DELETE.true

pub returns-then-r-eq-DELETE : goal.returns-then-r-eq-DELETE
returns-then-r-eq-DELETE c =
    let a = c.args in
    delete_done a.file.now a.r _ c.notice_of_no_order-response.ensures a.out.now c.requires c.if-r-eq-DELETE.true c.send.ensures

pub tell_earlier_holder-requires : goal.tell_earlier_holder-requires
tell_earlier_holder-requires c =
    let a = c.args in
    request_room a.file.now a.r _ c.notice_of_no_order-response.ensures a.out.now c.requires c.if-r-eq-DELETE.false

pub send-requires-else-r-eq-DELETE : goal.send-requires-else-r-eq-DELETE
send-requires-else-r-eq-DELETE c =
    let a = c.args in
    response_room a.file.now a.r _ c.notice_of_no_order-response.ensures a.out.now c.requires c.if-r-eq-DELETE.false
    c.tell_earlier_holder.ensures

pub returns-else-r-eq-DELETE : goal.returns-else-r-eq-DELETE
returns-else-r-eq-DELETE c =
    let a = c.args in
    establish_done a.file.now a.r _ c.notice_of_no_order-response.ensures a.out.now c.requires c.if-r-eq-DELETE.false
    c.tell_earlier_holder.ensures c.send-else-r-eq-DELETE.ensures
