-- `change_status` meets its contract: a read gives no notice, another record one, and a second where the retailer that
-- has been told hears of it too.
use mathlib.Core.Path.{refl, ap}
use mathlib.Core.Bool.{not}
use Rattle.premise_notices.proofs.Sent.{done_case, done_none}
use Rattle.premise_effects.proofs.Both.{second_room, done_both}
use Rattle.premise_effects.proofs.on_order.Notices.{on_read_lem, told_once, told_twice, tells_room}
use Rattle.premise_effects.proofs.on_order.change_status.Goals as goal

pub returns-then-kind-eq-READ : goal.returns-then-kind-eq-READ
returns-then-kind-eq-READ c =
    let a = c.args in
    done_none c.left-t.result a.out.now
    (on_read_lem a.file.now a.r a.o c.if-kind-eq-READ.true c.left-t.result c.left-t.ensures)

pub tell-requires : goal.tell-requires
tell-requires c =
    let a = c.args in
    tells_room a.file.now a.r a.o c.if-kind-eq-READ.false c.left-t.result c.left-t.ensures _ c.code_of-code.ensures
    c.addressee_of-addressee.result c.addressee_of-addressee.ensures c.told_retailer-told.result c.told_retailer-told.ensures a.out.now c.requires

pub returns-else-kind-o : goal.returns-else-kind-o
returns-else-kind-o c =
    let a = c.args in
    done_case _
    (told_once a.file.now a.r a.o c.if-kind-eq-READ.false c.left-t.result c.left-t.ensures _ c.code_of-code.ensures
    c.addressee_of-addressee.result c.addressee_of-addressee.ensures c.told_retailer-told.result c.told_retailer-told.ensures
    (ap not c.if-kind-o.false))
    (record { order_after = refl; sends = c.tell.ensures })

pub tell-requires-then-kind-o : goal.tell-requires-then-kind-o
tell-requires-then-kind-o c =
    let a = c.args in
    second_room
    (told_twice a.file.now a.r a.o c.if-kind-eq-READ.false c.left-t.result c.left-t.ensures _ c.code_of-code.ensures
    c.addressee_of-addressee.result c.addressee_of-addressee.ensures c.told_retailer-told.result c.told_retailer-told.ensures
    (ap not c.if-kind-o.true))
    c.requires c.tell.ensures

pub returns-then-kind-o : goal.returns-then-kind-o
returns-then-kind-o c =
    let a = c.args in
    done_both
    (told_twice a.file.now a.r a.o c.if-kind-eq-READ.false c.left-t.result c.left-t.ensures _ c.code_of-code.ensures
    c.addressee_of-addressee.result c.addressee_of-addressee.ensures c.told_retailer-told.result c.told_retailer-told.ensures
    (ap not c.if-kind-o.true))
    c.requires c.tell.ensures c.tell-then-kind-o.ensures
