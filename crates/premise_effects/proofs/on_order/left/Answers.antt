-- `left` meets its contract: the arm of the record's kind picks the case of `on_order`.
use mathlib.Core.Path.{refl}
use Rattle.premise.specs.Orders.{permit_pending, with_status, with_waited}
use Rattle.premise_effects.proofs.on_order.ByKind.{left_scheduled, left_permit, left_unexecutable, left_read, left_cancel}
use Rattle.premise_effects.proofs.on_order.ByKind.{left_reply}
use native.Mathlib.Omega.{arith}
use Rattle.premise_effects.proofs.on_order.left.Goals as goal

pub returns-in-4 : goal.returns-in-4
returns-in-4 c =
    let a = c.args in
    left_scheduled a.r a.o c.in_status-t.result c.in-4.is c.in_status-t.ensures

pub returns-in-5 : goal.returns-in-5
returns-in-5 c =
    let a = c.args in
    left_permit a.r a.o (with_waited 0 (with_status permit_pending a.o)) c.in-5.is refl

pub returns-in-6 : goal.returns-in-6
returns-in-6 c =
    let a = c.args in
    left_unexecutable a.r a.o c.in_status.result c.in-6.is c.in_status.ensures

pub returns-in-7 : goal.returns-in-7
returns-in-7 c =
    let a = c.args in
    left_read a.r a.o c.read.result c.in-7.is c.read.ensures

pub returns-in-8 : goal.returns-in-8
returns-in-8 c =
    let a = c.args in
    left_cancel a.r a.o c.in_status-in-8.result c.in-8.is c.in_status-in-8.ensures

pub returns-in_default : goal.returns-in_default
returns-in_default c =
    let a = c.args in
    λ f.
    left_reply a.r (omega arith) (omega arith) (omega arith) (omega arith)
    (omega arith) f a.o
    c.replied_status.result c.replied_status.ensures c.in_status-in_default.result c.in_status-in_default.ensures
