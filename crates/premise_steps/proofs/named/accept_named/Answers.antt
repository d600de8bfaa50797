-- `accept_named` meets its contract: the file with the order changed in its place and its notices, and then the evaluation on it.
use lib.ListN.{get_or, set}
use Rattle.premise.specs.Orders.{blank, held}
use Rattle.premise.specs.Steps.{changed}
use Rattle.premise.specs.Evaluation.{evaluated}
use Rattle.premise_laws.proofs.FileOrders.{at_held}
use Rattle.premise_notices.proofs.Then.{then_first, then_done}
use Rattle.premise_steps.proofs.Evaluating.{then_evaluable}
use Rattle.premise_steps.proofs.named.Changed.{supplied_ready, changed_room, changed_tidy, changed_done, changed_window}
use Rattle.premise_steps.proofs.named.accept_named.Goals as goal

pub change_order-t-requires : goal.change_order-t-requires
change_order-t-requires c =
    let a = c.args in
    let f = a.file.now in
    changed_room a.calendar.now a.today f a.r a.i (at_held f a.i c.requires.within) a.out.now
    (then_first (changed a.calendar.now a.today f a.r a.i (get_or (held f) a.i blank)) (evaluated a.calendar.now a.today) a.out.now
    c.requires.room)

pub with_order-requires : goal.with_order-requires
with_order-requires c =
    let a = c.args in
    supplied_ready a.file.now a.r (get_or a.file.now.orders a.i blank) c.requires.tidy a.i c.requires.within c.supply.new.file
    c.supply.ensures

pub evaluate-requires : goal.evaluate-requires
evaluate-requires c =
    let a = c.args in
    let f = a.file.now in
    let h = c.supply.new.file in
    let t = c.change_order-t.result in
    let ready = supplied_ready f a.r (get_or f.orders a.i blank) c.requires.tidy a.i c.requires.within h c.supply.ensures in
    then_evaluable f c.requires.window
    (changed_done a.calendar.now a.today f a.r a.i (at_held f a.i c.requires.within) c.change_order-t.ensures c.supply.ensures
    c.with_order.ensures)
    c.requires.room (changed_tidy h ready.0 a.i t c.with_order.new.file c.with_order.ensures)
    (changed_window f a.r (get_or f.orders a.i blank) c.supply.ensures (set (held h) a.i t) c.with_order.ensures)

pub returns : goal.returns
returns c =
    let a = c.args in
    let f = a.file.now in
    then_done (evaluated a.calendar.now a.today)
    (changed_done a.calendar.now a.today f a.r a.i (at_held f a.i c.requires.within) c.change_order-t.ensures c.supply.ensures
    c.with_order.ensures)
    c.requires.room c.evaluate.ensures
