-- `accept_order` meets its contract: the file with the new order and its notice, and then the evaluation on it.
use mathlib.Core.Path.{ap}
use Rattle.premise.specs.declared.File.{File}
use Rattle.premise.specs.Steps.{ordered}
use Rattle.premise.specs.Evaluation.{evaluated}
use Rattle.premise_notices.proofs.Then.{then_first, then_done}
use Rattle.premise_steps.proofs.Evaluating.{then_evaluable}
use Rattle.premise_steps.proofs.new_order.Ordered.{ordered_tidy, ordered_done}
use Rattle.premise_steps.proofs.new_order.accept_order.Goals as goal

pub tell-requires : goal.tell-requires
unfolding ordered
tell-requires c =
    let a = c.args in
    then_first (ordered a.calendar.now a.today a.file.now a.r) (evaluated a.calendar.now a.today) a.out.now c.requires.room

pub evaluate-requires : goal.evaluate-requires
evaluate-requires c =
    let a = c.args in
    let f = a.file.now in
    then_evaluable f c.last_in_window-last.ensures
    (ordered_done a.calendar.now a.today f a.r c.new_order-o.ensures c.code_for.ensures c.admit.ensures c.tell.ensures) c.requires.room
    (ordered_tidy f c.requires.tidy c.requires.place c.new_order-o.result c.admit.new.file c.admit.ensures)
    (ap (λ (g : File). g.window) c.admit.ensures)

pub returns : goal.returns
returns c =
    let a = c.args in
    then_done (evaluated a.calendar.now a.today)
    (ordered_done a.calendar.now a.today a.file.now a.r c.new_order-o.ensures c.code_for.ensures c.admit.ensures c.tell.ensures)
    c.requires.room c.evaluate.ensures
