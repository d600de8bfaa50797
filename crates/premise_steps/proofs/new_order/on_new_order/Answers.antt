-- `on_new_order` meets its contract: a new order is refused by the first of its rows that holds, and else accepted.
use mathlib.Core.Path.{sym, ◌∙◌}
use Rattle.std.specs.Prelude.{Err}
use Rattle.std.proofs.lemmas.Result.{err_from_is_err_and}
use Rattle.premise_steps.proofs.Answered.{answered_quiet, room_leaving, answered_done}
use Rattle.premise_steps.proofs.new_order.ByAnswer.{order_refused, order_done, order_free}
use Rattle.premise_steps.proofs.new_order.on_new_order.Goals as goal

pub returns-in_err-new_order_answer : goal.returns-in_err-new_order_answer
returns-in_err-new_order_answer c =
    let a = c.args in
    let why = c.in_err-new_order_answer.field-0.0 in
    let p = err_from_is_err_and c.from_residual.result c.from_residual.ensures.1 in
    rw (p.1, p.2)
    (answered_quiet (Err why) a.today a.file.now a.out.now
    (order_refused a.calendar.now a.today a.file.now a.r c.requires.is_new_order c.requested_day-requested.result
    c.requested_day-requested.ensures why (sym c.in_err-new_order_answer.was ∙ c.new_order_answer.ensures)))

pub accept_order-requires : goal.accept_order-requires
accept_order-requires c =
    let a = c.args in
    let e = c.requires.is_new_order in
    let q = c.requested_day-requested in
    let ok = sym c.in_ok-new_order_answer.was ∙ c.new_order_answer.ensures in
    record {
      tidy = c.requires.on_file.tidy;
      place = order_free a.calendar.now a.today a.file.now a.r e q.result q.ensures ok;
      day = q.ensures;
      room = room_leaving a.today _ (order_done a.calendar.now a.today a.file.now a.r e q.result q.ensures ok) a.out.now
          c.requires.on_file.room;
    }

pub returns : goal.returns
returns c =
    let a = c.args in
    answered_done a.today _
    (order_done a.calendar.now a.today a.file.now a.r c.requires.is_new_order c.requested_day-requested.result
    c.requested_day-requested.ensures (sym c.in_ok-new_order_answer.was ∙ c.new_order_answer.ensures))
    c.accept_order.ensures
