-- `on_order` meets its contract: a record is refused by the first of its rows that holds, and else accepted.
use mathlib.Core.Path.{sym, ◌∙◌}
use lib.Dec.{eqb}
use Rattle.std.specs.Prelude.{Err}
use Rattle.std.proofs.lemmas.Result.{err_from_is_err_and}
use Rattle.premise.specs.declared.Order.{Order}
use Rattle.premise_laws.proofs.FileOrders.{place_held}
use Rattle.premise_steps.proofs.Answered.{answered_quiet, room_leaving, answered_done}
use Rattle.premise_steps.proofs.named.ByAnswer.{named_refused, named_done}
use Rattle.premise_steps.proofs.named.on_order.Goals as goal

pub named_answer-requires : goal.named_answer-requires
named_answer-requires c =
    let a = c.args in
    (c.requires.on_file.tidy, place_held a.file.now c.requires.on_file.tidy a.i (λ (o : Order). eqb o.reference a.r.reference) c.requires.is_at)

pub returns-in_err-named_answer : goal.returns-in_err-named_answer
returns-in_err-named_answer c =
    let a = c.args in
    let why = c.in_err-named_answer.field-0.0 in
    let p = err_from_is_err_and c.from_residual.result c.from_residual.ensures.1 in
    rw (p.1, p.2)
    (answered_quiet (Err why) a.today a.file.now a.out.now
    (named_refused a.calendar.now a.today a.file.now a.r c.requires.names_an_order a.i c.requires.is_at c.last_in_window-last.result
    c.last_in_window-last.ensures why (sym c.in_err-named_answer.was ∙ c.named_answer.ensures)))

pub accept_named-requires : goal.accept_named-requires
accept_named-requires c =
    let a = c.args in
    record {
      tidy = c.requires.on_file.tidy;
      within = place_held a.file.now c.requires.on_file.tidy a.i (λ (o : Order). eqb o.reference a.r.reference) c.requires.is_at;
      room = room_leaving a.today _
          (named_done a.calendar.now a.today a.file.now a.r c.requires.names_an_order a.i c.requires.is_at c.last_in_window-last.result
          c.last_in_window-last.ensures (sym c.in_ok-named_answer.was ∙ c.named_answer.ensures))
          a.out.now c.requires.on_file.room;
      window = c.last_in_window-last.ensures;
    }

pub returns : goal.returns
returns c =
    let a = c.args in
    answered_done a.today _
    (named_done a.calendar.now a.today a.file.now a.r c.requires.names_an_order a.i c.requires.is_at c.last_in_window-last.result
    c.last_in_window-last.ensures (sym c.in_ok-named_answer.was ∙ c.named_answer.ensures))
    c.accept_named.ensures
