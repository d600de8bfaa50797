-- The sample of a window of 2 comes out as it must: the theorem speaks of its first list, and could not of the second. Assumes nothing.
use Prim.Native.Nat.{ℕ}
use mathlib.Core.Path.{◌≡◌, refl, sym, ap, ◌∙◌}
use mathlib.Core.List.{List, []}
use mathlib.Core.Bool.{false≢true}
use native.Mathlib.Omega.{arith}
use lib.ListN.{length, get_or, replicate}
use Rattle.days.specs.Days.{kind_of_day, is_business_day, switch_date}
use Rattle.days.specs.Window.{business_days, in_window}
use Rattle.records.specs.Layout.{field_of}
use Rattle.records.specs.Records.{well_formed_by, reading_by}
use Rattle.records.specs.Notices.{encode_by}
use Rattle.premise.specs.Orders.{places, kept_width, always}
use Rattle.premise.specs.Steps.{requested_day, make_room, ordered, taken, on_scheduled, on_permit, on_unexecutable, on_read, supplied, on_cancel}
use Rattle.premise.specs.Steps.{on_reply, on_order, on_date_change, on_named, agreed, changed}
use Rattle.premise.specs.Clock.{reviewed, permit_awaited, cancel_awaited, ticked}
use Rattle.premise.specs.Evaluation.{contends, switch_of_day, gives_way, same_day_switch, is_displaced, drop_on_switch_day, is_overtaken}
use Rattle.premise.specs.Evaluation.{permit_overtaken, is_due, loss_notice, evaluation}
use Rattle.premise.specs.FirstIn.{refuses, stands_in_way, not_first_in}
use Rattle.premise.specs.WellKept.{order_kept_by, is_blank, file_kept_by, file_blank}
use Rattle.premise.specs.Refusals.{number, premise_rows, order_rows}
use Rattle.premise.specs.OnePremise.{marked_with, stepped_with, step_with}
use Rattle.book.specs.Totals.{waiting_in}
use Rattle.book.specs.Book.{book_of, book_kept_by, file_for, put_in, taken_out}
use Rattle.book.specs.Calls.{call_rows_by, call_by}
use Rattle.demands.specs.Sample.{lent, malformed}
use Rattle.same_outcomes.specs.WindowSample.{asking, create, switch, scheduled, mark, short_mark, one_alone, with_detail0, with_detail5}
use Rattle.same_outcomes.specs.WindowSample.{outcomes, answers, told, announced, dated, losing, Comes, DetailTells}
use Rattle.same_outcomes.proofs.WindowOfTwo.{window_of_two}

pub comes : Comes
unfolding reviewed permit_awaited cancel_awaited ticked contends switch_of_day gives_way same_day_switch is_displaced drop_on_switch_day is_overtaken
    permit_overtaken is_due loss_notice evaluation refuses stands_in_way not_first_in marked_with stepped_with step_with places number premise_rows
    order_rows requested_day make_room ordered taken on_scheduled on_permit on_unexecutable on_read supplied on_cancel on_reply on_order on_date_change
    on_named agreed changed order_kept_by is_blank file_kept_by file_blank field_of encode_by well_formed_by reading_by kind_of_day is_business_day
    switch_date business_days in_window waiting_in book_of book_kept_by file_for put_in taken_out call_rows_by call_by lent malformed asking create switch
    scheduled mark short_mark one_alone with_detail0 with_detail5 outcomes answers told announced dated losing
comes = record {
  no_detail = (λ e. refl, (λ e. absurd (false≢true e), (λ e. refl, (tt, (tt, (λ e. refl, (λ e. refl, tt)))))));
  answered = refl;
  by_kept = refl;
  by_three = refl;
  kept_five = refl;
  by_two = refl;
}

-- the theorem's premise is met by the first list
pub same : outcomes kept_width with_detail0 ≡ outcomes (always 2) with_detail0
unfolding outcomes
same = window_of_two (replicate 20 0) 10 with_detail0 comes.no_detail

-- with the second the third call gives two notices by the kept width and one by 2
pub detail_tells : DetailTells
detail_tells e =
    let third : ◌≡◌ {A = ℕ} 2 1 =
    ap (λ (l : List (List (List ℕ))). length (get_or l 2 [])) (sym comes.kept_five ∙ ap told e ∙ comes.by_two) in
    omega (arith, third)
