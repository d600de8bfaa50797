-- The samples of the second theorem come out as they must, and the theorem speaks of them: its premises can be met. Assumes nothing.
use mathlib.Core.Path.{◌≡◌, refl}
use mathlib.Core.List.{[], ◌∷◌, ◌++◌}
use Rattle.std.specs.Prelude.{Some}
use lib.Dec.{lit≤}
use Rattle.lists.proofs.SearchLaws.{each_of_all}
use Rattle.days.specs.Days.{kind_of_day, is_business_day, switch_date}
use Rattle.days.specs.Window.{business_days, in_window}
use Rattle.records.specs.Layout.{field_of}
use Rattle.records.specs.Records.{well_formed_by, reading_by}
use Rattle.records.specs.Notices.{encode_by}
use Rattle.premise.specs.Orders.{places}
use Rattle.premise.specs.Steps.{requested_day, make_room, ordered, taken, on_scheduled, on_permit, on_unexecutable, on_read, supplied, on_cancel}
use Rattle.premise.specs.Steps.{on_reply, on_order, on_date_change, on_named, agreed, changed}
use Rattle.premise.specs.Clock.{reviewed, permit_awaited, cancel_awaited, ticked}
use Rattle.premise.specs.Evaluation.{contends, switch_of_day, gives_way, same_day_switch, is_displaced, drop_on_switch_day, is_overtaken}
use Rattle.premise.specs.Evaluation.{permit_overtaken, is_due, loss_notice, evaluation}
use Rattle.premise.specs.FirstIn.{refuses, stands_in_way, not_first_in}
use Rattle.premise.specs.WellKept.{order_kept_by, is_blank, file_kept_by, file_blank}
use Rattle.premise.specs.Refusals.{number, premise_rows, order_rows}
use Rattle.premise.specs.OnePremise.{marked_with, stepped_with, step_with}
use Rattle.book.specs.Totals.{waiting_in}
use Rattle.book.specs.Book.{book_of, book_kept_by, fresh_book, file_for, put_in, taken_out}
use Rattle.book.specs.Calls.{call_rows_by, call_by}
use Rattle.premise_laws.specs.Endings.{is_there}
use Rattle.demands.specs.Demand3.{Made, last_book}
use Rattle.order_ends.specs.Endings.{order_for}
use Rattle.order_ends.specs.TurningDay.{turning_day}
use Rattle.order_ends.specs.Waiting.{cancelled_of, Hangs}
use Rattle.order_ends.specs.Plays.{enough, short, made, plays, record24}
use Rattle.order_ends.specs.WaitingSample.{mark_of, every_day, arrival, hanging, arrived, hung, waiting, week, two_aweek}
use Rattle.order_ends.specs.WaitingSample.{long_wait, Comes}
use Rattle.order_ends.proofs.ByDefinition.{promised, played_both, all_unnamed}
use Rattle.order_ends.proofs.Waiting.{hangs_until_its_day}

pub comes : Comes
unfolding reviewed permit_awaited cancel_awaited ticked contends switch_of_day gives_way same_day_switch is_displaced drop_on_switch_day is_overtaken
    permit_overtaken is_due loss_notice evaluation refuses stands_in_way not_first_in marked_with stepped_with step_with places number premise_rows
    order_rows requested_day make_room ordered taken on_scheduled on_permit on_unexecutable on_read supplied on_cancel on_reply on_order on_date_change
    on_named agreed changed order_kept_by is_blank file_kept_by file_blank field_of encode_by well_formed_by reading_by kind_of_day is_business_day
    switch_date business_days in_window waiting_in book_of book_kept_by file_for put_in taken_out call_rows_by call_by order_for turning_day enough short
    made plays record24 mark_of every_day arrival hanging arrived hung waiting week two_aweek long_wait
comes = record {
  f = record {
    turning = refl;
    arrives = refl;
    answered = refl;
    statuses = refl;
    pending = refl;
    unnamed = refl;
    there = refl;
    over = lit≤ tt;
  };
  twenty = record { turning = refl; statuses = refl };
}

-- of set piece f the theorem says what comes of the order, and that it is Cancelled at the end
pub hangs : Hangs every_day 7 1 waiting (last_book (fresh_book 50) arrived).today hung (last_book (fresh_book 50) (arrived ++ hung))
unfolding arrived hung waiting
hangs =
    hangs_until_its_day every_day 50 arrived hung
    (played_both every_day (fresh_book 50) arrived hung (promised every_day (fresh_book 50) arrival)
    (promised every_day (last_book (fresh_book 50) arrived) (hanging ++ (enough (mark_of 59) ∷ []))))
    7 1 waiting comes.f.arrives refl (all_unnamed 7 1 hung comes.f.unnamed)

pub cancelled : order_for 7 1 (last_book (fresh_book 50) (arrived ++ hung))
    ≡ Some (cancelled_of every_day (last_book (fresh_book 50) arrived).today waiting)
cancelled = hangs.stays comes.f.over (each_of_all (λ (m : Made). is_there (order_for 7 1 m.reply.book)) hung comes.f.there)
