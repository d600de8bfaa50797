-- The sample of the first theorem comes out as it must, and the theorem speaks of it: its premises can be met. Assumes nothing.
use mathlib.Core.Path.{◌≡◌, refl}
use mathlib.Core.List.{[], ◌++◌}
use Rattle.std.specs.Prelude.{Some}
use Rattle.lists.proofs.SearchLaws.{each_of_all}
use Rattle.days.specs.Days.{kind_of_day, is_business_day, switch_date}
use Rattle.days.specs.Window.{business_days, in_window}
use Rattle.records.specs.Layout.{field_of}
use Rattle.records.specs.Records.{well_formed_by, reading_by}
use Rattle.records.specs.Notices.{encode_by}
use Rattle.premise.specs.Orders.{places}
use Rattle.premise.specs.Steps.{requested_day, make_room, ordered, taken, on_scheduled, on_permit, on_unexecutable, on_read, supplied, on_cancel}
use Rattle.premise.specs.Steps.{on_reply, on_order, on_date_change, on_named, agreed, changed}
use Rattle.premise.specs.Clock.{reviewed, permit_awaited, cancel_awaited, ticked}
use Rattle.premise.specs.Evaluation.{contends, switch_of_day, gives_way, same_day_switch, is_displaced, drop_on_switch_day, is_overtaken}
use Rattle.premise.specs.Evaluation.{permit_overtaken, is_due, loss_notice, evaluation}
use Rattle.premise.specs.FirstIn.{refuses, stands_in_way, not_first_in}
use Rattle.premise.specs.WellKept.{order_kept_by, is_blank, file_kept_by, file_blank}
use Rattle.premise.specs.Refusals.{number, premise_rows, order_rows}
use Rattle.premise.specs.OnePremise.{marked_with, stepped_with, step_with}
use Rattle.book.specs.Totals.{waiting_in}
use Rattle.book.specs.Book.{book_of, book_kept_by, fresh_book, file_for, put_in, taken_out}
use Rattle.book.specs.Calls.{call_rows_by, call_by}
use Rattle.demands.specs.Demand3.{Made, last_book}
use Rattle.premise_laws.specs.Endings.{is_there}
use Rattle.order_ends.specs.Endings.{order_for}
use Rattle.order_ends.specs.Plays.{enough, short, made, plays, record24}
use Rattle.order_ends.specs.EndingsSample.{drop_of, first, second, third, completed, kept, anew, done, Comes}
use Rattle.order_ends.proofs.ByDefinition.{promised, played_both}
use Rattle.order_ends.proofs.Endings.{endings}

pub comes : Comes
unfolding reviewed permit_awaited cancel_awaited ticked contends switch_of_day gives_way same_day_switch is_displaced drop_on_switch_day is_overtaken
    permit_overtaken is_due loss_notice evaluation refuses stands_in_way not_first_in marked_with stepped_with step_with places number premise_rows
    order_rows requested_day make_room ordered taken on_scheduled on_permit on_unexecutable on_read supplied on_cancel on_reply on_order on_date_change
    on_named agreed changed order_kept_by is_blank file_kept_by file_blank field_of encode_by well_formed_by reading_by kind_of_day is_business_day
    switch_date business_days in_window waiting_in book_of book_kept_by file_for put_in taken_out call_rows_by call_by order_for enough short made
    plays record24 drop_of first second third completed kept anew done
comes = record { complete = refl; answered = refl; there = refl; statuses7 = refl; statuses5 = refl }

-- the theorem says that it is the same order after the second part
pub stays : order_for 7 1 (last_book (fresh_book 10) (completed ++ kept)) ≡ Some done
unfolding completed kept done
stays =
    endings.stays [] 10 completed kept
    (played_both [] (fresh_book 10) completed kept (promised [] (fresh_book 10) first)
    (promised [] (last_book (fresh_book 10) completed) second))
    7 1 done comes.complete refl
    (each_of_all (λ (m : Made). is_there (order_for 7 1 m.reply.book)) kept comes.there)
