-- The samples of the four totals come out as they must, and the two theorems speak of them: their premises can be met. Assumes nothing.
use mathlib.Core.Path.{◌≡◌, refl}
use mathlib.Core.List.{[], ◌∷◌}
use Rattle.days.specs.Days.{kind_of_day, is_business_day, switch_date}
use Rattle.days.specs.Window.{business_days, in_window}
use Rattle.records.specs.Layout.{field_of}
use Rattle.records.specs.Records.{well_formed_by, reading_by}
use Rattle.records.specs.Notices.{encode_by}
use Rattle.premise.specs.Orders.{places}
use Rattle.premise.specs.Steps.{requested_day, make_room, ordered, taken, on_scheduled, on_permit, on_unexecutable, on_read, supplied, on_cancel}
use Rattle.premise.specs.Steps.{on_reply, on_order, on_date_change, on_named, changed, agreed}
use Rattle.premise.specs.Clock.{reviewed, permit_awaited, cancel_awaited, ticked}
use Rattle.premise.specs.Evaluation.{contends, switch_of_day, gives_way, same_day_switch, is_displaced, drop_on_switch_day, is_overtaken}
use Rattle.premise.specs.Evaluation.{permit_overtaken, is_due, loss_notice, evaluation}
use Rattle.premise.specs.FirstIn.{refuses, stands_in_way, not_first_in}
use Rattle.premise.specs.WellKept.{order_kept_by, is_blank, file_kept_by, file_blank}
use Rattle.premise.specs.Refusals.{number, premise_rows, order_rows}
use Rattle.premise.specs.OnePremise.{marked_with, step_with, stepped_with}
use Rattle.book.specs.declared.Waiting.{Waiting}
use Rattle.book.specs.Totals.{waiting_in}
use Rattle.book.specs.Book.{book_of, book_kept_by, files_of, fresh_book, file_for, put_in, taken_out}
use Rattle.book.specs.Calls.{call_rows_by, call_by}
use Rattle.book.specs.Promise.{Shown}
use Rattle.demands.specs.Demand3.{last_book}
use Rattle.demands.specs.Sample.{lent, made, plays, calendar, create7, order7, tape, sample, shuffled, again}
use Rattle.waiting_totals.specs.Waiting.{CountsOver}
use Rattle.waiting_totals.specs.WaitingSample.{first_three, scheduled_one, complete_one, drop_on, each, Comes}
use Rattle.waiting_totals.specs.WaitingSample as waiting
use Rattle.demands.proofs.ByDefinition.{promised, by_definition}
use Rattle.demands.proofs.Sample.{shorts, agree_made}
use Rattle.waiting_totals.proofs.Waiting.{totals_are_counts, shuffled_totals}

pub comes : Comes
unfolding reviewed permit_awaited cancel_awaited ticked contends switch_of_day gives_way same_day_switch is_displaced drop_on_switch_day is_overtaken
    permit_overtaken is_due loss_notice evaluation refuses stands_in_way not_first_in marked_with stepped_with step_with places number premise_rows
    order_rows requested_day make_room ordered taken on_scheduled on_permit on_unexecutable on_read supplied on_cancel on_reply on_order on_date_change
    on_named changed agreed order_kept_by is_blank file_kept_by file_blank field_of encode_by well_formed_by reading_by kind_of_day is_business_day
    switch_date business_days in_window waiting_in book_of book_kept_by file_for put_in taken_out call_rows_by call_by lent made plays create7 order7
    calendar first_three waiting.tape scheduled_one complete_one drop_on each waiting.sample
comes = record { third = refl; whole = refl; all = refl }

-- of the third list the first theorem says that what is shown is the count over its files
pub counted : CountsOver (files_of (last_book (fresh_book 10) waiting.sample)) (last_book (fresh_book 10) waiting.sample).waiting
unfolding waiting.sample
counted = totals_are_counts [] 10 waiting.sample _ (promised [] (fresh_book 10) each) refl

-- and the second of the sample of demand 3 that what is shown of it and of its shuffle is the same
pub same_shown : (shown seen : Waiting) → Shown (last_book (fresh_book 0) sample) shown → Shown (last_book (fresh_book 0) again) seen
    → shown ≡ seen
unfolding sample again
same_shown shown seen asked later =
    let p = by_definition calendar 0 tape shorts.first in
    let q = by_definition calendar 0 shuffled shorts.second in
    shuffled_totals calendar 0 sample again shown seen p.played p.allowed q.played q.allowed agree_made asked later
