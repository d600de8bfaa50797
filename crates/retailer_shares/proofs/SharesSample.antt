-- The sample of the retailers' shares comes out as it must, and the two theorems speak of it: their premises can be met. Assumes nothing.
use Prim.Native.Nat.{◌≤◌}
use mathlib.Core.Path.{◌≡◌, refl}
use mathlib.Core.List.{[], ◌∷◌}
use native.Mathlib.Omega.{arith}
use Rattle.lists.specs.Search.{Each}
use Rattle.days.specs.Days.{kind_of_day, is_business_day, switch_date}
use Rattle.days.specs.Window.{business_days, in_window}
use Rattle.records.specs.Layout.{field_of}
use Rattle.records.specs.Records.{well_formed_by, reading_by}
use Rattle.records.specs.Notices.{encode_by}
use Rattle.premise.specs.declared.File.{File}
use Rattle.premise.specs.Orders.{most_of_one, open_of, held, places}
use Rattle.premise.specs.Steps.{requested_day, make_room, ordered, taken, on_scheduled, on_permit, on_unexecutable, on_read, supplied, on_cancel}
use Rattle.premise.specs.Steps.{on_reply, on_order, on_date_change, on_named, changed, agreed}
use Rattle.premise.specs.Clock.{reviewed, permit_awaited, cancel_awaited, ticked}
use Rattle.premise.specs.Evaluation.{contends, switch_of_day, gives_way, same_day_switch, is_displaced, drop_on_switch_day, is_overtaken}
use Rattle.premise.specs.Evaluation.{permit_overtaken, is_due, loss_notice, evaluation}
use Rattle.premise.specs.FirstIn.{refuses, stands_in_way, not_first_in}
use Rattle.premise.specs.WellKept.{order_kept_by, is_blank, file_kept_by, file_blank}
use Rattle.premise.specs.Refusals.{number, premise_rows, order_rows}
use Rattle.premise.specs.OnePremise.{marked_with, step_with, stepped_with}
use Rattle.book.specs.Totals.{waiting_in}
use Rattle.book.specs.Book.{book_of, book_kept_by, files_of, fresh_book, file_for, put_in, taken_out}
use Rattle.book.specs.Calls.{call, call_rows_by, call_by}
use Rattle.demands.specs.Demand3.{Made, last_book}
use Rattle.demands.specs.Sample.{lent, made, plays, create7}
use Rattle.retailer_shares.specs.SharesSample.{drop_of, beginning, tape, sample, third, dropped, file7, found, Comes}
use Rattle.demands.proofs.ByDefinition.{promised}
use Rattle.retailer_shares.proofs.Shares.{no_retailer_fills, room_for_others}

pub comes : Comes
unfolding reviewed permit_awaited cancel_awaited ticked contends switch_of_day gives_way same_day_switch is_displaced drop_on_switch_day is_overtaken
    permit_overtaken is_due loss_notice evaluation refuses stands_in_way not_first_in marked_with stepped_with step_with places number premise_rows
    order_rows requested_day make_room ordered taken on_scheduled on_permit on_unexecutable on_read supplied on_cancel on_reply on_order on_date_change
    on_named changed agreed order_kept_by is_blank file_kept_by file_blank field_of encode_by well_formed_by reading_by kind_of_day is_business_day
    switch_date business_days in_window waiting_in book_of book_kept_by file_for put_in taken_out call_rows_by call_by lent made plays create7 drop_of
    beginning tape sample third dropped file7 found
comes = record {
  answered = refl;
  shares = refl;
  room = record { says = refl; new = refl; there = refl; no_earlier = refl; own = omega arith; all = omega arith };
}

-- of these calls the first theorem says that nobody has more than four
pub within : Each (λ (f : File). open_of 202 (held f) ≤ most_of_one) (files_of (last_book (fresh_book 10) sample))
unfolding sample
within = no_retailer_fills [] 10 sample (promised [] (fresh_book 10) tape) 202

-- and the second that the third retailer, played next, is accepted
pub accepted : number (call [] found (drop_of 6 204) lent).answer ≡ 0
unfolding made plays
accepted =
    let next : Made = made (drop_of 6 204) (call [] found (drop_of 6 204) lent) in
    room_for_others [] found (drop_of 6 204) lent next.reply next.after (promised [] found (drop_of 6 204 ∷ [])).0 third file7
    comes.room
