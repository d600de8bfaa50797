-- The sample of either width comes out as it must: the theorem speaks of its first list, and could not of the second. Assumes nothing.
use mathlib.Core.Path.{refl}
use native.Mathlib.Omega.{arith}
use Rattle.days.specs.Days.{kind_of_day, is_business_day, switch_date}
use Rattle.days.specs.Window.{business_days, in_window}
use Rattle.records.specs.Layout.{field_of}
use Rattle.records.specs.Records.{well_formed_by, reading_by}
use Rattle.records.specs.Notices.{encode_by}
use Rattle.premise.specs.Orders.{places}
use Rattle.premise.specs.Steps.{requested_day, make_room, ordered, taken, on_scheduled, on_permit, on_unexecutable, on_read, supplied, on_cancel}
use Rattle.premise.specs.Steps.{on_reply, on_order, on_date_change, on_named, agreed, changed}
use Rattle.premise.specs.Clock.{reviewed, permit_awaited, cancel_awaited, ticked}
use Rattle.premise.specs.Evaluation.{contends, switch_of_day, gives_way, same_day_switch, is_displaced, drop_on_switch_day, is_overtaken}
use Rattle.premise.specs.Evaluation.{permit_overtaken, is_due, loss_notice, evaluation}
use Rattle.premise.specs.FirstIn.{refuses, stands_in_way, not_first_in}
use Rattle.premise.specs.WellKept.{order_kept_by, is_blank, file_kept_by, file_blank}
use Rattle.premise.specs.Refusals.{number, premise_rows, order_rows}
use Rattle.premise.specs.OnePremise.{marked_with, stepped_with, step_with}
use Rattle.book.specs.Totals.{waiting_in}
use Rattle.book.specs.Book.{book_of, book_kept_by, file_for, put_in, taken_out}
use Rattle.book.specs.Calls.{call_rows_by, call_by}
use Rattle.demands.specs.Sample.{lent}
use Rattle.same_outcomes.specs.WidthSample.{asking, create, move_in, redated, scheduled, established, short_mark}
use Rattle.same_outcomes.specs.WidthSample.{mark, too_long, retire_of5}
use Rattle.same_outcomes.specs.WidthSample.{nine_digits, long_switch, wide_counter, retire_of_rest, more_digits, outcomes, answers, told}
use Rattle.same_outcomes.specs.WidthSample.{book_with, marked, told_of_nine, told_of_more, Comes}

pub comes : Comes
unfolding reviewed permit_awaited cancel_awaited ticked contends switch_of_day gives_way same_day_switch is_displaced drop_on_switch_day is_overtaken
    permit_overtaken is_due loss_notice evaluation refuses stands_in_way not_first_in marked_with stepped_with step_with places number premise_rows
    order_rows requested_day make_room ordered taken on_scheduled on_permit on_unexecutable on_read supplied on_cancel on_reply on_order on_date_change
    on_named agreed changed order_kept_by is_blank file_kept_by file_blank field_of encode_by well_formed_by reading_by kind_of_day is_business_day
    switch_date business_days in_window waiting_in book_of book_kept_by file_for put_in taken_out call_rows_by call_by lent asking create move_in redated
    scheduled established short_mark mark too_long retire_of5 nine_digits long_switch wide_counter retire_of_rest more_digits outcomes answers told
    book_with marked told_of_nine told_of_more
comes =
    record {
      nine = (
        λ l. record { rest = refl; retailer = λ other. omega arith },
        (
          λ l. record { rest = refl; retailer = λ other. omega arith },
          (
            λ l. record { rest = refl; retailer = λ other. absurd (other refl) },
            (
              λ l. record { rest = refl; retailer = λ other. omega arith },
              (
                λ l. absurd (omega (arith, l)),
                (
                  λ l. record { rest = refl; retailer = λ other. omega arith },
                  (
                    λ l. record { rest = refl; retailer = λ other. omega arith },
                    (
                      λ l. record { rest = refl; retailer = λ other. omega arith },
                      (λ l. record { rest = refl; retailer = λ other. omega arith }, tt),
                    ),
                  ),
                ),
              ),
            ),
          ),
        ),
      );
      answered = refl;
      by_narrow = refl;
      ten_refused = refl;
      ten_taken = refl;
      narrow_refuses = refl;
      wide_takes = refl;
      by_wide = refl;
      rest_refused = refl;
      rest_taken = refl;
      book_damaged = refl;
      book_kept_lem = refl;
      both_kept = refl;
    }
