-- Document 01, "The book": the table of refusals. The rows of the one-premise rules, in its order: 4 and 5, which go by the file or none,
-- with 18 of document 02, change 3, between them, and 7 to 15, with 26 of its change 12 between 11 and 12, and 16 and 17 of its change 1
-- after 14. Row 3 goes by the record's bytes alone (`reading`); rows 1, 2 and 6 are the book's.
use Rattle.std.specs.Prelude.{ℕ, ◌+◌, List, [], ◌∷◌, ◌++◌, Bool, true, false, cond, not, ◌&&◌, ◌||◌, eqb, leb, ltb}
use Rattle.std.specs.Prelude.{Option, Some, None}
use Rattle.lists.specs.Search.{any_of, count_of}
use Rattle.days.specs.Days.{no_day, switch_date}
use Rattle.days.specs.Window.{window_width, in_window}
use Rattle.records.specs.declared.Record.{Record}
use Rattle.records.specs.Records.{kind_create, kind_retire, kind_new_order, kind_scheduled, kind_cancel, kind_reply, kind_day_mark, move_in, move_out}
use Rattle.records.specs.Records.{kind_date_change, kind_agreement, standard_switch, self_selected_switch, delete, counter_of}
use Rattle.premise.specs.declared.Order.{Order}
use Rattle.premise.specs.declared.File.{File}
use Rattle.std.specs.Prelude.{Result, Ok, Err}
use Rattle.premise.specs.declared.Refusal.{Refusal}
use Rattle.premise.specs.declared.Refusal.TheVariants.{ShortBuffer, NotWellKept, MalformedRecord, NoSuchPremise, OtherAgreement, PremiseHeld}
use Rattle.premise.specs.declared.Refusal.TheVariants.{BookFull, OrderOpen, ReferenceHeld, DayOutOfRange, NoSwitchDate, NotFirstIn}
use Rattle.premise.specs.declared.Refusal.TheVariants.{RetailerShareFull, StackFull, NoSuchOrder, StatusNotTaken, CounterNotAbove, OrderInWindow}
use Rattle.premise.specs.declared.Refusal.TheVariants.{NotNextDay}
use Rattle.premise.specs.Orders.{most_orders, most_of_one, scheduled, has_status, is_open, open_of, held, kept_width}
use Rattle.premise.specs.Steps.{is, requested_day, named, order_at, taken}
use Rattle.premise.specs.FirstIn.{not_first_in}

-- What a call answers: acceptance, or the row that refuses.
abbrev pub Answer : Type 0
Answer = Result (Unit {0}) Refusal

-- The number returned, for every answer.
unfoldable pub number : Answer → ℕ
number (Ok done) = 0
number (Err ShortBuffer) = 1
number (Err NotWellKept) = 2
number (Err MalformedRecord) = 3
number (Err NoSuchPremise) = 4
number (Err OtherAgreement) = 18
number (Err PremiseHeld) = 5
number (Err BookFull) = 6
number (Err OrderOpen) = 7
number (Err ReferenceHeld) = 8
number (Err DayOutOfRange) = 9
number (Err NoSwitchDate) = 10
number (Err NotFirstIn) = 11
number (Err RetailerShareFull) = 26
number (Err StackFull) = 12
number (Err NoSuchOrder) = 13
number (Err StatusNotTaken) = 14
number (Err CounterNotAbove) = 16
number (Err OrderInWindow) = 17
number (Err NotNextDay) = 15

-- a row: what is returned, and when
pub record Row : Type 0 where
  pub answer : Answer
  pub when : Bool

abbrev pub row : Refusal → Bool → Row
row refusal when = record { answer = Err refusal; when = when }

-- the first row whose condition holds; accepted if none does
abbrev pub first_row : List Row → Answer
first_row [] = Ok tt
first_row (r ∷ rs) = cond r.when r.answer (first_row rs)

-- the rows of a table in front of the one with a number; and from it on
abbrev pub in_front_of : ℕ → List Row → List Row
in_front_of n [] = []
in_front_of n (r ∷ rs) = cond (eqb (number r.answer) n) [] (r ∷ in_front_of n rs)

abbrev pub from_row : ℕ → List Row → List Row
from_row n [] = []
from_row n (r ∷ rs) = cond (eqb (number r.answer) n) (r ∷ rs) (from_row n rs)

-- Row 9: RD − T above 90 or below −270.
abbrev pub most_ahead : ℕ
most_ahead = 90

abbrev pub most_back : ℕ
most_back = 270

abbrev pub out_of_range : ℕ → ℕ → Bool
out_of_range today requested = ltb (today + most_ahead) requested || ltb (requested + most_back) today

-- On K 1, 2 and 4.
abbrev pub limited : ℕ → Bool
limited kind = eqb kind move_in || eqb kind move_out || eqb kind self_selected_switch

-- On 2 to 9: the kinds that need a premise. On 4 to 9: those that name an order. Document 02, of kind 11: "Rows 4 and 13 apply to it, row
-- 9 doesn't"; of kind 12: "Row 4 applies".
abbrev pub needs_premise : Record → Bool
needs_premise r = leb kind_retire r.kind && leb r.kind kind_reply || is kind_date_change r || is kind_agreement r

abbrev pub names_order : Record → Bool
names_order r = leb kind_scheduled r.kind && leb r.kind kind_reply || is kind_date_change r

-- Document 02, change 1. "16 when the counter is not above the kept one".
abbrev pub not_above : Record → Order → Bool
not_above r o = is kind_date_change r && leb (counter_of r) o.counter

-- "17 when the order is Scheduled and in window": by the file's width (change 2).
abbrev pub too_late : ℕ → List ℕ → ℕ → Record → Order → Bool
too_late width calendar today r o = is kind_date_change r && has_status scheduled o && in_window calendar width today o.scheduled

abbrev pub is_held : Option File → Bool
is_held None = false
is_held (Some f) = true

-- the orders of a file; none where there is no file
abbrev pub orders_of : Option File → List Order
orders_of None = []
orders_of (Some f) = held f

abbrev pub is_nothing : Option ℕ → Bool
is_nothing (Some i) = false
is_nothing None = true

-- C, 0 where there is no file
abbrev pub agreement_of : Option File → ℕ
agreement_of None = 0
agreement_of (Some f) = f.agreement

-- Rows 4 and 5. Document 02, change 3: "18 when a delete names a retailer other than C, after 4; it is among the one-premise rows."
unfoldable pub premise_rows : Option File → Record → List Row
premise_rows file r =
    row NoSuchPremise (needs_premise r && not (is_held file))
    ∷ row OtherAgreement (is kind_agreement r && eqb r.detail delete && not (eqb r.retailer (agreement_of file)))
    ∷ row PremiseHeld (is kind_create r && is_held file)
    ∷ []

-- Rows 7 to 15, by the file's orders and its width. Document 02, change 12: "26 when a new order's Q already has 4 or more open orders at
-- the premise, after 11 and before 12; it is among the one-premise rows." Change 1: "16 when .., after 14. 17 when .., after 16."
unfoldable pub order_rows : ℕ → List ℕ → ℕ → List Order → Record → List Row
order_rows width calendar today os r =
    row OrderOpen (is kind_retire r && any_of is_open os)
    ∷ row ReferenceHeld (is kind_new_order r && not (is_nothing (named r os)))
    ∷ row DayOutOfRange (is kind_new_order r && limited r.detail && out_of_range today (requested_day calendar today r))
    ∷ row NoSwitchDate (is kind_new_order r && eqb r.detail standard_switch && eqb (switch_date calendar today) no_day)
    ∷ row NotFirstIn (is kind_new_order r && not_first_in r.detail (requested_day calendar today r) os)
    ∷ row RetailerShareFull (is kind_new_order r && leb most_of_one (open_of r.retailer os))
    ∷ row StackFull (is kind_new_order r && eqb (count_of is_open os) most_orders)
    ∷ row NoSuchOrder (names_order r
    && (is_nothing (named r os) || is kind_cancel r && not (eqb r.retailer (order_at os (named r os)).submitter)))
    ∷ row StatusNotTaken (names_order r && not (taken r (order_at os (named r os))))
    ∷ row CounterNotAbove (not_above r (order_at os (named r os)))
    ∷ row OrderInWindow (too_late width calendar today r (order_at os (named r os)))
    ∷ row NotNextDay (is kind_day_mark r && not (eqb r.day (today + 1)))
    ∷ []

-- the width of a file or none: where there is no file, no row asks for it
abbrev pub width_in : (File → ℕ) → Option File → ℕ
width_in width None = window_width
width_in width (Some f) = width f

-- rows 7 to 15 of a file or none
abbrev pub file_rows_with : (File → ℕ) → List ℕ → ℕ → Option File → Record → List Row
file_rows_with width calendar today file r = order_rows (width_in width file) calendar today (orders_of file) r

abbrev pub file_rows : List ℕ → ℕ → Option File → Record → List Row
file_rows = file_rows_with kept_width

-- the rows of the one-premise rules
abbrev pub rows_with : (File → ℕ) → List ℕ → ℕ → Option File → Record → List Row
rows_with width calendar today file r = premise_rows file r ++ file_rows_with width calendar today file r

abbrev pub rows : List ℕ → ℕ → Option File → Record → List Row
rows = rows_with kept_width
