-- The answer to a new order: what acceptance says, and that its rows are those of the table. Assumes nothing.
use Prim.Native.Nat.{ℕ}
use mathlib.Core.Path.{◌≡◌, refl, sym, ap, ◌∙◌}
use mathlib.Core.List.{List, [], ◌∷◌}
use Rattle.std.specs.Prelude.{Some}
use mathlib.Core.Bool.{Bool, true, false, cond, not, ◌&&◌}
use lib.Dec.{eqb, leb}
use Rattle.lists.specs.Search.{count_of}
use Rattle.days.specs.Days.{no_day, switch_date}
use Rattle.records.specs.declared.Record.{Record}
use Rattle.records.specs.Records.{kind_new_order, standard_switch}
use Rattle.premise.specs.declared.Order.{Order}
use Rattle.premise.specs.declared.File.{File}
use Rattle.premise.specs.Refusals.{Answer}
use Rattle.premise.specs.declared.Refusal.TheVariants.{ReferenceHeld, DayOutOfRange, NoSwitchDate, NotFirstIn, RetailerShareFull, StackFull}
use Rattle.premise.specs.Orders.{most_orders, most_of_one, is_open, open_of, held}
use Rattle.premise.specs.Steps.{requested_day, named}
use Rattle.premise.specs.FirstIn.{not_first_in}
use Rattle.premise.specs.Refusals.{number, row, first_row, premise_rows, order_rows, rows, limited, out_of_range, is_nothing}
use Rattle.premise_rows.specs.NewOrderRows.{order_answer}

-- ---- an accepted order finds room
pub accepted_free : (today : ℕ) (os : List Order) (r : Record) (requested : ℕ) → eqb (number (order_answer today os r requested)) 0 ≡ true
    → eqb (count_of is_open os) most_orders ≡ false
unfolding order_answer number
accepted_free today os r requested h =
    go
    (not (is_nothing (named r os)))
    (limited r.detail && out_of_range today requested)
    (eqb r.detail standard_switch && eqb requested no_day)
    (not_first_in r.detail requested os)
    (leb most_of_one (open_of r.retailer os))
    (eqb (count_of is_open os) most_orders)
    h
  where
    go : (taken far dateless late many full : Bool)
        → eqb (number (first_row
        (row ReferenceHeld taken ∷ row DayOutOfRange far ∷ row NoSwitchDate dateless ∷ row NotFirstIn late ∷ row RetailerShareFull many
        ∷ row StackFull full ∷ []))) 0 ≡ true
        → full ≡ false
    go taken far dateless late many false h = refl
    go true far dateless late many true h = cc
    go false true dateless late many true h = cc
    go false false true late many true h = cc
    go false false false true many true h = cc
    go false false false false true true h = cc
    go false false false false false true h = cc

-- ---- these rows are those of the table
-- a standard switch has no date where its requested day is none
dateless : (calendar : List ℕ) (today : ℕ) (r : Record)
    → (eqb r.detail standard_switch && eqb (switch_date calendar today) no_day)
    ≡ (eqb r.detail standard_switch && eqb (requested_day calendar today r) no_day)
unfolding requested_day
dateless calendar today r = go (eqb r.detail standard_switch)
  where
    go : (b : Bool) → (b && eqb (switch_date calendar today) no_day) ≡ (b && eqb (cond b (switch_date calendar today) r.day) no_day)
    go true = refl
    go false = refl

-- with row 10 by another test
abbrev rows_with : ℕ → List Order → Record → ℕ → Bool → Answer
rows_with today os r requested missing =
    first_row
    (row ReferenceHeld (not (is_nothing (named r os)))
    ∷ row DayOutOfRange (limited r.detail && out_of_range today requested)
    ∷ row NoSwitchDate missing
    ∷ row NotFirstIn (not_first_in r.detail requested os)
    ∷ row RetailerShareFull (leb most_of_one (open_of r.retailer os))
    ∷ row StackFull (eqb (count_of is_open os) most_orders)
    ∷ [])

pub order_answer_lem : (calendar : List ℕ) (today : ℕ) (f : File) (r : Record) → r.kind ≡ kind_new_order → (requested : ℕ)
    → requested ≡ requested_day calendar today r
    → first_row (rows calendar today (Some f) r) ≡ order_answer today (held f) r requested
unfolding premise_rows order_rows order_answer
order_answer_lem calendar today f r e requested q =
    (rw e)
    ∙ ap (rows_with today (held f) r (requested_day calendar today r)) (dateless calendar today r)
    ∙ ap (λ (day : ℕ). rows_with today (held f) r day (eqb r.detail standard_switch && eqb day no_day)) (sym q)
