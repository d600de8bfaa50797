-- The part of the table of refusals that is for a new order on a file.
use Rattle.std.specs.Prelude.{ℕ, List, [], ◌∷◌, not, ◌&&◌, eqb, leb}
use Rattle.lists.specs.Search.{count_of}
use Rattle.days.specs.Days.{no_day}
use Rattle.records.specs.declared.Record.{Record}
use Rattle.records.specs.Records.{standard_switch}
use Rattle.premise.specs.declared.Order.{Order}
use Rattle.premise.specs.Refusals.{Answer}
use Rattle.premise.specs.declared.Refusal.TheVariants.{ReferenceHeld, DayOutOfRange, NoSwitchDate, NotFirstIn, RetailerShareFull, StackFull}
use Rattle.premise.specs.Orders.{most_orders, most_of_one, is_open, open_of}
use Rattle.premise.specs.Steps.{named}
use Rattle.premise.specs.FirstIn.{not_first_in}
use Rattle.premise.specs.Refusals.{row, first_row, limited, out_of_range, is_nothing}

-- rows 8 to 11, 26 and 12, by the file's orders and the requested day; accepted if none holds
unfoldable pub order_answer : ℕ → List Order → Record → ℕ → Answer
order_answer today os r requested =
    first_row
    (row ReferenceHeld (not (is_nothing (named r os)))
    ∷ row DayOutOfRange (limited r.detail && out_of_range today requested)
    ∷ row NoSwitchDate (eqb r.detail standard_switch && eqb requested no_day)
    ∷ row NotFirstIn (not_first_in r.detail requested os)
    ∷ row RetailerShareFull (leb most_of_one (open_of r.retailer os))
    ∷ row StackFull (eqb (count_of is_open os) most_orders)
    ∷ [])
