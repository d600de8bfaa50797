-- The part of the table of refusals that is for a record which names an order.
use Rattle.std.specs.Prelude.{ℕ, [], ◌∷◌, Bool, not, ◌&&◌, eqb}
use Rattle.records.specs.declared.Record.{Record}
use Rattle.records.specs.Records.{kind_cancel, kind_date_change}
use Rattle.premise.specs.declared.Order.{Order}
use Rattle.premise.specs.Refusals.{Answer}
use Rattle.premise.specs.declared.Refusal.TheVariants.{NoSuchOrder, StatusNotTaken, CounterNotAbove, OrderInWindow}
use Rattle.premise.specs.Orders.{scheduled, has_status}
use Rattle.premise.specs.Steps.{is, taken}
use Rattle.premise.specs.Refusals.{row, first_row, not_above}

-- On 8 another Q.
abbrev pub is_foreign : Record → Order → Bool
is_foreign r o = is kind_cancel r && not (eqb r.retailer o.submitter)

-- `too_late` by a test on scheduled days, which is whether one is in window
abbrev pub is_too_late : (ℕ → Bool) → Record → Order → Bool
is_too_late near r o = is kind_date_change r && has_status scheduled o && near o.scheduled

-- rows 13, 14, 16 and 17, by the order that is named; accepted if none holds
unfoldable pub named_answer : (ℕ → Bool) → Record → Order → Answer
named_answer near r o =
    first_row
    (row NoSuchOrder (is_foreign r o)
    ∷ row StatusNotTaken (not (taken r o))
    ∷ row CounterNotAbove (not_above r o)
    ∷ row OrderInWindow (is_too_late near r o)
    ∷ [])
