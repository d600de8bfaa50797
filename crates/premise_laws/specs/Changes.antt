-- What changes: which orders the clock and the evaluation change, the latter by the last day in window, and so which files a day mark
-- leaves alone; proofs/MarkChanges.antt proves the law.
use Rattle.std.specs.Prelude.{ℕ, suc, Bool, true, false, cond, ◌&&◌, ◌||◌, eqb, leb, List, [], ◌∷◌, ◌≡◌}
use Rattle.premise.specs.declared.Order.{Order}
use Rattle.premise.specs.Orders.{in_review, permit_pending, cancel_pending, has_status, held}
use Rattle.premise.specs.Clock.{most_waited, review_ends, ticked}
use Rattle.days.specs.Window.{up_to, LastInWindow}
use Rattle.premise.specs.Evaluation.{gives_way, is_displaced, is_overtaken, is_due}
use Rattle.days.specs.Days.{is_business_day}
use Rattle.premise.specs.declared.File.{File}
use Rattle.premise.specs.OnePremise.{marked}
use Rattle.premise.specs.WellKept.{Tidy}

-- In Review: on a business day N grows, or the review ends; on another day the review may still end, by N as it is. Permit Pending: N grows
-- on a business day not before RD; at 21 the wait ends on any day. Cancel Pending: W grows, or the order is Cancelled.
unfoldable pub clock_changes : Bool → ℕ → Order → Bool
clock_changes business today o =
    cond (has_status in_review o) (business || review_ends o.waited.0 o.requested today)
    (cond (has_status permit_pending o) (eqb o.waited.0 most_waited || business && leb o.requested today)
    (has_status cancel_pending o))

-- The clock changes every order of which this says so, well kept or not; proofs/ClockExact.antt proves it. (That it leaves every other is
-- `tick_still` of proofs/ClockChanges.antt.)
abbrev pub ClockChangesThese : Type 0
ClockChangesThese =
    (business : Bool) (today premise : ℕ) (o : Order) → clock_changes business today o ≡ true → (ticked business today premise o).order ≡ o
    → ⊥

-- The evaluation changes the order at a place: it gives way in pass 1, is displaced in pass 2, overtaken in pass 3 or due in pass 4.
unfoldable pub changes_order : ℕ → ℕ → ℕ → List Order → ℕ → Order → Bool
changes_order today last agreement os i o =
    gives_way (up_to last) os i o || is_displaced (up_to last) os o || is_overtaken today os o || is_due (up_to last) agreement o

-- whether some order passes a test that goes by its place, the places counted from a number on
abbrev pub any_at : (ℕ → Order → Bool) → ℕ → List Order → Bool
any_at p i [] = false
any_at p i (o ∷ os) = p i o || any_at p (suc i) os

-- The clock or the evaluation changes the order at a place.
abbrev pub mark_changes_order : Bool → ℕ → ℕ → ℕ → List Order → ℕ → Order → Bool
mark_changes_order business today last agreement os i o = clock_changes business today o || changes_order today last agreement os i o

-- A day mark changes some order.
abbrev pub mark_changes_file : Bool → ℕ → ℕ → File → Bool
mark_changes_file business today last f = any_at (mark_changes_order business today last f.agreement (held f)) 0 (held f)

-- A file without such an order is left alone by the day mark: clock and evaluation leave it as it is and send nothing.
abbrev pub UnchangedStays : Type 0
UnchangedStays =
    (calendar : List ℕ) (today last : ℕ) (f : File) → Tidy f → LastInWindow calendar f.window today last
    → mark_changes_file (is_business_day calendar today) today last f ≡ false
    → marked calendar today f ≡ record { file = f; notices = [] }
