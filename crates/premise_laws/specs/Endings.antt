-- Document 02, change 13, "Every order comes to one end": what an accepted record makes of the order with a reference; proofs/Endings.antt
-- proves it.
use Rattle.std.specs.Prelude.{ℕ, ◌≡◌, ◌⊎◌, List, [], ◌∷◌, Bool, true, false, cond, ◌||◌, eqb, length}
use Rattle.std.specs.Prelude.{Option, Some, None}
use Rattle.days.specs.Days.{no_day, is_business_day}
use Rattle.records.specs.declared.Record.{Record}
use Rattle.records.specs.Records.{kind_retire, kind_new_order, kind_day_mark, well_formed}
use Rattle.premise.specs.declared.Order.{Order}
use Rattle.premise.specs.Orders.{most_orders, in_review, cancel_pending, has_status, is_closed}
use Rattle.premise.specs.Steps.{is, new_order}
use Rattle.premise.specs.Clock.{ticked}
use Rattle.premise.specs.Refusals.{number, orders_of}
use Rattle.premise.specs.OnePremise.{State, step}
use Rattle.premise_laws.specs.Laws.{Held, KeptFor}

-- ---- an order among others
-- the oldest that passes a test, or none
abbrev pub oldest_with : (Order → Bool) → List Order → Option Order
oldest_with p [] = None
oldest_with p (o ∷ os) = cond (p o) (Some o) (oldest_with p os)

-- the order with a reference; the oldest closed one
abbrev pub order_in : ℕ → List Order → Option Order
order_in reference os = oldest_with (λ (o : Order). eqb o.reference reference) os

abbrev pub oldest_closed : List Order → Option Order
oldest_closed os = oldest_with is_closed os

abbrev pub is_there : Option Order → Bool
is_there None = false
is_there (Some o) = true

-- In Review or Cancel Pending without a scheduled day: no evaluation touches such an order, and no record that does not name it; only the
-- clock does.
pub record Waits (o : Order) : Type 0 where
  pub unscheduled : o.scheduled ≡ no_day
  pub status : (has_status in_review o || has_status cancel_pending o) ≡ true

-- ---- what becomes of it
-- It was not there and is: a new order brought it, as new orders begin.
pub record Comes (calendar : List ℕ) (today : ℕ) (r : Record) (reference : ℕ) (o : Order) : Type 0 where
  pub kind : is kind_new_order r ≡ true
  pub names : r.reference ≡ reference
  pub new : o ≡ new_order calendar today r

-- "until it is dropped": a new order found eight held, of which it was the oldest closed one ..
pub record Drops (os : List Order) (r : Record) (o : Order) : Type 0 where
  pub kind : is kind_new_order r ≡ true
  pub full : length os ≡ most_orders
  pub oldest : oldest_closed os ≡ Some o

-- .. "or its premise retired". Only a closed order goes.
pub record Goes (os : List Order) (r : Record) (o : Order) : Type 0 where
  pub closed : is_closed o ≡ true
  pub how : (is kind_retire r ≡ true) ⊎ Drops os r o

-- It was there and is: a closed one as it was; one that waits, and that the record does not name, too, but for the clock of a day mark.
pub record Stays (calendar : List ℕ) (premise : ℕ) (r : Record) (reference : ℕ) (before after : Order) : Type 0 where
  pub closed : is_closed before ≡ true → after ≡ before
  pub waits : Waits before → (is kind_day_mark r ≡ false → r.reference ≡ reference → ⊥)
      → after ≡ cond (is kind_day_mark r) (ticked (is_business_day calendar r.day) r.day premise before).order before

-- by whether it was there among some orders, and is there afterwards
abbrev pub Becomes : List ℕ → ℕ → ℕ → Record → ℕ → List Order → Option Order → Option Order → Type 0
Becomes calendar today premise r reference os None None = Unit {0}
Becomes calendar today premise r reference os None (Some o) = Comes calendar today r reference o
Becomes calendar today premise r reference os (Some o) None = Goes os r o
Becomes calendar today premise r reference os (Some o) (Some after) = Stays calendar premise r reference o after

-- Every accepted record does one of these, on a premise's well_kept file or none.
abbrev pub StepOnOrder : Type 0
StepOnOrder =
    (calendar : List ℕ) (s : State) (r : Record) (premise reference : ℕ)
    → well_formed r ≡ true → Held (KeptFor premise) s.file → number (step calendar s r).answer ≡ 0
    → Becomes calendar s.today premise r reference (orders_of s.file) (order_in reference (orders_of s.file))
    (order_in reference (orders_of (step calendar s r).state.file))
