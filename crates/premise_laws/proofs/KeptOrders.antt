-- A kept order: the test `order_kept`, fact by fact, for one order and for a list of them; and what the facts say of the scheduled day.
-- Assumes nothing.
use Prim.Native.Nat.{ℕ}
use mathlib.Core.Path.{◌≡◌, subst}
use mathlib.Core.List.{List, [], ◌∷◌}
use mathlib.Core.Bool.{Bool, true, false, cond, ◌&&◌, ◌||◌}
use native.Mathlib.Omega.{arith}
use lib.Dec.{eqb, leb}
use borrow.Author.Tests.{leb-true, leb-false, le-leb, eqb-true, eq-eqb}
use Rattle.lists.specs.Search.{all_of, Each}
use Rattle.lists.proofs.TestLaws.{pass_each, each_pass}
use Rattle.lists.proofs.SearchLaws.{each_of_all, all_of_each, each_map}
use Rattle.days.specs.Days.{last_day, no_day, is_day}
use Rattle.records.specs.Records.{a_reference, a_retailer, an_order_kind, last_counter}
use Rattle.premise.specs.declared.Order.{Order}
use Rattle.premise.specs.Orders.{in_review, permit_pending, scheduled, complete, unexecutable, has_status, with_status}
use Rattle.premise.specs.Clock.{most_waited}
use Rattle.premise.specs.WellKept.{order_kept_by, order_kept, day_fits, permit_fits, pending_fits}

-- the facts of a kept order, one for each test of `order_kept`
pub record OrderKept (o : Order) : Type 0 where
  pub reference : a_reference o.reference ≡ true
  pub kind : an_order_kind o.kind ≡ true
  pub submitter : a_retailer o.submitter ≡ true
  pub requested : is_day o.requested ≡ true
  pub status : (leb in_review o.status && leb o.status unexecutable) ≡ true
  pub scheduled : day_fits o ≡ true
  pub permit : permit_fits o ≡ true
  pub waited : leb o.waited.0 most_waited ≡ true
  pub pending : pending_fits o ≡ true
  pub told : leb o.told 1 ≡ true
  pub counter : leb o.counter last_counter ≡ true

-- the tests of `order_kept` after the first
abbrev tests : Order → List Bool
tests o =
    an_order_kind o.kind
    ∷ a_retailer o.submitter
    ∷ is_day o.requested
    ∷ (leb in_review o.status && leb o.status unexecutable)
    ∷ day_fits o
    ∷ permit_fits o
    ∷ leb o.waited.0 most_waited
    ∷ pending_fits o
    ∷ leb o.told 1
    ∷ leb o.counter last_counter
    ∷ []

pub order_facts : (o : Order) → order_kept o ≡ true → OrderKept o
unfolding order_kept_by
order_facts o h =
    let k = pass_each (a_reference o.reference) (tests o) h in
    record {
      reference = k.0;
      kind = k.1.0;
      submitter = k.1.1.0;
      requested = k.1.1.1.0;
      status = k.1.1.1.1.0;
      scheduled = k.1.1.1.1.1.0;
      permit = k.1.1.1.1.1.1.0;
      waited = k.1.1.1.1.1.1.1.0;
      pending = k.1.1.1.1.1.1.1.1.0;
      told = k.1.1.1.1.1.1.1.1.1.0;
      counter = k.1.1.1.1.1.1.1.1.1.1.0;
    }

pub order_test : (o : Order) → OrderKept o → order_kept o ≡ true
unfolding order_kept_by
order_test o k =
    each_pass (a_reference o.reference) (tests o) (
      k.reference,
      (
        k.kind,
        (
          k.submitter,
          (k.requested, (k.status, (k.scheduled, (k.permit, (k.waited, (k.pending, (k.told, (k.counter, tt)))))))),
        ),
      ),
    )

-- the same for a list of orders
pub orders_facts : (os : List Order) → all_of order_kept os ≡ true → Each OrderKept os
orders_facts os h = each_map (λ (o : Order). order_kept o ≡ true) OrderKept order_facts os (each_of_all order_kept os h)

pub orders_test : (os : List Order) → Each OrderKept os → all_of order_kept os ≡ true
orders_test os h = all_of_each order_kept os (each_map OrderKept (λ (o : Order). order_kept o ≡ true) order_test os h)

-- a kept order whose status is known: its facts with that status written in them
pub in_status_lem : (status : ℕ) (o : Order) → has_status status o ≡ true → OrderKept o → OrderKept (with_status status o)
in_status_lem status o e k = subst (λ (s : ℕ). OrderKept (with_status s o)) (eqb-true o.status status e) k

-- SD is a day or none, whatever the status
pub day_or_none : (o : Order) → OrderKept o → leb o.scheduled no_day ≡ true
day_or_none o k = go (has_status in_review o || has_status permit_pending o) (has_status scheduled o || has_status complete o) k.scheduled
  where
    go : (a b : Bool) → cond a (eqb o.scheduled no_day) (cond b (is_day o.scheduled) (leb o.scheduled no_day)) ≡ true
        → leb o.scheduled no_day ≡ true
    go true b e = le-leb o.scheduled no_day (omega (arith, eqb-true o.scheduled no_day e))
    go false true e = le-leb o.scheduled no_day (omega (arith, leb-true o.scheduled last_day e))
    go false false e = e

-- SD is none where it is no day
pub no_day_lem : (o : Order) → OrderKept o → is_day o.scheduled ≡ false → eqb o.scheduled no_day ≡ true
no_day_lem o k e = eq-eqb o.scheduled no_day
    (omega (arith, leb-true o.scheduled no_day (day_or_none o k), leb-false o.scheduled last_day e))
