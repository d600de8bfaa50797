-- Kind 3 leaves a well_kept file: the new order has its fields in range, since its record is well formed and there is a switch date where
-- it needs one; none of the others has its reference; and there is room, since not all eight are open. Its retailer had fewer than 4 open
-- orders, and what goes to make room gives nobody more. Assumes nothing.
use Prim.Native.Nat.{ℕ, ◌+◌, ◌≤◌, ◌<◌}
use mathlib.Core.Path.{◌≡◌, refl, ap, ap₂}
use mathlib.Core.Logic.{◌⊎◌, inl, inr}
use mathlib.Core.List.{List, [], ◌∷◌, ◌++◌}
use Rattle.std.specs.Prelude.{Option, Some, None}
use mathlib.Core.Bool.{Bool, true, false, cond, not, ◌&&◌, false≢true}
use native.Mathlib.Omega.{arith}
use lib.Dec.{eqb, leb}
use lib.ListN.{length, length-append}
use borrow.Author.Tests.{not-false, le-leb, leb-false, eqb-true, eqb-false}
use Rattle.lists.specs.Search.{any_of, count_of, without_first, Each}
use Rattle.lists.proofs.TestLaws.{by_test, and_other}
use Rattle.lists.proofs.SearchLaws.{each_append, each_without, any_without, none_found, length_without, count_most, some_fails}
use Rattle.lists.proofs.SearchLaws.{count_append, count_without}
use Rattle.days.specs.Days.{last_day, no_day, is_day, switch_date}
use Rattle.days.specs.Laws.{FirstStart, NoStart}
use Rattle.days.proofs.Laws.{switch_date_is}
use Rattle.records.specs.declared.Record.{Record}
use Rattle.records.specs.Records.{kind_new_order, standard_switch, unused, well_formed}
use Rattle.premise.specs.declared.Order.{Order}
use Rattle.premise.specs.declared.File.{File}
use Rattle.premise.specs.Orders.{most_orders, most_of_one, is_open, is_open_of, open_of, is_closed, held}
use Rattle.premise.specs.Steps.{is, requested_day, new_order, make_room, ordered, named}
use Rattle.premise.specs.WellKept.{distinct}
use Rattle.premise.specs.Refusals.{is_nothing}
use Rattle.premise_laws.specs.Laws.{KeptFor, WithinShare}
use Rattle.premise_laws.proofs.KeptOrders.{OrderKept, orders_facts}
use Rattle.premise.proofs.KeptFiles.{held_few, held_with}
use Rattle.premise_laws.proofs.KeptReferences.{has_reference, distinct_without, distinct_more}
use Rattle.premise_laws.proofs.KeptPasses.{header_of, kept_with}
use Rattle.premise_laws.proofs.KeptRecords.{wait_few, order_fits, NoRow}

-- ---- room for one more
-- what holds of a file's orders, and without the oldest closed one, holds of those that are left
pub room_by : (P : List Order → Type 0) (os : List Order) → P os → P (without_first is_closed os) → P (make_room os)
unfolding make_room
room_by P os all fewer = by_test P (eqb (length os) most_orders) (without_first is_closed os) os (λ q. fewer) (λ q. all)

-- if not all eight orders are open, fewer than eight are left
pub room_few : (os : List Order) → length os ≤ most_orders → eqb (count_of is_open os) most_orders ≡ false → length (make_room os) < most_orders
unfolding make_room
room_few os h e = by_test (λ (xs : List Order). length xs < most_orders) (eqb (length os) most_orders) (without_first is_closed os) os full free
  where
    full : eqb (length os) most_orders ≡ true → length (without_first is_closed os) < most_orders
    full q =
        let n = eqb-true (length os) most_orders q in
        let m = eqb-false (count_of is_open os) most_orders e in
        let closed = some_fails is_open os (omega (arith, count_most is_open os, m)) in
        omega (arith, length_without is_closed os closed)

    free : eqb (length os) most_orders ≡ false → length os < most_orders
    free q = omega (arith, eqb-false (length os) most_orders q)

-- ---- the new order
-- the switch date is a day where there is one
switch_day : (calendar : List ℕ) (today : ℕ) → eqb (switch_date calendar today) no_day ≡ false → is_day (switch_date calendar today) ≡ true
switch_day calendar today e = go (switch_date_is calendar today)
  where
    go : FirstStart calendar today (switch_date calendar today) ⊎ NoStart calendar today (switch_date calendar today)
        → is_day (switch_date calendar today) ≡ true
    go (inl s) = le-leb (switch_date calendar today) last_day s.day
    go (inr s) = absurd (eqb-false (switch_date calendar today) no_day e s.missing)

nothing_is : (found : Option ℕ) → is_nothing found ≡ true → found ≡ None
nothing_is (Some i) e = absurd (false≢true e)
nothing_is None e = refl

module _ (calendar : List ℕ) (today : ℕ) (f : File) (r : Record) (w : well_formed r ≡ true) (n : NoRow calendar today (Some f) r)
    (e : is kind_new_order r ≡ true) where
  requested_day_lem : is_day (requested_day calendar today r) ≡ true
  unfolding requested_day
  requested_day_lem = go (eqb r.detail standard_switch) refl (order_fits r w e).day
    where
      go : (b : Bool) → eqb r.detail standard_switch ≡ b → cond b unused is_day r.day ≡ true
          → is_day (cond b (switch_date calendar today) r.day) ≡ true
      go true q d =
          switch_day calendar today
          (and_other (is kind_new_order r && eqb r.detail standard_switch) (eqb (switch_date calendar today) no_day) n.no_switch_date
          (ap₂ (λ (a b : Bool). a && b) e q))
      go false q d = d

  new_kept : OrderKept (new_order calendar today r)
  new_kept =
      let fits = order_fits r w e in
      record {
        reference = fits.reference;
        kind = fits.detail;
        submitter = fits.retailer;
        requested = requested_day_lem;
        status = refl;
        scheduled = refl;
        permit = refl;
        waited = wait_few calendar today;
        pending = refl;
        told = refl;
        counter = refl;
      }

  pub reference_free : any_of (has_reference r.reference) (held f) ≡ false
  reference_free =
      none_found (has_reference r.reference) 0 (held f)
      (nothing_is (named r (held f))
      (not-false (is_nothing (named r (held f)))
      (and_other (is kind_new_order r) (not (is_nothing (named r (held f)))) n.reference_held e)))

  pub ordered_keeps : (premise : ℕ) → KeptFor premise f → KeptFor premise (ordered calendar today f r).file
  unfolding ordered
  ordered_keeps premise k =
      let os = held f in
      let new = new_order calendar today r in
      let kept = orders_facts os k.kept.orders in
      let orders = room_by (Each OrderKept) os kept (each_without OrderKept is_closed os kept) in
      let apart = room_by (λ xs. distinct xs ≡ true) os k.kept.references (distinct_without is_closed os k.kept.references) in
      let free = room_by (λ xs. any_of (has_reference r.reference) xs ≡ false) os reference_free
      (any_without (has_reference r.reference) is_closed os reference_free) in
      let few = room_few os (held_few f k.kept.tidy)
      (and_other (is kind_new_order r) (eqb (count_of is_open os) most_orders) n.stack_full e) in
      kept_with premise f (make_room os ++ (new ∷ [])) (header_of premise f k)
      (omega (arith, length-append (make_room os) (new ∷ []), few))
      (each_append OrderKept (make_room os) (new ∷ []) orders (new_kept, tt))
      (distinct_more (make_room os) new apart free)

  pub ordered_share : (retailer : ℕ) → WithinShare retailer f → WithinShare retailer (ordered calendar today f r).file
  unfolding ordered
  ordered_share retailer h =
      rw (held_with f (make_room os ++ (new ∷ [])), count_append (is_open_of retailer) (make_room os) (new ∷ []))
      (go (eqb r.retailer retailer) refl)
    where
      os : List Order
      os = held f

      new : Order
      new = new_order calendar today r

      left : open_of retailer (make_room os) ≤ open_of retailer os
      left = room_by (λ xs. open_of retailer xs ≤ open_of retailer os) os (omega arith) (count_without (is_open_of retailer) is_closed os)

      fewer : open_of r.retailer os < most_of_one
      fewer = leb-false most_of_one (open_of r.retailer os)
          (and_other (is kind_new_order r) (leb most_of_one (open_of r.retailer os)) n.share_full e)

      go : (own : Bool) → eqb r.retailer retailer ≡ own → open_of retailer (make_room os) + (cond own 1 0 + 0) ≤ most_of_one
      go true q =
          let same : open_of r.retailer os ≡ open_of retailer os = ap (λ (k : ℕ). open_of k os) (eqb-true r.retailer retailer q) in
          omega (arith, left, fewer, same)
      go false q = omega (arith, left, h)
