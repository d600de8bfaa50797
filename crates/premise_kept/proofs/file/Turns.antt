-- The walk over a file's orders: what its turns have decided and counted so far, and what it has at the end. Assumes nothing.
use Prim.Native.Nat.{ℕ, ◌+◌, ◌^◌, ◌≤◌, ◌<◌}
use mathlib.Core.Path.{◌≡◌, refl, sym, ap, ◌∙◌}
use mathlib.Core.List.{List, [], ◌∷◌}
use mathlib.Core.Bool.{Bool, true, false, ◌&&◌}
use native.Mathlib.Omega.{arith}
use lib.Dec.{ltb}
use lib.ListN.{length, drop, get_or}
use Rattle.lists.specs.Search.{all_of}
use Rattle.lists.proofs.Find.{drop-first, drop-none, all_miss, all_next, all_end, count_most}
use Rattle.premise.specs.declared.Order.{Order}
use Rattle.premise.specs.Orders.{most_orders, in_review, permit_pending, scheduled, cancel_pending, has_status, blank}
use Rattle.premise.specs.WellKept.{order_kept, distinct}
use Rattle.premise_kept.specs.Test.{packed_counts}
use Rattle.premise_kept.proofs.file.Distinct.{rises_from, rising_distinct, rises_next, rises_end}

-- The tests of the orders left give what the tests of all of them give, and what has been counted, with those left, is what all of them count.
pub record HeldSofar (os : List Order) (waiting last : ℕ) (rising : Bool) (i : ℕ) : Type 0 where
  pub orders : all_of order_kept (drop i os) ≡ all_of order_kept os
  pub rises : (rising && rises_from last (drop i os)) ≡ rises_from 0 os
  pub counted : waiting + packed_counts (drop i os) ≡ packed_counts os

and_join : (a b c : Bool) → ((a && b) && c) ≡ (a && (b && c))
and_join true b c = refl
and_join false b c = refl

module _ {os : List Order} {waiting last : ℕ} {rising : Bool} {i : ℕ} (v : HeldSofar os waiting last rising i) where
  -- ---- a turn of the walk
  module _ (h : i < length os) where
    abbrev o : Order
    o = get_or os i blank

    here : drop i os ≡ o ∷ drop (i + 1) os
    here = drop-first blank os i h

    pub order_not_kept : order_kept o ≡ false → all_of order_kept os ≡ false
    order_not_kept q = sym v.orders ∙ all_miss order_kept here q

    module _ {value : ℕ} (e : value ≡ packed_counts (o ∷ [])) where
      counted_next : waiting + value + packed_counts (drop (i + 1) os) ≡ packed_counts os
      counted_next = omega (arith, v.counted, e, ap packed_counts here)

      pub counted_fits : length os ≤ most_orders → waiting + value < 2 ^ 64
      counted_fits few =
          omega (
            arith,
            counted_next,
            count_most (has_status in_review) os,
            count_most (has_status permit_pending) os,
            count_most (has_status scheduled) os,
            count_most (has_status cancel_pending) os,
          )

      pub order_passes : order_kept o ≡ true → HeldSofar os (waiting + value) o.reference (rising && ltb last o.reference) (i + 1)
      order_passes q =
          record {
            orders = sym (all_next order_kept here q) ∙ v.orders;
            rises = and_join rising (ltb last o.reference) (rises_from o.reference (drop (i + 1) os))
                ∙ ap (λ (b : Bool). rising && b) (sym (rises_next here last)) ∙ v.rises;
            counted = counted_next;
          }

  -- ---- after the last order
  module _ (h : length os ≤ i) where
    none : drop i os ≡ []
    none = drop-none os i h

    pub all_kept : all_of order_kept os ≡ true
    all_kept = sym v.orders ∙ all_end order_kept none

    pub all_counted : waiting ≡ packed_counts os
    all_counted = omega (arith, v.counted, ap packed_counts none)

    -- references that rise are distinct
    pub all_rising : rising ≡ true → distinct os ≡ true
    all_rising q =
        rising_distinct 0 os
        (sym v.rises ∙ ap (λ (b : Bool). b && rises_from last (drop i os)) q ∙ rises_end last none)
