-- Which pass does not change an order, by its kind and its status. Assumes nothing.
use Prim.Native.Nat.{ℕ}
use mathlib.Core.Path.{◌≡◌, refl, ap}
use mathlib.Core.List.{List}
use mathlib.Core.Bool.{Bool, true, false, not, ◌&&◌, ◌||◌}
use lib.Dec.{eqb}
use Rattle.lists.specs.Search.{any_of, is_at}
use Rattle.records.specs.Records.{move_in, move_out, mass_transition_drop}
use Rattle.premise.specs.declared.Order.{Order}
use Rattle.premise.specs.Orders.{permit_pending, scheduled, cancel_pending, has_status, has_kind, is_switch, no_retailer}
use Rattle.premise.specs.Evaluation.{is_scheduled_or_cancel_pending, contends, switch_of_day, gives_way, switch_on, is_displaced, overtakes}
use Rattle.premise.specs.Evaluation.{is_overtaken, is_due}

pub not_overtaken : (today : ℕ) (os : List Order) (o : Order) → has_status permit_pending o ≡ false → is_overtaken today os o ≡ false
unfolding is_overtaken
not_overtaken today os o = second_fails (has_kind move_in o) (has_status permit_pending o) (any_of (overtakes today o.requested) os)
  where
    second_fails : (a b c : Bool) → b ≡ false → (a && b && c) ≡ false
    second_fails true b c h = ap (λ (x : Bool). x && c) h
    second_fails false b c h = refl

-- neither Scheduled nor Cancel Pending, or not in window: no pass but the third
module _ (near : ℕ → Bool) (os : List Order) (o : Order) (far : (is_scheduled_or_cancel_pending o && near o.scheduled) ≡ false) where
  second_third : (k s n x : Bool) → (s && n) ≡ false → (k && s && n && x) ≡ false
  second_third true s n x h = ap (λ (b : Bool). b && x) h
  second_third false s n x h = refl

  pub far_gives_no_way : (i : ℕ) → gives_way near os i o ≡ false
  unfolding gives_way contends
  far_gives_no_way i =
      second_third (is_switch o) (is_scheduled_or_cancel_pending o) (near o.scheduled) (not (is_at (switch_of_day near os o.scheduled) i)) far

  pub far_displaced : is_displaced near os o ≡ false
  unfolding is_displaced
  far_displaced =
      go (has_kind mass_transition_drop o) (has_status scheduled o) (has_status cancel_pending o) (near o.scheduled)
      (any_of (switch_on o.scheduled) os) far
    where
      go : (k s c n x : Bool) → ((s || c) && n) ≡ false → (k && s && n && x) ≡ false
      go k true c n x h = second_third k true n x h
      go true false c n x h = refl
      go false false c n x h = refl

  pub far_due : (agreement : ℕ) → is_due near agreement o ≡ false
  unfolding is_due
  far_due agreement =
      go (has_status scheduled o) (has_status cancel_pending o) (not (has_kind move_out o) || not (eqb agreement no_retailer)) (eqb o.told 0)
      (near o.scheduled) far
    where
      go : (s c m t n : Bool) → ((s || c) && n) ≡ false → (s && m && t && n) ≡ false
      go true c true true n h = h
      go true c true false n h = refl
      go true c false t n h = refl
      go false c m t n h = refl
