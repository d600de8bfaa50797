-- An order that waits, day by day: what the clock of the next day makes of it. Assumes nothing.
use Prim.Native.Nat.{ℕ, ◌+◌, ◌-◌, ◌≤◌, ◌<◌}
use mathlib.Core.Path.{◌≡◌, refl, sym, ap, ◌∙◌}
use mathlib.Core.List.{List}
use mathlib.Core.Bool.{Bool, true, false, cond, ◌||◌}
use native.Mathlib.Omega.{arith}
use lib.Dec.{leb, ltb}
use borrow.Author.Tests.{eqb-true, le-leb, lt-leb, lt-ltb, le-ltb, ltb-true, ltb-false}
use Rattle.days.specs.Days.{last_day, no_day, is_business_day}
use Rattle.premise.specs.declared.Order.{Order}
use Rattle.premise.specs.Orders.{in_review, permit_pending, cancel_pending, has_status, is_closed, with_status, with_waited, with_pending}
use Rattle.premise.specs.Orders.{as_cancelled}
use Rattle.premise.specs.Passes.{same, cancelling}
use Rattle.premise.specs.Clock.{most_pending, grown, review_ends, to_cancel_pending, reviewed, permit_awaited, cancel_awaited, ticked}
use Rattle.premise_laws.specs.Endings.{Waits}
use Rattle.premise_laws.proofs.KeptOrders.{OrderKept, in_status_lem}
use Rattle.premise_laws.proofs.KeptChanges.{waited_most}
use Rattle.order_ends.specs.TurningDay.{counted_to, turns_on}
use Rattle.order_ends.specs.Waiting.{turning_of, counted_on, pending_for, cancelled_of}
use Rattle.order_ends.proofs.TurningDay.{counted_next, counted_here, Turning, turning_tests}

-- ---- one tick
module _ (business : Bool) (today premise : ℕ) (o : Order) where
  -- In Review, with N as it has grown: by whether the review ends
  in_review_lem : (waited : ℕ) (ends : Bool) → has_status in_review o ≡ true → grown business o ≡ waited
      → review_ends waited o.requested today ≡ ends
      → (ticked business today premise o).order
      ≡ cond ends (with_pending 0 (with_status cancel_pending (with_waited waited o))) (with_waited waited o)
  unfolding ticked reviewed
  in_review_lem waited ends e g r =
      ap (λ (b : Bool). (cond b (reviewed business today premise o)
      (cond (has_status permit_pending o) (permit_awaited business today premise o)
      (cond (has_status cancel_pending o) (cancel_awaited premise o) (same o)))).order) e
      ∙ ap (λ (n : ℕ). (cond (review_ends n o.requested today) (to_cancel_pending premise n o) (same (with_waited n o))).order) g
      ∙ ap (λ (b : Bool). (cond b (to_cancel_pending premise waited o) (same (with_waited waited o))).order) r ∙ by ends
    where
      by : (b : Bool) → (cond b (to_cancel_pending premise waited o) (same (with_waited waited o))).order
          ≡ cond b (with_pending 0 (with_status cancel_pending (with_waited waited o))) (with_waited waited o)
      by true = refl
      by false = refl

  -- Cancel Pending: by whether W is 7 then
  pending : (ends : Bool) → leb most_pending (o.pending.0 + 1) ≡ ends
      → (ticked business today premise (with_status cancel_pending o)).order
      ≡ cond ends (as_cancelled o) (with_pending (o.pending.0 + 1) (with_status cancel_pending o))
  unfolding ticked cancel_awaited
  pending ends e = ap (λ (b : Bool). (cond b (cancelling premise o.submitter (with_status cancel_pending o))
      (same (with_pending (o.pending.0 + 1) (with_status cancel_pending o)))).order) e ∙ by ends
    where
      by : (b : Bool) → (cond b (cancelling premise o.submitter (with_status cancel_pending o))
          (same (with_pending (o.pending.0 + 1) (with_status cancel_pending o)))).order
          ≡ cond b (as_cancelled o) (with_pending (o.pending.0 + 1) (with_status cancel_pending o))
      by true = refl
      by false = refl

-- ---- from a day on
-- the order on a day
abbrev pub on_day : List ℕ → ℕ → Order → ℕ → Order
on_day calendar today o day =
    cond (ltb day (turning_of calendar today o)) (counted_on calendar today o day)
    (cond (ltb day (turning_of calendar today o + 7)) (pending_for calendar today o (day - turning_of calendar today o))
    (cancelled_of calendar today o))

module _ (calendar : List ℕ) (today : ℕ) (o : Order) where
  abbrev turning : ℕ
  turning = turning_of calendar today o

  pub on_before : (day : ℕ) → day < turning → on_day calendar today o day ≡ counted_on calendar today o day
  on_before day h = rw (lt-ltb day turning h) refl

  pub on_pending : (day : ℕ) → turning ≤ day → day < turning + 7 → on_day calendar today o day ≡ pending_for calendar today o (day - turning)
  on_pending day h k = rw (le-ltb day turning h, lt-ltb day (turning + 7) k) refl

  pub on_ended : (day : ℕ) → turning + 7 ≤ day → on_day calendar today o day ≡ cancelled_of calendar today o
  on_ended day h = rw (le-ltb day turning (omega arith), le-ltb day (turning + 7) h) refl

  module _ (review : has_status in_review o ≡ true) (kept : OrderKept o) where
    -- SD none, and N at most 21
    pub no_day_lem : o.scheduled ≡ no_day
    no_day_lem = eqb-true o.scheduled no_day (in_status_lem in_review o review kept).scheduled

    pub on_first : today ≤ last_day → on_day calendar today o today ≡ o
    on_first h =
        on_before today ((turning_tests calendar today o.waited.0 o.requested).after h)
        ∙ ap (λ (n : ℕ). with_waited n o) (counted_here calendar today o.waited.0 (waited_most o kept))

    -- until the seventh day after the turning day it waits
    pub on_waits : (day : ℕ) → day < turning + 7 → Waits (on_day calendar today o day)
    on_waits day h = go (ltb day turning) refl
      where
        go : (b : Bool) → ltb day turning ≡ b → Waits (on_day calendar today o day)
        go true q = rw (on_before day (ltb-true day turning q))
            (record { unscheduled = no_day_lem; status = ap (λ (b : Bool). b || has_status cancel_pending o) review })
        go false q = rw (on_pending day (ltb-false day turning q) h) (record { unscheduled = no_day_lem; status = refl })

    -- and then it is closed
    pub on_closed : (day : ℕ) → turning + 7 ≤ day → is_closed (on_day calendar today o day) ≡ true
    on_closed day h = rw (on_ended day h) refl

    -- the clock of the next day
    module _ (day : ℕ) (after : today ≤ day) (last : day + 1 ≤ last_day) (before : day < turning + 7) (premise : ℕ) where
      abbrev tick : Order → Order
      tick x = (ticked (is_business_day calendar (day + 1)) (day + 1) premise x).order

      tests : Turning calendar today o.waited.0 o.requested
      tests = turning_tests calendar today o.waited.0 o.requested

      counted_tick : (ends : Bool) → turns_on calendar today o.waited.0 o.requested (day + 1) ≡ ends
          → tick (counted_on calendar today o day)
          ≡ cond ends (with_pending 0 (with_status cancel_pending (counted_on calendar today o (day + 1))))
          (counted_on calendar today o (day + 1))
      counted_tick ends e =
          in_review_lem (is_business_day calendar (day + 1)) (day + 1) premise (counted_on calendar today o day)
          (counted_to calendar today o.waited.0 (day + 1)) ends review (counted_next calendar today o.waited.0 day after) e

      pending_tick : turning ≤ day → (ends : Bool) → leb most_pending (day - turning + 1) ≡ ends
          → tick (on_day calendar today o day) ≡ cond ends (cancelled_of calendar today o) (pending_for calendar today o (day - turning + 1))
      pending_tick h ends e =
          ap tick (on_pending day h before)
          ∙ pending (is_business_day calendar (day + 1)) (day + 1) premise (with_pending (day - turning) (counted_on calendar today o turning))
          ends e

      next_counted : day + 1 < turning → tick (on_day calendar today o day) ≡ on_day calendar today o (day + 1)
      next_counted h =
          ap tick (on_before day (omega arith)) ∙ counted_tick false (tests.before (day + 1) (omega arith) last h)
          ∙ sym (on_before (day + 1) h)

      next_turns : day + 1 ≡ turning → tick (on_day calendar today o day) ≡ on_day calendar today o (day + 1)
      next_turns h =
          let days : 0 ≡ day + 1 - turning = omega arith in
          ap tick (on_before day (omega arith))
          ∙ counted_tick true (ap (turns_on calendar today o.waited.0 o.requested) h ∙ tests.here (omega arith))
          ∙ ap (λ (d : ℕ). with_pending 0 (with_status cancel_pending (counted_on calendar today o d))) h
          ∙ ap (pending_for calendar today o) days ∙ sym (on_pending (day + 1) (omega arith) (omega arith))

      next_pending : turning ≤ day → day + 1 < turning + 7 → tick (on_day calendar today o day) ≡ on_day calendar today o (day + 1)
      next_pending h k =
          let days : day - turning + 1 ≡ day + 1 - turning = omega arith in
          pending_tick h false (lt-leb most_pending (day - turning + 1) (omega arith))
          ∙ ap (pending_for calendar today o) days ∙ sym (on_pending (day + 1) (omega arith) k)

      next_ends : day + 1 ≡ turning + 7 → tick (on_day calendar today o day) ≡ on_day calendar today o (day + 1)
      next_ends h =
          pending_tick (omega arith) true (le-leb most_pending (day - turning + 1) (omega arith)) ∙ sym (on_ended (day + 1) (omega arith))

      pub on_next : (ticked (is_business_day calendar (day + 1)) (day + 1) premise (on_day calendar today o day)).order
          ≡ on_day calendar today o (day + 1)
      on_next = go (ltb (day + 1) turning) (ltb day turning) (ltb (day + 1) (turning + 7)) refl refl refl
        where
          go : (a b c : Bool) → ltb (day + 1) turning ≡ a → ltb day turning ≡ b → ltb (day + 1) (turning + 7) ≡ c
              → tick (on_day calendar today o day) ≡ on_day calendar today o (day + 1)
          go true b c p q r = next_counted (ltb-true (day + 1) turning p)
          go false true c p q r = next_turns (omega (arith, ltb-false (day + 1) turning p, ltb-true day turning q))
          go false false true p q r = next_pending (ltb-false day turning q) (ltb-true (day + 1) (turning + 7) r)
          go false false false p q r = next_ends (omega (arith, before, ltb-false (day + 1) (turning + 7) r))
