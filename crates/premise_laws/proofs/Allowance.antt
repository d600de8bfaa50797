-- At most two notices for each held order: what an order has sent and what it may still send never exceed two, from the clock through the
-- four passes. Assumes nothing.
use Prim.Native.Nat.{ℕ, ◌≤◌, zero-le}
use mathlib.Core.Path.{◌≡◌, refl}
use mathlib.Core.List.{List}
use mathlib.Core.Bool.{Bool, true, cond, not, ◌&&◌, ◌||◌, or-true, and-false}
use native.Mathlib.Nat.{le_refl}
use native.Mathlib.Omega.{arith}
use lib.Dec.{leb}
use borrow.Author.Tests.{eqb-true}
use Rattle.lists.specs.Search.{is_at}
use Rattle.lists.proofs.TestLaws.{by_test, and_left, and_right}
use Rattle.days.specs.Days.{no_day, is_day}
use Rattle.days.specs.Window.{business_days, in_window}
use Rattle.premise.specs.declared.Order.{Order}
use Rattle.premise.specs.Orders.{in_review, permit_pending, scheduled, cancel_pending, cancelled, has_status, is_switch}
use Rattle.premise.specs.Clock.{to_cancel_pending, ticked, reviewed, permit_awaited, cancel_awaited}
use Rattle.premise.specs.Evaluation.{is_scheduled_or_cancel_pending, contends, switch_of_day, gives_way, same_day_switch, is_displaced}
use Rattle.premise.specs.Evaluation.{drop_on_switch_day, is_overtaken, permit_overtaken, is_due, loss_notice}
use Rattle.premise.specs.WellKept.{day_fits, order_kept_by, order_kept}
use Rattle.premise_laws.proofs.Tests.{must, by_either}
use Rattle.premise_laws.proofs.Sends.{Sends, few, sends_none, sends_one, sends_two, sends_either}

-- ---- what an order may still send
-- before the clock
abbrev pub at_mark : Order → ℕ
at_mark o = 2

-- after the clock: one less where it began Cancel Pending without a day, none where it ended it
abbrev pub at_settling : Order → ℕ
at_settling o = cond (has_status cancelled o) 0 (cond (has_status cancel_pending o && not (is_day o.scheduled)) 1 2)

-- after pass 1 and after pass 2
abbrev pub at_dropping : Order → ℕ
at_dropping o = cond (has_status scheduled o || has_status permit_pending o) 2 0

-- after pass 3
abbrev pub at_telling : Order → ℕ
at_telling o = cond (has_status scheduled o) 1 0

-- after pass 4
abbrev pub done : Order → ℕ
done o = 0

pub settling_most : (o : Order) → at_settling o ≤ 2
settling_most o =
    by_test (λ (n : ℕ). n ≤ 2) (has_status cancelled o) _ _
    (λ e. omega arith)
    (λ e. by_test (λ (n : ℕ). n ≤ 2) (has_status cancel_pending o && not (is_day o.scheduled)) _ _ (λ e. omega arith) (λ e. omega arith))

-- Scheduled and Permit Pending orders may send two
two_left : (o : Order) → (has_status scheduled o || has_status permit_pending o) ≡ true → at_settling o ≡ 2
two_left o e = by_either (has_status scheduled o) (has_status permit_pending o) e (λ h. rw (eqb-true o.status scheduled h))
    (λ h. rw (eqb-true o.status permit_pending h))

dropping_settling : (o : Order) → at_dropping o ≤ at_settling o
dropping_settling o =
    by_test (λ (n : ℕ). n ≤ at_settling o) (has_status scheduled o || has_status permit_pending o) _ _ (λ e. omega (arith, two_left o e))
    (λ e. omega arith)

telling_dropping : (o : Order) → at_telling o ≤ at_dropping o
telling_dropping o = by_test (λ (n : ℕ). n ≤ at_dropping o) (has_status scheduled o) _ _ (λ e. rw e (omega arith)) (λ e. omega arith)

-- ---- the clock, whatever its waits are
-- SD none in statuses 1 and 2
no_day_lem : (o : Order) → order_kept o ≡ true → (has_status in_review o || has_status permit_pending o) ≡ true → o.scheduled ≡ no_day
unfolding order_kept_by
no_day_lem o h e = eqb-true o.scheduled no_day (rw e at (must (day_fits o) (order_kept o) (λ n. simp (n, and-false)) h))

pending_few : (premise waited : ℕ) (o : Order) → o.scheduled ≡ no_day → Sends at_settling 2 (to_cancel_pending premise waited o)
pending_few premise waited o e = record { fact = rw e (omega arith) }

reviewed_few : (business : Bool) (today premise : ℕ) (o : Order) → o.scheduled ≡ no_day
    → Sends at_settling 2 (reviewed business today premise o)
unfolding reviewed
reviewed_few business today premise o e = search (sends_either, sends_none, pending_few, settling_most)

permit_few : (business : Bool) (today premise : ℕ) (o : Order) → o.scheduled ≡ no_day
    → Sends at_settling 2 (permit_awaited business today premise o)
unfolding permit_awaited
permit_few business today premise o e = search (sends_either, sends_none, pending_few, settling_most)

cancel_few : (premise : ℕ) (o : Order) → Sends at_settling 2 (cancel_awaited premise o)
unfolding cancel_awaited
cancel_few premise o = search (few, sends_either, sends_none, sends_two, settling_most)

pub ticked_few : (business : Bool) (today premise : ℕ) (o : Order) → order_kept o ≡ true
    → Sends at_settling 2 (ticked business today premise o)
unfolding ticked
ticked_few business today premise o h =
    by_test (Sends at_settling 2) (has_status in_review o) _ _
    (λ e. reviewed_few business today premise o (no_day_lem o h (rw e refl)))
    (λ n. by_test (Sends at_settling 2) (has_status permit_pending o) _ _
    (λ e. permit_few business today premise o (no_day_lem o h (rw (n, e) refl)))
    (λ m. by_test (Sends at_settling 2) (has_status cancel_pending o) _ _ (λ e. cancel_few premise o) (λ e. sends_none (settling_most o))))

-- ---- the four passes, one order each
-- a test on scheduled days that only days pass
abbrev pub OnlyDays : (ℕ → Bool) → Type 0
OnlyDays near = (day : ℕ) → near day ≡ true → is_day day ≡ true

pub window_days : (calendar : List ℕ) (width today : ℕ) → OnlyDays (in_window calendar width today)
unfolding in_window
window_days calendar width today day e = and_left (is_day day) (leb (business_days calendar today day) width) e

way_two : (near : ℕ → Bool) → OnlyDays near → (os : List Order) (i : ℕ) (o : Order) → gives_way near os i o ≡ true → at_settling o ≡ 2
unfolding gives_way contends
way_two near only os i o h =
    let e : contends near o ≡ true = and_left (contends near o) (not (is_at (switch_of_day near os o.scheduled) i)) h in
    let day : is_day o.scheduled ≡ true =
    only o.scheduled (and_right (is_switch o && is_scheduled_or_cancel_pending o) (near o.scheduled) e) in
    by_either (has_status scheduled o) (has_status cancel_pending o)
    (must (is_scheduled_or_cancel_pending o) (contends near o) (λ n. simp (n, and-false)) e)
    (λ h. two_left o (rw h refl))
    (λ h. rw (eqb-true o.status cancel_pending h, day))

displaced_two : (near : ℕ → Bool) (os : List Order) (o : Order) → is_displaced near os o ≡ true → at_dropping o ≡ 2
unfolding is_displaced
displaced_two near os o e =
    let h : has_status scheduled o ≡ true = must (has_status scheduled o) (is_displaced near os o) (λ n. simp (n, and-false)) e in
    rw h

overtaken_two : (today : ℕ) (os : List Order) (o : Order) → is_overtaken today os o ≡ true → at_dropping o ≡ 2
unfolding is_overtaken
overtaken_two today os o e =
    let h : has_status permit_pending o ≡ true = must (has_status permit_pending o) (is_overtaken today os o) (λ n. simp (n, and-false)) e in
    rw (h, or-true)

due_one : (near : ℕ → Bool) (agreement : ℕ) (o : Order) → is_due near agreement o ≡ true → at_telling o ≡ 1
unfolding is_due
due_one near agreement o e =
    let h : has_status scheduled o ≡ true = must (has_status scheduled o) (is_due near agreement o) (λ n. simp n) e in
    rw h

module _ (near : ℕ → Bool) (only : OnlyDays near) (today premise retailer agreement : ℕ) (os : List Order) (i : ℕ)
    (o : Order) where
  pub same_day_few : Sends at_dropping (at_settling o) (same_day_switch near premise os i o)
  unfolding same_day_switch
  same_day_few = search (few, sends_either, sends_two, sends_none, way_two near only, dropping_settling)

  pub drop_few : Sends at_dropping (at_dropping o) (drop_on_switch_day near premise retailer os o)
  unfolding drop_on_switch_day
  drop_few = search (few, sends_either, sends_two, sends_none, displaced_two, le_refl) depth 6

  pub overtaken_few : Sends at_telling (at_dropping o) (permit_overtaken today premise os o)
  unfolding permit_overtaken
  overtaken_few = search (few, sends_either, sends_two, sends_none, overtaken_two, telling_dropping)

  pub loss_few : Sends done (at_telling o) (loss_notice near premise retailer agreement o)
  unfolding loss_notice
  loss_few = search (few, sends_either, sends_one, sends_none, due_one, zero-le)
