-- An order that no pass takes, a closed one or one that waits, is found as it was after the evaluation of its file; at a day mark, as the
-- clock leaves it. Assumes nothing.
use Prim.Native.Nat.{ℕ, ◌+◌}
use mathlib.Core.Path.{◌≡◌, refl, sym, ap, ap₂, ◌∙◌}
use mathlib.Core.List.{List, []}
use Rattle.std.specs.Prelude.{Some}
use mathlib.Core.Bool.{Bool, true, false, cond, ◌&&◌, ◌||◌, false≢true, and-false}
use lib.Dec.{eqb, leb}
use borrow.Author.Tests.{ne_eqb, eqb-true, not-true}
use Rattle.lists.specs.Search.{Each}
use Rattle.lists.proofs.TestLaws.{by_test, or_either}
use Rattle.days.specs.Days.{no_day, is_business_day}
use Rattle.days.specs.Window.{in_window}
use Rattle.premise.specs.declared.Order.{Order}
use Rattle.premise.specs.declared.File.{File}
use Rattle.premise.specs.Orders.{in_review, permit_pending, scheduled, cancel_pending, has_status, is_open, is_closed, with_waited}
use Rattle.premise.specs.Orders.{with_pending, as_cancelled, held, with_orders}
use Rattle.premise.specs.Passes.{Change, same, pass}
use Rattle.premise.specs.Clock.{most_pending, grown, review_ends, to_cancel_pending, reviewed, cancel_awaited, ticked, clock}
use Rattle.premise.specs.Evaluation.{is_scheduled_or_cancel_pending, gives_way, same_day_switch, same_day_switches, is_displaced, drop_on_switch_day}
use Rattle.premise.specs.Evaluation.{drops_on_switch_days, is_overtaken, permit_overtaken, permits_overtaken, is_due, loss_notice, evaluation}
use Rattle.premise.specs.Evaluation.{evaluated}
use Rattle.premise.specs.OnePremise.{marked, marked_with}
use Rattle.premise.proofs.KeptFiles.{held_with}
use Rattle.premise_laws.specs.Laws.{KeptFor}
use Rattle.premise_laws.specs.Endings.{order_in, Waits}
use Rattle.premise_laws.proofs.KeptOrders.{OrderKept, orders_facts}
use Rattle.premise_laws.proofs.KeptChanges.{Leaves, leaves_ticked, leaves_same_day, leaves_drop, leaves_overtaken, leaves_loss}
use Rattle.premise_laws.proofs.KeptPasses.{pass_leaves, header_of, file_after, clock_leaves}
use Rattle.premise_laws.proofs.OtherPasses.{not_overtaken, far_gives_no_way, far_displaced, far_due}
use Rattle.premise_laws.proofs.OrdersFound.{found_pass}

-- ---- which orders rest
-- not Permit Pending, and not Scheduled or Cancel Pending with a day in window
pub record Rests (near : ℕ → Bool) (o : Order) : Type 0 where
  pub no_permit : has_status permit_pending o ≡ false
  pub far : (is_scheduled_or_cancel_pending o && near o.scheduled) ≡ false

-- a closed order has no open status
not_status : (status : ℕ) (o : Order) → (leb in_review status && leb status cancel_pending) ≡ true → is_closed o ≡ true
    → has_status status o ≡ false
not_status status o s c = ne_eqb o.status status
    (λ q. false≢true (sym (not-true (is_open o) c) ∙ ap (λ (n : ℕ). leb in_review n && leb n cancel_pending) q ∙ s))

pub closed_rests : (near : ℕ → Bool) (o : Order) → is_closed o ≡ true → Rests near o
closed_rests near o c =
    record {
      no_permit = not_status permit_pending o refl c;
      far = ap₂ (λ (a b : Bool). (a || b) && near o.scheduled) (not_status scheduled o refl c) (not_status cancel_pending o refl c);
    }

-- a status is one alone
pub other_status : (one other : ℕ) (o : Order) → eqb one other ≡ false → has_status one o ≡ true → has_status other o ≡ false
other_status one other o n e = ap (λ (s : ℕ). eqb s other) (eqb-true o.status one e) ∙ n

module _ (near : ℕ → Bool) (missing : near no_day ≡ false) where
  pub waits_rests : (o : Order) → Waits o → Rests near o
  waits_rests o q =
      record {
        no_permit = or_either (has_status in_review o) (has_status cancel_pending o) q.status
            (other_status in_review permit_pending o refl) (other_status cancel_pending permit_pending o refl);
        far = ap (λ (day : ℕ). is_scheduled_or_cancel_pending o && near day) q.unscheduled
            ∙ ap (λ (b : Bool). is_scheduled_or_cancel_pending o && b) missing ∙ and-false (is_scheduled_or_cancel_pending o);
      }

  -- ---- what the clock makes of one that waits: it waits on, or it is closed
  module _ (business : Bool) (today premise : ℕ) (o : Order) (q : Waits o) where
    abbrev RestsBy : Change → Type 0
    RestsBy c = Rests near c.order

    reviewed_rests : has_status in_review o ≡ true → RestsBy (reviewed business today premise o)
    unfolding reviewed
    reviewed_rests e =
        by_test RestsBy (review_ends (grown business o) o.requested today) _ _
        (λ t. waits_rests (to_cancel_pending premise (grown business o) o).order (record { unscheduled = q.unscheduled; status = refl }))
        (λ t. waits_rests (with_waited (grown business o) o) (record { unscheduled = q.unscheduled; status = q.status }))

    cancel_rests : has_status cancel_pending o ≡ true → RestsBy (cancel_awaited premise o)
    unfolding cancel_awaited
    cancel_rests e =
        by_test RestsBy (leb most_pending (o.pending.0 + 1)) _ _
        (λ t. closed_rests near (as_cancelled o) refl)
        (λ t. waits_rests (with_pending (o.pending.0 + 1) o) (record { unscheduled = q.unscheduled; status = q.status }))

    pub ticked_rests : RestsBy (ticked business today premise o)
    unfolding ticked
    ticked_rests =
        by_test RestsBy (has_status in_review o) _ _ reviewed_rests
        (λ t. by_test RestsBy (has_status permit_pending o) _ _ (λ u. absurd (false≢true (sym (waits_rests o q).no_permit ∙ u)))
        (λ u. by_test RestsBy (has_status cancel_pending o) _ _ cancel_rests
        (λ v. waits_rests o q)))

-- the clock leaves a closed order
pub closed_unticked : (business : Bool) (today premise : ℕ) (o : Order) → is_closed o ≡ true → (ticked business today premise o).order ≡ o
unfolding ticked
closed_unticked business today premise o c =
    rw (not_status in_review o refl c, not_status permit_pending o refl c, not_status cancel_pending o refl c) refl

-- ---- the four passes
-- found among kept orders
record Found (reference : ℕ) (o : Order) (os : List Order) : Type 0 where
  kept : Each OrderKept os
  found : order_in reference os ≡ Some o

found_after : (reference : ℕ) (o next : Order) (step : ℕ → Order → Change)
    → ((i : ℕ) (x : Order) → OrderKept x → Leaves x (step i x).order) → ((i : ℕ) → (step i o).order ≡ next)
    → (os : List Order) → Found reference o os → Found reference next (pass step os).orders
found_after reference o next step s h os e =
    record { kept = (pass_leaves step s 0 os e.kept).kept; found = found_pass reference step s o next h 0 os e.kept e.found }

module _ (near : ℕ → Bool) (today : ℕ) (f : File) (reference : ℕ) (o : Order) (rests : Rests near o) where
  unmoved : (b : Bool) (c : Change) → b ≡ false → (cond b c (same o)).order ≡ o
  unmoved b c e = ap (λ (x : Bool). (cond x c (same o)).order) e

  rests_same_day : (os : List Order) (i : ℕ) → (same_day_switch near f.premise os i o).order ≡ o
  unfolding same_day_switch
  rests_same_day os i = unmoved (gives_way near os i o) _ (far_gives_no_way near os o rests.far i)

  rests_drop : (os : List Order) → (drop_on_switch_day near f.premise f.retailer os o).order ≡ o
  unfolding drop_on_switch_day
  rests_drop os = unmoved (is_displaced near os o) _ (far_displaced near os o rests.far)

  rests_permit : (os : List Order) → (permit_overtaken today f.premise os o).order ≡ o
  unfolding permit_overtaken
  rests_permit os = unmoved (is_overtaken today os o) _ (not_overtaken today os o rests.no_permit)

  rests_loss : (loss_notice near f.premise f.retailer f.agreement o).order ≡ o
  unfolding loss_notice
  rests_loss = unmoved (is_due near f.agreement o) _ (far_due near [] o rests.far f.agreement)

  rests_evaluation : (os : List Order) → Found reference o os → order_in reference (evaluation near today f os).orders ≡ Some o
  unfolding evaluation
  rests_evaluation os e =
      let premise : ℕ = f.premise in
      let retailer : ℕ = f.retailer in
      let agreement : ℕ = f.agreement in
      let one = (same_day_switches near premise os).orders in
      let two = (drops_on_switch_days near f one).orders in
      let three = (permits_overtaken today premise two).orders in
      let a = found_after reference o o (same_day_switch near premise os)
      (λ i x k. leaves_same_day near today premise retailer agreement os x k i) (rests_same_day os) os e in
      let b = found_after reference o o (λ (i : ℕ). drop_on_switch_day near premise retailer one)
      (λ i x k. leaves_drop near today premise retailer agreement one x k) (λ i. rests_drop one) one a in
      let c = found_after reference o o (λ (i : ℕ). permit_overtaken today premise two)
      (λ i x k. leaves_overtaken near today premise retailer agreement two x k) (λ i. rests_permit two) two b in
      (found_after reference o o (λ (i : ℕ). loss_notice near premise retailer agreement)
      (λ i x k. leaves_loss near today premise retailer agreement three x k) (λ i. rests_loss) three c).found

-- ---- a file
abbrev pub window : List ℕ → ℕ → File → ℕ → Bool
window calendar today f = in_window calendar f.window today

-- no day is not in window
pub no_day_far : (calendar : List ℕ) (today : ℕ) (f : File) → window calendar today f no_day ≡ false
unfolding in_window
no_day_far calendar today f = refl

module _ (calendar : List ℕ) (today premise reference : ℕ) where
  -- one that rests, after the evaluation
  pub evaluated_found : (f : File) (o : Order) → KeptFor premise f → Rests (window calendar today f) o
      → order_in reference (held f) ≡ Some o → order_in reference (held (evaluated calendar today f).file) ≡ Some o
  evaluated_found f o k rests e =
      let near : ℕ → Bool = window calendar today f in
      ap (order_in reference) (held_with f (evaluation near today f (held f)).orders)
      ∙ rests_evaluation near today f reference o rests (held f) (record { kept = orders_facts (held f) k.kept.orders; found = e })

  -- one that the clock makes rest, after a day mark
  pub marked_found : (f : File) (o : Order) → KeptFor premise f
      → ((near : ℕ → Bool) → near no_day ≡ false → Rests near (ticked (is_business_day calendar today) today premise o).order)
      → order_in reference (held f) ≡ Some o
      → order_in reference (held (marked calendar today f).file) ≡ Some (ticked (is_business_day calendar today) today premise o).order
  unfolding marked_with
  marked_found f o k rests e =
      let business : Bool = is_business_day calendar today in
      let next : Order = (ticked business today premise o).order in
      let after = (clock calendar today f.premise (held f)).orders in
      let done = found_after reference o next (λ (i : ℕ). ticked business today f.premise)
      (λ i x h. leaves_ticked business today f.premise x h)
      (λ i. ap (λ (p : ℕ). (ticked business today p o).order) k.number) (held f)
      (record { kept = orders_facts (held f) k.kept.orders; found = e }) in
      let left = file_after premise f f after k (header_of premise f k)
      (clock_leaves calendar today f.premise (held f) (orders_facts (held f) k.kept.orders)) in
      let g : File = with_orders f after in
      evaluated_found g next left.kept (rests (window calendar today g) (no_day_far calendar today g))
      (ap (order_in reference) (held_with f after) ∙ done.found)
