-- Each change of one order by the clock or the evaluation leaves it kept, and closed where it was. Every change leaves the reference, K, Q
-- and RD; so what is shown is that the other fields fit the status that it sets. Assumes nothing.
use Prim.Native.Nat.{ℕ, ◌+◌, ◌≤◌}
use mathlib.Core.Path.{◌≡◌, refl}
use mathlib.Core.List.{List}
use mathlib.Core.Bool.{Bool, true, false, ◌&&◌, ◌||◌, false≢true}
use native.Mathlib.Omega.{arith}
use lib.Dec.{eqb, leb}
use borrow.Author.Tests.{leb-true, le-leb}
use Rattle.lists.proofs.TestLaws.{by_test}
use Rattle.premise.specs.declared.Order.{Order}
use Rattle.premise.specs.Orders.{in_review, permit_pending, cancel_pending, cancelled, unexecutable, has_status, business_days}
use Rattle.premise.specs.Orders.{is_open, calendar_days, with_waited, as_cancelled}
use Rattle.premise.specs.Passes.{Change}
use Rattle.premise.specs.Clock.{most_waited, long_review, short_review, most_pending, grown, reviewed, permit_awaited, cancel_awaited, ticked}
use Rattle.premise.specs.Evaluation.{gives_way, same_day_switch, is_displaced, drop_on_switch_day, is_overtaken, permit_overtaken, is_due, loss_notice}
use Rattle.premise.specs.WellKept.{day_fits, permit_fits, pending_fits}
use Rattle.premise.proofs.Taken.{status_open}
use Rattle.premise_laws.proofs.KeptOrders.{OrderKept, day_or_none}

-- an order afterwards: kept, with the reference and the retailer that it had; if it is open, it was open before
pub record Leaves (before after : Order) : Type 0 where
  pub reference : after.reference ≡ before.reference
  pub submitter : after.submitter ≡ before.submitter
  pub was_open : is_open after ≡ true → is_open before ≡ true
  pub kept : OrderKept after

abbrev pub LeavesBy : Order → Change → Type 0
LeavesBy o c = Leaves o c.order

-- an order with its status and what goes by it set anew
abbrev pub anew : Order → ℕ → ℕ → ℕ → ℕ → ℕ → Order
anew o status day waited pending loss_notice =
    record {
      reference = o.reference;
      kind = o.kind;
      submitter = o.submitter;
      requested = o.requested;
      scheduled = day;
      status = status;
      waited = business_days waited;
      pending = calendar_days pending;
      told = loss_notice;
      counter = o.counter;
    }

pub leaves : (o : Order) (status day waited pending loss_notice : ℕ) → OrderKept o
    → (is_open (anew o status day waited pending loss_notice) ≡ true → is_open o ≡ true)
    → (leb in_review status && leb status unexecutable) ≡ true → day_fits (anew o status day waited pending loss_notice) ≡ true
    → permit_fits (anew o status day waited pending loss_notice) ≡ true → leb waited most_waited ≡ true
    → pending_fits (anew o status day waited pending loss_notice) ≡ true → leb loss_notice 1 ≡ true
    → Leaves o (anew o status day waited pending loss_notice)
leaves o status day waited pending loss_notice k was s d p w c t =
    record {
      reference = refl;
      submitter = refl;
      was_open = was;
      kept = record {
        reference = k.reference;
        kind = k.kind;
        submitter = k.submitter;
        requested = k.requested;
        status = s;
        scheduled = d;
        permit = p;
        waited = w;
        pending = c;
        told = t;
        counter = k.counter;
      };
    }

-- ---- changes that several rules share
module _ (o : Order) (k : OrderKept o) where
  -- as it was
  leaves_same : Leaves o o
  leaves_same = record { reference = refl; submitter = refl; was_open = λ e. e; kept = k }

  -- with N grown, at most 21
  leaves_waited : (waited : ℕ) → waited ≤ most_waited → Leaves o (with_waited waited o)
  leaves_waited waited h =
      leaves o o.status o.scheduled waited o.pending.0 o.told k (λ e. e) k.status k.scheduled k.permit
      (le-leb waited most_waited h) k.pending k.told

  -- Cancelled, W 0
  pub leaves_cancelled : Leaves o (as_cancelled o)
  leaves_cancelled = leaves o cancelled o.scheduled o.waited.0 0 o.told k (λ e. absurd (false≢true e)) refl (day_or_none o k) refl
      k.waited refl k.told

  -- Cancel Pending, W 0, with N grown; it was open
  pub leaves_cancelling : is_open o ≡ true → (waited : ℕ) → waited ≤ most_waited
      → Leaves o (anew o cancel_pending o.scheduled waited 0 o.told)
  leaves_cancelling was waited h =
      leaves o cancel_pending o.scheduled waited 0 o.told k (λ e. was) refl (day_or_none o k) refl (le-leb waited most_waited h) refl
      k.told

  pub waited_most : o.waited.0 ≤ most_waited
  waited_most = leb-true o.waited.0 most_waited k.waited

  grown_most : (counts : Bool) → grown counts o ≤ most_waited
  grown_most true = omega arith
  grown_most false = waited_most

-- ---- the clock
module _ (business : Bool) (today premise : ℕ) (o : Order) (k : OrderKept o) where
  leaves_reviewed : has_status in_review o ≡ true → Leaves o (reviewed business today premise o).order
  unfolding reviewed
  leaves_reviewed e =
      let waited : ℕ = grown business o in
      let h = grown_most o k business in
      by_test (LeavesBy o) (leb long_review waited || leb short_review waited && leb o.requested today) _ _
      (λ q. leaves_cancelling o k (status_open in_review o refl e) waited h) (λ q. leaves_waited o k waited h)

  leaves_permit_awaited : has_status permit_pending o ≡ true → Leaves o (permit_awaited business today premise o).order
  unfolding permit_awaited
  leaves_permit_awaited e =
      let waited : ℕ = grown (business && leb o.requested today) o in
      let h = grown_most o k (business && leb o.requested today) in
      by_test (LeavesBy o) (eqb waited most_waited) _ _
      (λ q. leaves_cancelling o k (status_open permit_pending o refl e) waited h) (λ q. leaves_waited o k waited h)

  leaves_cancel_awaited : has_status cancel_pending o ≡ true → Leaves o (cancel_awaited premise o).order
  unfolding cancel_awaited
  leaves_cancel_awaited e =
      by_test (LeavesBy o) (leb most_pending (o.pending.0 + 1)) _ _
      (λ q. leaves_cancelled o k)
      (λ q. leaves o o.status o.scheduled o.waited.0 (o.pending.0 + 1) o.told k (λ e. e) k.status k.scheduled
      k.permit k.waited (rw (e, q)) k.told)

  pub leaves_ticked : Leaves o (ticked business today premise o).order
  unfolding ticked
  leaves_ticked =
      by_test (LeavesBy o) (has_status in_review o) _ _ leaves_reviewed
      (λ q. by_test (LeavesBy o) (has_status permit_pending o) _ _ leaves_permit_awaited
      (λ q. by_test (LeavesBy o) (has_status cancel_pending o) _ _ leaves_cancel_awaited
      (λ q. leaves_same o k)))

-- ---- the four passes
module _ (near : ℕ → Bool) (today premise retailer agreement : ℕ) (os : List Order) (o : Order) (k : OrderKept o) where
  pub leaves_same_day : (i : ℕ) → Leaves o (same_day_switch near premise os i o).order
  unfolding same_day_switch
  leaves_same_day i = by_test (LeavesBy o) (gives_way near os i o) _ _ (λ q. leaves_cancelled o k) (λ q. leaves_same o k)

  pub leaves_drop : Leaves o (drop_on_switch_day near premise retailer os o).order
  unfolding drop_on_switch_day
  leaves_drop = by_test (LeavesBy o) (is_displaced near os o) _ _ (λ q. leaves_cancelled o k) (λ q. leaves_same o k)

  pub leaves_overtaken : Leaves o (permit_overtaken today premise os o).order
  unfolding permit_overtaken
  leaves_overtaken = by_test (LeavesBy o) (is_overtaken today os o) _ _ (λ q. leaves_cancelled o k) (λ q. leaves_same o k)

  pub leaves_loss : Leaves o (loss_notice near premise retailer agreement o).order
  unfolding loss_notice
  leaves_loss =
      by_test (LeavesBy o) (is_due near agreement o) _ _
      (λ q. leaves o o.status o.scheduled o.waited.0 o.pending.0 1 k (λ e. e) k.status k.scheduled k.permit
      k.waited k.pending refl)
      (λ q. leaves_same o k)
