-- The clock changes every order of which `clock_changes` says so: by its status, or by a count that has grown. Assumes nothing.
use Prim.Native.Nat.{ℕ, ◌+◌}
use mathlib.Core.Path.{◌≡◌, refl, sym, ap, ◌∙◌}
use mathlib.Core.Bool.{Bool, true, false, cond, ◌&&◌, ◌||◌, false≢true}
use native.Mathlib.Omega.{arith}
use lib.Dec.{eqb, leb}
use borrow.Author.Tests.{eqb-true, eqb-false, leb-false}
use Rattle.lists.proofs.TestLaws.{by_test, or_left}
use Rattle.premise.specs.declared.Order.{Order}
use Rattle.premise.specs.Orders.{in_review, permit_pending, cancel_pending, has_status, with_waited, with_pending}
use Rattle.premise.specs.Passes.{Change, same, cancelling}
use Rattle.premise.specs.Clock.{long_review, short_review, most_waited, most_pending, grown, to_cancel_pending, review_ends, reviewed}
use Rattle.premise.specs.Clock.{permit_awaited, cancel_awaited, ticked}
use Rattle.premise_laws.specs.Changes.{clock_changes, ClockChangesThese}

module _ (business : Bool) (today premise : ℕ) (o : Order) where
  abbrev Changes : Change → Type 0
  Changes x = x.order ≡ o → ⊥

  -- another status, another count of business days
  turned : (waited : ℕ) → (o.status ≡ cancel_pending → ⊥) → Changes (to_cancel_pending premise waited o)
  turned waited n e = n (sym (ap (λ (t : Order). t.status) e))

  counted : (n : ℕ) → (n ≡ o.waited.0 → ⊥) → Changes (same (with_waited n o))
  counted n d e = d (ap (λ (t : Order). t.waited.0) e)

  review_changes : o.status ≡ in_review → (business || review_ends o.waited.0 o.requested today) ≡ true
      → Changes (reviewed business today premise o)
  unfolding reviewed
  review_changes review h =
      by_test Changes (review_ends (grown business o) o.requested today) (to_cancel_pending premise (grown business o) o)
      (same (with_waited (grown business o) o))
      (λ t. turned (grown business o) (λ c. omega (arith, review, c)))
      (λ t. counted (grown business o) (go business h t))
    where
      go : (b : Bool) → (b || review_ends o.waited.0 o.requested today) ≡ true → review_ends (grown b o) o.requested today ≡ false
          → grown b o ≡ o.waited.0 → ⊥
      go true h t e =
          let w = grown true o in
          omega (arith, e, leb-false long_review w (or_left (leb long_review w) (leb short_review w && leb o.requested today) t))
      go false h t e = false≢true (sym t ∙ h)

  permit_changes : o.status ≡ permit_pending → (eqb o.waited.0 most_waited || business && leb o.requested today) ≡ true
      → Changes (permit_awaited business today premise o)
  unfolding permit_awaited
  permit_changes permit h =
      let counts = business && leb o.requested today in
      by_test Changes (eqb (grown counts o) most_waited) (to_cancel_pending premise (grown counts o) o) (same (with_waited (grown counts o) o))
      (λ t. turned (grown counts o) (λ c. omega (arith, permit, c)))
      (λ t. counted (grown counts o) (go counts h t))
    where
      go : (b : Bool) → (eqb o.waited.0 most_waited || b) ≡ true → eqb (grown b o) most_waited ≡ false → grown b o ≡ o.waited.0 → ⊥
      go true h t e = omega (arith, e, eqb-false (grown true o) most_waited t)
      go false h t e = false≢true (rw t at h)

  cancel_changes : o.status ≡ cancel_pending → Changes (cancel_awaited premise o)
  unfolding cancel_awaited
  cancel_changes cancel =
      by_test Changes (leb most_pending (o.pending.0 + 1)) (cancelling premise o.submitter o) (same (with_pending (o.pending.0 + 1) o))
      (λ t e. omega (arith, cancel, ap (λ (x : Order). x.status) e))
      (λ t e. omega (arith, ap (λ (x : Order). x.pending.0) e))

pub clock_changes_these : ClockChangesThese
unfolding clock_changes ticked
clock_changes_these business today premise o =
    go (has_status in_review o) (has_status permit_pending o) (has_status cancel_pending o) refl refl refl
  where
    go : (r p c : Bool) → has_status in_review o ≡ r → has_status permit_pending o ≡ p → has_status cancel_pending o ≡ c
        → cond r (business || review_ends o.waited.0 o.requested today)
        (cond p (eqb o.waited.0 most_waited || business && leb o.requested today) c) ≡ true
        → Changes business today premise o
        (cond r (reviewed business today premise o)
        (cond p (permit_awaited business today premise o) (cond c (cancel_awaited premise o) (same o))))
    go true p c review permit cancel h = review_changes business today premise o (eqb-true o.status in_review review) h
    go false true c review permit cancel h = permit_changes business today premise o (eqb-true o.status permit_pending permit) h
    go false false true review permit cancel h = cancel_changes business today premise o (eqb-true o.status cancel_pending cancel)
    go false false false review permit cancel h = absurd (false≢true h)
