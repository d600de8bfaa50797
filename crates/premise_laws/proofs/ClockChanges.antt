-- Which case of `clock_changes` holds, by the tests that led there; an order of which it says no is left by the clock. Assumes nothing.
use Prim.Native.Nat.{ℕ}
use mathlib.Core.Path.{◌≡◌, refl, sym, ap, ◌∙◌}
use mathlib.Core.Bool.{Bool, true, false, cond, ◌&&◌, ◌||◌, false≢true}
use lib.Dec.{eqb, leb}
use borrow.Author.Tests.{eq-eqb, ne_eqb}
use Rattle.lists.proofs.TestLaws.{or_left, or_right}
use Rattle.premise.specs.declared.Order.{Order}
use Rattle.premise.specs.Orders.{in_review, permit_pending, cancel_pending, has_status}
use Rattle.premise.specs.Passes.{same}
use Rattle.premise.specs.Clock.{most_waited, grown, review_ends, reviewed, permit_awaited, cancel_awaited, ticked}
use Rattle.premise_laws.proofs.WaitGoesOn.{review_goes_on, permit_goes_on}
use Rattle.premise_laws.specs.Changes.{clock_changes}

module _ (business : Bool) (today : ℕ) (o : Order) where
  pub clock_review : o.status ≡ in_review → (business || review_ends o.waited.0 o.requested today) ≡ clock_changes business today o
  unfolding clock_changes
  clock_review review = simp (eq-eqb o.status in_review review)

  module _ (review : o.status ≡ in_review → ⊥) where
    pub clock_permit : o.status ≡ permit_pending
        → (eqb o.waited.0 most_waited || business && leb o.requested today) ≡ clock_changes business today o
    unfolding clock_changes
    clock_permit permit = simp (ne_eqb o.status in_review review, eq-eqb o.status permit_pending permit)

    pub clock_cancel : (o.status ≡ permit_pending → ⊥) → has_status cancel_pending o ≡ clock_changes business today o
    unfolding clock_changes
    clock_cancel permit = simp (ne_eqb o.status in_review review, ne_eqb o.status permit_pending permit)

  module _ (premise : ℕ) where
    review_still : (business || review_ends o.waited.0 o.requested today) ≡ false → reviewed business today premise o ≡ same o
    review_still e =
        let ends = review_ends o.waited.0 o.requested today in
        review_goes_on business today premise o o.waited.0 (sym (ap (λ (b : Bool). grown b o) (or_left business ends e)))
        (or_right business ends e)

    permit_still : (eqb o.waited.0 most_waited || business && leb o.requested today) ≡ false
        → permit_awaited business today premise o ≡ same o
    permit_still e =
        let all = eqb o.waited.0 most_waited in
        let counts = business && leb o.requested today in
        permit_goes_on business today premise o o.waited.0 (sym (ap (λ (b : Bool). grown b o) (or_right all counts e)))
        (λ w. false≢true (sym (or_left all counts e) ∙ eq-eqb o.waited.0 most_waited w))

    -- the clock leaves an order that it does not change
    pub tick_still : clock_changes business today o ≡ false → ticked business today premise o ≡ same o
    unfolding clock_changes ticked
    tick_still = go (has_status in_review o) (has_status permit_pending o) (has_status cancel_pending o)
      where
        go : (r p c : Bool)
            → cond r (business || review_ends o.waited.0 o.requested today)
            (cond p (eqb o.waited.0 most_waited || business && leb o.requested today) c) ≡ false
            → cond r (reviewed business today premise o)
            (cond p (permit_awaited business today premise o) (cond c (cancel_awaited premise o) (same o))) ≡ same o
        go true p c e = review_still e
        go false true c e = permit_still e
        go false false true e = absurd (false≢true (sym e))
        go false false false e = refl
