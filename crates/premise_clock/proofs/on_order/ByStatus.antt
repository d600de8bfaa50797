-- Which case of the clock's definitions holds, by the tests that led there. Assumes nothing.
use Prim.Native.Nat.{ℕ, ◌+◌}
use mathlib.Core.Path.{◌≡◌, refl}
use mathlib.Core.Bool.{Bool, true, false}
use lib.Dec.{leb}
use borrow.Author.Tests.{eq-eqb, ne_eqb}
use Rattle.premise.specs.declared.Order.{Order}
use Rattle.premise.specs.Orders.{in_review, permit_pending, cancel_pending, with_pending}
use Rattle.premise.specs.Passes.{same, cancelling}
use Rattle.premise.specs.Clock.{most_pending, reviewed, permit_awaited, cancel_awaited, ticked}

module _ (business : Bool) (today premise : ℕ) (o : Order) where
  pub tick_review : o.status ≡ in_review → ticked business today premise o ≡ reviewed business today premise o
  unfolding ticked
  tick_review e = simp (eq-eqb o.status in_review e)

  pub tick_permit : (o.status ≡ in_review → ⊥) → o.status ≡ permit_pending
      → ticked business today premise o ≡ permit_awaited business today premise o
  unfolding ticked
  tick_permit d e = simp (ne_eqb o.status in_review d, eq-eqb o.status permit_pending e)

  pub tick_cancel : (o.status ≡ in_review → ⊥) → (o.status ≡ permit_pending → ⊥) → o.status ≡ cancel_pending
      → ticked business today premise o ≡ cancel_awaited premise o
  unfolding ticked
  tick_cancel d h e = simp (ne_eqb o.status in_review d, ne_eqb o.status permit_pending h, eq-eqb o.status cancel_pending e)

  pub tick_same : (o.status ≡ in_review → ⊥) → (o.status ≡ permit_pending → ⊥) → (o.status ≡ cancel_pending → ⊥)
      → ticked business today premise o ≡ same o
  unfolding ticked
  tick_same d h e = simp (ne_eqb o.status in_review d, ne_eqb o.status permit_pending h, ne_eqb o.status cancel_pending e)

module _ (premise : ℕ) (o : Order) where
  pub cancel_ends : leb most_pending (o.pending.0 + 1) ≡ true → cancel_awaited premise o ≡ cancelling premise o.submitter o
  unfolding cancel_awaited
  cancel_ends h = rw h refl

  pub cancel_goes_on : leb most_pending (o.pending.0 + 1) ≡ false → (more : ℕ) → more ≡ o.pending.0 + 1
      → cancel_awaited premise o ≡ same (with_pending more o)
  unfolding cancel_awaited
  cancel_goes_on h more e = rw (h, e) refl
