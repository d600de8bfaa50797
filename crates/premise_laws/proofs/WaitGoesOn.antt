-- A wait that goes on leaves the order with N as it has grown. Assumes nothing.
use Prim.Native.Nat.{ℕ}
use mathlib.Core.Path.{◌≡◌, sym, ap, ◌∙◌}
use mathlib.Core.Bool.{Bool, false, cond, ◌&&◌}
use lib.Dec.{eqb, leb}
use borrow.Author.Tests.{ne_eqb}
use Rattle.premise.specs.declared.Order.{Order}
use Rattle.premise.specs.Orders.{with_waited}
use Rattle.premise.specs.Passes.{same}
use Rattle.premise.specs.Clock.{most_waited, grown, to_cancel_pending, reviewed, permit_awaited}
use Rattle.premise.specs.Clock.{review_ends}

module _ (business : Bool) (today premise : ℕ) (o : Order) (waited : ℕ) where
  pub review_goes_on : waited ≡ grown business o → review_ends waited o.requested today ≡ false
      → reviewed business today premise o ≡ same (with_waited waited o)
  unfolding reviewed
  review_goes_on w e =
      ap (λ (n : ℕ). cond (review_ends n o.requested today) (to_cancel_pending premise n o) (same (with_waited n o))) (sym w)
      ∙ ap (λ (b : Bool). cond b (to_cancel_pending premise waited o) (same (with_waited waited o))) e

  pub permit_goes_on : waited ≡ grown (business && leb o.requested today) o → (waited ≡ most_waited → ⊥)
      → permit_awaited business today premise o ≡ same (with_waited waited o)
  unfolding permit_awaited
  permit_goes_on w e =
      ap (λ (n : ℕ). cond (eqb n most_waited) (to_cancel_pending premise n o) (same (with_waited n o))) (sym w)
      ∙ ap (λ (b : Bool). cond b (to_cancel_pending premise waited o) (same (with_waited waited o))) (ne_eqb waited most_waited e)
