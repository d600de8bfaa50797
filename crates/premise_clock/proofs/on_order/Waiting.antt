-- The clock's definitions on an order that waits, by N as it has grown and whether the wait ends. Assumes nothing.
use Prim.Native.Nat.{ℕ}
use mathlib.Core.Path.{◌≡◌, sym, ap, ◌∙◌}
use mathlib.Core.Bool.{Bool, ◌&&◌}
use lib.Dec.{eqb, leb}
use Rattle.premise.specs.declared.Order.{Order}
use Rattle.premise.specs.Clock.{most_waited, grown, reviewed, permit_awaited}
use Rattle.premise.specs.Clock.{review_ends}
use Rattle.premise_clock.specs.WaitEnds.{waited_on}

module _ (premise : ℕ) (o : Order) (waited : ℕ) (ends : Bool) (business : Bool) (today : ℕ) where
  pub review_waits : waited ≡ grown business o → ends ≡ review_ends waited o.requested today
      → reviewed business today premise o ≡ waited_on ends premise waited o
  unfolding reviewed
  review_waits w e =
      ap (λ (n : ℕ). waited_on (review_ends n o.requested today) premise n o) (sym w)
      ∙ ap (λ (b : Bool). waited_on b premise waited o) (sym e)

  pub permit_waits : waited ≡ grown (business && leb o.requested today) o → ends ≡ eqb waited most_waited
      → permit_awaited business today premise o ≡ waited_on ends premise waited o
  unfolding permit_awaited
  permit_waits w e =
      ap (λ (n : ℕ). waited_on (eqb n most_waited) premise n o) (sym w)
      ∙ ap (λ (b : Bool). waited_on b premise waited o) (sym e)
