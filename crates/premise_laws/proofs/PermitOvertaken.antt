-- Which case of pass 3 holds, by whether the order is overtaken. Assumes nothing.
use Prim.Native.Nat.{ℕ}
use mathlib.Core.Path.{◌≡◌}
use mathlib.Core.List.{List}
use mathlib.Core.Bool.{true, false}
use Rattle.premise.specs.declared.Order.{Order}
use Rattle.premise.specs.Passes.{same, cancelling}
use Rattle.premise.specs.Evaluation.{is_overtaken, permit_overtaken}

module _ (today : ℕ) (os : List Order) (o : Order) (premise : ℕ) where
  pub permit_stays : is_overtaken today os o ≡ false → permit_overtaken today premise os o ≡ same o
  unfolding permit_overtaken
  permit_stays e = simp e

  pub permit_cancels : is_overtaken today os o ≡ true → permit_overtaken today premise os o ≡ cancelling premise o.submitter o
  unfolding permit_overtaken
  permit_cancels e = simp e
