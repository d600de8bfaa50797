-- Which case of pass 1 holds, by whether the order gives way. Assumes nothing.
use Prim.Native.Nat.{ℕ}
use mathlib.Core.Path.{◌≡◌, ap}
use mathlib.Core.List.{List}
use mathlib.Core.Bool.{Bool, true, false, cond}
use Rattle.premise.specs.declared.Order.{Order}
use Rattle.premise.specs.Passes.{same, cancelling}
use Rattle.premise.specs.Evaluation.{gives_way, same_day_switch}

module _ (near : ℕ → Bool) (os : List Order) (i : ℕ) (o : Order) (premise : ℕ) where
  pub same_day_cancels : gives_way near os i o ≡ true → same_day_switch near premise os i o ≡ cancelling premise o.submitter o
  unfolding same_day_switch
  same_day_cancels e = ap (λ (b : Bool). cond b (cancelling premise o.submitter o) (same o)) e

  pub same_day_stays : gives_way near os i o ≡ false → same_day_switch near premise os i o ≡ same o
  unfolding same_day_switch
  same_day_stays e = ap (λ (b : Bool). cond b (cancelling premise o.submitter o) (same o)) e
