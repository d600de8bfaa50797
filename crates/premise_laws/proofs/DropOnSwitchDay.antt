-- Which case of pass 2 holds, by whether the order is displaced and whether there is a retailer. Assumes nothing.
use Prim.Native.Nat.{ℕ}
use mathlib.Core.Path.{◌≡◌}
use mathlib.Core.List.{List, [], ◌∷◌}
use mathlib.Core.Bool.{Bool, true, false}
use borrow.Author.Tests.{eq-eqb, ne_eqb}
use Rattle.records.specs.Notices.{tdsp}
use Rattle.premise.specs.declared.Order.{Order}
use Rattle.premise.specs.Orders.{no_retailer, as_cancelled}
use Rattle.premise.specs.Passes.{same, cancelling, notice, code_cancel}
use Rattle.premise.specs.Evaluation.{is_displaced, drop_on_switch_day}

module _ (near : ℕ → Bool) (os : List Order) (o : Order) (premise retailer : ℕ) where
  pub drop_stays : is_displaced near os o ≡ false → drop_on_switch_day near premise retailer os o ≡ same o
  unfolding drop_on_switch_day
  drop_stays e = simp e

  pub drop_two : is_displaced near os o ≡ true → (retailer ≡ no_retailer → ⊥)
      → drop_on_switch_day near premise retailer os o ≡ cancelling premise retailer o
  unfolding drop_on_switch_day
  drop_two e r = simp (e, ne_eqb retailer no_retailer r)

  pub drop_one : is_displaced near os o ≡ true → retailer ≡ no_retailer
      → drop_on_switch_day near premise retailer os o
      ≡ record { order = as_cancelled o; notices = notice code_cancel premise tdsp (as_cancelled o) ∷ [] }
  unfolding drop_on_switch_day
  drop_one e r = simp (e, eq-eqb retailer no_retailer r)
