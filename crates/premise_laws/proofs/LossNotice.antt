-- Which case of pass 4 holds, by whether the order is due, whether it is a move out, and who the retailer is. Assumes nothing.
use Prim.Native.Nat.{ℕ}
use mathlib.Core.Path.{◌≡◌}
use mathlib.Core.List.{[], ◌∷◌}
use mathlib.Core.Bool.{Bool, true, false, ◌||◌}
use lib.Dec.{eqb}
use Rattle.premise.specs.declared.Order.{Order}
use Rattle.records.specs.Records.{move_out}
use Rattle.premise.specs.Orders.{has_kind, no_retailer, with_told}
use Rattle.premise.specs.Passes.{same, notice, code_losing, code_agreement_move_in}
use Rattle.premise.specs.Evaluation.{is_due, loss_notice}

module _ (near : ℕ → Bool) (o : Order) (premise retailer agreement : ℕ) where
  pub loss_stays : is_due near agreement o ≡ false → loss_notice near premise retailer agreement o ≡ same o
  unfolding loss_notice
  loss_stays e = simp e

  pub loss_unsaid : is_due near agreement o ≡ true → has_kind move_out o ≡ false →
      (eqb retailer no_retailer || eqb retailer o.submitter) ≡ true
      → loss_notice near premise retailer agreement o ≡ same (with_told 1 o)
  unfolding loss_notice
  loss_unsaid e m r = simp (e, m, r)

  pub loss_said : is_due near agreement o ≡ true → has_kind move_out o ≡ false →
      (eqb retailer no_retailer || eqb retailer o.submitter) ≡ false
      → loss_notice near premise retailer agreement o
      ≡ record { order = with_told 1 o; notices = notice code_losing premise retailer (with_told 1 o) ∷ [] }
  unfolding loss_notice
  loss_said e m r = simp (e, m, r)

  -- a move out is told to the retailer of the owner's agreement
  pub loss_of_move_out : is_due near agreement o ≡ true → has_kind move_out o ≡ true
      → loss_notice near premise retailer agreement o
      ≡ record { order = with_told 1 o; notices = notice code_agreement_move_in premise agreement (with_told 1 o) ∷ [] }
  unfolding loss_notice
  loss_of_move_out e m = simp (e, m)
