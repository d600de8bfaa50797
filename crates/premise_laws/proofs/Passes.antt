-- A pass by any step over a list of orders: the list put together of two, and its length. Assumes nothing.
use Prim.Native.Nat.{ℕ, suc, ◌+◌}
use mathlib.Core.Path.{◌≡◌, refl, sym, ap, ◌∙◌}
use mathlib.Core.List.{List, [], ◌∷◌, ◌++◌, append_assoc}
use native.Mathlib.Omega.{arith}
use lib.ListN.{length}
use Rattle.records.specs.declared.Notice.{Notice}
use Rattle.premise.specs.declared.Order.{Order}
use Rattle.premise.specs.Passes.{Change, pass_from}

module _ (step : ℕ → Order → Change) where
  -- a pass over a list that is put together
  pub pass_orders : (j : ℕ) (xs ys : List Order)
      → (pass_from step j (xs ++ ys)).orders ≡ (pass_from step j xs).orders ++ (pass_from step (j + length xs) ys).orders
  pass_orders j [] ys = ap (λ (n : ℕ). (pass_from step n ys).orders) (omega arith)
  pass_orders j (x ∷ xs) ys =
      ap (λ (l : List Order). (step j x).order ∷ l)
      (pass_orders (suc j) xs ys ∙ ap (λ (n : ℕ). (pass_from step (suc j) xs).orders ++ (pass_from step n ys).orders) (omega arith))

  pub pass_notices : (j : ℕ) (xs ys : List Order)
      → (pass_from step j (xs ++ ys)).notices ≡ (pass_from step j xs).notices ++ (pass_from step (j + length xs) ys).notices
  pass_notices j [] ys = ap (λ (n : ℕ). (pass_from step n ys).notices) (omega arith)
  pass_notices j (x ∷ xs) ys =
      ap (λ (l : List Notice). (step j x).notices ++ l)
      (pass_notices (suc j) xs ys ∙ ap (λ (n : ℕ). (pass_from step (suc j) xs).notices ++ (pass_from step n ys).notices) (omega arith))
      ∙ sym (append_assoc (step j x).notices (pass_from step (suc j) xs).notices (pass_from step (j + length (x ∷ xs)) ys).notices)

  -- a pass keeps the number of orders
  pub length-pass : (j : ℕ) (xs : List Order) → length (pass_from step j xs).orders ≡ length xs
  length-pass j [] = refl
  length-pass j (x ∷ xs) = ap suc (length-pass (suc j) xs)
