-- What moving the orders after a place one place down, and a new one in the last, make of a full file. Assumes nothing.
use Prim.Native.Nat.{ℕ, ◌+◌, ◌-◌, ◌<◌}
use mathlib.Core.Path.{◌≡◌, sym, ap, ap₂, ◌∙◌}
use mathlib.Core.List.{List, [], ◌∷◌, ◌++◌}
use native.Mathlib.Omega.{arith}
use lib.ListN.{length, drop, set, length-append}
use lib.Seq.{paste}
use Rattle.lists.specs.Shift.{removed}
use Rattle.lists.proofs.Shift.{removed-length, replaced}
use Rattle.premise.specs.declared.Order.{Order}
use Rattle.premise.specs.declared.File.{File}
use Rattle.premise.specs.Orders.{most_orders, blank, held, with_orders}
use Rattle.premise.specs.WellKept.{Tidy}
use Rattle.premise.proofs.KeptFiles.{length-held, length-orders}
use Rattle.premise.proofs.Places.{with_places}
use Rattle.premise_file.proofs.stack.Places.{held_full, places_full}

-- the places that are to be left
abbrev pub shifted : File → ℕ → Order → List Order
shifted f at o = removed at (held f) ++ (o ∷ [])

module _ (f : File) (tidy : Tidy f) (full : f.count ≡ most_orders) (at : ℕ) (inside : at < most_orders) (o : Order) where
  eight : length (held f) ≡ most_orders
  eight = length-held f tidy ∙ full

  shifted_length : length (shifted f at o) ≡ most_orders
  shifted_length = rw length-append
      (omega (arith, removed-length blank at (held f) [] [] (omega (arith, eight)) (omega (arith, eight)), eight))

  pub shifted_down : (l : List Order) → l ≡ paste f.orders at (drop (at + 1) f.orders) (length f.orders - (at + 1))
      → with_places f f.count (set l 7 o) ≡ with_orders f (shifted f at o)
  shifted_down l e =
      let moved : set l 7 o ≡ shifted f at o =
      ap (λ (k : List Order). set k 7 o) e
      ∙ replaced at f.orders 7 o (length-orders f tidy) (omega arith)
      ∙ ap (λ (k : List Order). removed at k ++ (o ∷ [])) (sym (held_full f tidy full)) in
      ap₂ (with_places f) (full ∙ sym shifted_length) (moved ∙ sym (places_full (shifted f at o) shifted_length))
