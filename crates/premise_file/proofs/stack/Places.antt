-- Laws of the places of a file: one order more, and no place unused. Assumes nothing.
use Prim.Native.Nat.{ℕ, suc, ◌+◌, ◌-◌, ◌<◌}
use mathlib.Core.Path.{◌≡◌, sym, ap₂, ◌∙◌}
use mathlib.Core.List.{List, [], ◌∷◌, ◌++◌, append-nil}
use native.Mathlib.Omega.{arith}
use lib.ListN.{length, set, replicate, length-append}
use lib.Seq.{set-append_seam, append_snoc, take_all}
use Rattle.premise.specs.declared.Order.{Order}
use Rattle.premise.specs.declared.File.{File}
use Rattle.premise.specs.Orders.{most_orders, blank, held, places, with_orders}
use Rattle.premise.specs.WellKept.{Tidy}
use Rattle.premise.proofs.KeptFiles.{length-held, length-orders}
use Rattle.premise.proofs.Places.{with_places}

-- one order more takes the first unused place
places_more : (os : List Order) (o : Order) → length os < most_orders → set (places os) (length os) o ≡ places (os ++ (o ∷ []))
unfolding places
places_more os o h =
    let k : length (os ++ (o ∷ [])) ≡ length os + 1 = length-append os (o ∷ []) in
    let e : most_orders - length os ≡ suc (most_orders - length (os ++ (o ∷ []))) = omega arith in
    rw e (set-append_seam os blank (replicate (most_orders - length (os ++ (o ∷ []))) blank) o
    ∙ sym (append_snoc os o (replicate (most_orders - length (os ++ (o ∷ []))) blank)))

-- eight orders fill the places
pub places_full : (os : List Order) → length os ≡ most_orders → places os ≡ os
unfolding places
places_full os h = rw h (append-nil os)

module _ (f : File) (tidy : Tidy f) where
  -- what an order stored in the first unused place leaves
  pub pushed : (o : Order) → f.count < most_orders
      → with_places f (f.count + 1) (set f.orders f.count o) ≡ with_orders f (held f ++ (o ∷ []))
  pushed o h =
      let n = length-held f tidy in
      let a = length-append (held f) (o ∷ []) in
      ap₂ (with_places f) (omega arith)
      (ap₂ (λ (l : List Order) (i : ℕ). set l i o) tidy.whole (sym n) ∙ places_more (held f) o (omega arith))

  -- a full file's orders are its places
  pub held_full : f.count ≡ most_orders → held f ≡ f.orders
  held_full e = take_all f.count f.orders (omega (arith, length-orders f tidy, e))
