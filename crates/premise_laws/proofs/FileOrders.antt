-- Laws of a file's orders: one replaced, one read, and the place of one found. Assumes nothing.
use Prim.Native.Nat.{ℕ, ◌-◌, ◌<◌}
use mathlib.Core.Path.{◌≡◌, sym, ap, ap₂, ◌∙◌}
use mathlib.Core.List.{List, ◌++◌}
use mathlib.Core.Bool.{Bool}
use native.Mathlib.Omega.{arith}
use lib.ListN.{length, get_or, set, replicate, length-set}
use lib.Seq.{get_or-take, set-append_left}
use Rattle.std.specs.Prelude.{Some}
use Rattle.lists.specs.Search.{place_of}
use Rattle.lists.proofs.Find.{place_below}
use Rattle.premise.specs.declared.Order.{Order}
use Rattle.premise.specs.declared.File.{File}
use Rattle.premise.specs.Orders.{most_orders, blank, held, places, with_orders, with_supply}
use Rattle.premise.specs.WellKept.{Tidy}
use Rattle.premise.proofs.KeptFiles.{tidy_with, length-held}
use Rattle.premise.proofs.Places.{with_places}

-- an order replaced in its place
places-set : (os : List Order) (i : ℕ) (o : Order) → i < length os → set (places os) i o ≡ places (set os i o)
unfolding places
places-set os i o h =
    set-append_left os (replicate (most_orders - length os) blank) i o h
    ∙ ap (λ (m : ℕ). set os i o ++ replicate (most_orders - m) blank) (sym (length-set os i o))

module _ (f : File) (tidy : Tidy f) where
  pub tidy_supply : (retailer since entered : ℕ) → Tidy (with_supply f retailer since entered)
  tidy_supply retailer since entered = record { few = tidy.few; whole = tidy.whole }

  -- what an order stored over another leaves
  pub set-held : (i : ℕ) (o : Order) → i < f.count → with_places f f.count (set f.orders i o) ≡ with_orders f (set (held f) i o)
  set-held i o h =
      ap₂ (with_places f) (sym (length-held f tidy) ∙ sym (length-set (held f) i o))
      (ap (λ (l : List Order). set l i o) tidy.whole ∙ places-set (held f) i o (omega (arith, length-held f tidy)))

  pub tidy_set : (i : ℕ) (o : Order) → Tidy (with_orders f (set (held f) i o))
  tidy_set i o = tidy_with f (set (held f) i o) (omega (arith, length-set (held f) i o, length-held f tidy, tidy.few))

  -- the place found is that of an order held
  pub place_held : (i : ℕ) (p : Order → Bool) → place_of p (held f) ≡ Some i → i < f.count
  place_held i p e = omega (arith, place_below p 0 (held f) i e, length-held f tidy)

-- the order at a place
pub at_held : (f : File) (i : ℕ) → i < f.count → get_or f.orders i blank ≡ get_or (held f) i blank
at_held f i h = sym (get_or-take f.count f.orders i blank h)
