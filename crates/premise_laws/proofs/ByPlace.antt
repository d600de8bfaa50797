-- A search over a file's orders by a test that goes by their places: what one turn of a loop finds, what it leaves, and the end. Assumes
-- nothing.
use Prim.Native.Nat.{ℕ, ◌+◌, ◌<◌, ◌≤◌}
use mathlib.Core.Path.{◌≡◌, refl, sym, ◌∙◌}
use mathlib.Core.Bool.{Bool, true, false}
use native.Mathlib.Numerals.{add-one}
use lib.ListN.{drop, get_or}
use Rattle.premise.specs.declared.Order.{Order}
use Rattle.premise.specs.declared.File.{File}
use Rattle.premise.specs.Orders.{blank, held}
use Rattle.premise.specs.WellKept.{Tidy}
use Rattle.premise.proofs.Places.{first_held, none_held}
use Rattle.premise_laws.specs.Changes.{any_at}

-- the search from the place reached on gives what the whole search gives
module _ (p : ℕ → Order → Bool) (f : File) (tidy : Tidy f) (i : ℕ) (reached : any_at p i (drop i (held f)) ≡ any_at p 0 (held f)) where
  module _ (h : i < f.count) where
    pub at_hit : p i (get_or f.orders i blank) ≡ true → true ≡ any_at p 0 (held f)
    at_hit q =
        let found : any_at p i (drop i (held f)) ≡ true = rw (first_held f tidy i h, q) in
        sym found ∙ reached

    pub at_next : p i (get_or f.orders i blank) ≡ false → any_at p (i + 1) (drop (i + 1) (held f)) ≡ any_at p 0 (held f)
    at_next q =
        let left : any_at p i (drop i (held f)) ≡ any_at p (i + 1) (drop (i + 1) (held f)) = rw (first_held f tidy i h, q, add-one i) refl in
        sym left ∙ reached

  pub at_end : f.count ≤ i → false ≡ any_at p 0 (held f)
  at_end h =
      let ended : any_at p i (drop i (held f)) ≡ false = rw (none_held f tidy i h) in
      sym ended ∙ reached
