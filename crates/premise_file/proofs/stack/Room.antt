-- Laws of the order that goes where eight are held. Assumes nothing.
use Prim.Native.Nat.{ℕ, ◌<◌, ◌≤◌}
use mathlib.Core.Path.{◌≡◌, ap, ◌∙◌}
use mathlib.Core.Bool.{Bool, cond}
use native.Mathlib.Omega.{arith}
use lib.ListN.{length}
use borrow.Author.Tests.{eq-eqb, ne_eqb}
use Rattle.std.specs.Prelude.{Some}
use Rattle.lists.specs.Search.{place_of, without_first}
use Rattle.lists.specs.Shift.{removed}
use Rattle.lists.proofs.Find.{without_removed}
use Rattle.premise.specs.declared.File.{File}
use Rattle.premise.specs.Orders.{most_orders, is_closed, held}
use Rattle.premise.specs.Steps.{make_room}
use Rattle.premise.specs.WellKept.{Tidy}
use Rattle.premise.proofs.KeptFiles.{length-held}

module _ (f : File) (tidy : Tidy f) where
  pub room_free : f.count < most_orders → make_room (held f) ≡ held f
  unfolding make_room
  room_free h = rw (ne_eqb (length (held f)) most_orders (λ e. omega (arith, e, length-held f tidy)))

  pub room_full : most_orders ≤ f.count → (i : ℕ) → place_of is_closed (held f) ≡ Some i → make_room (held f) ≡ removed i (held f)
  unfolding make_room
  room_full h i e =
      let n : length (held f) ≡ most_orders = omega (arith, length-held f tidy, tidy.few) in
      ap (λ (b : Bool). cond b (without_first is_closed (held f)) (held f)) (eq-eqb (length (held f)) most_orders n)
      ∙ without_removed is_closed (held f) i e
