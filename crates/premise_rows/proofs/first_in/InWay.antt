-- Laws of an order that may stand in the way of a new one: only a Scheduled one does, and then the table and the rule on standard switches
-- decide. Assumes nothing.
use Prim.Native.Nat.{ℕ}
use mathlib.Core.Path.{◌≡◌}
use mathlib.Core.Bool.{Bool, false, ◌&&◌, ◌||◌}
use lib.Dec.{eqb, leb}
use borrow.Author.Tests.{eq-eqb, ne_eqb}
use Rattle.records.specs.Records.{standard_switch}
use Rattle.premise.specs.declared.Order.{Order}
use Rattle.premise.specs.Orders.{scheduled, has_kind}
use Rattle.premise.specs.FirstIn.{refuses, stands_in_way}

module _ (o : Order) (new requested : ℕ) where
  pub not_scheduled : (o.status ≡ scheduled → ⊥) → false ≡ stands_in_way new requested o
  unfolding stands_in_way
  not_scheduled h = rw (ne_eqb o.status scheduled h)

  pub stands_scheduled : o.status ≡ scheduled → (refused : Bool) → refused ≡ refuses o.kind new
      → (eqb o.scheduled requested && refused || eqb new standard_switch && has_kind standard_switch o && leb requested o.scheduled)
      ≡ stands_in_way new requested o
  unfolding stands_in_way
  stands_scheduled e refused q = rw (eq-eqb o.status scheduled e, q)
