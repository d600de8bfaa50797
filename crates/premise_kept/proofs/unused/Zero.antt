-- Laws of unused places. A place of a file: it is unused exactly if its wide fields and the sum of its narrow ones are zero. A place of the
-- book: a field besides its orders that is not zero fails the test, and else the places decide. Assumes nothing.
use Prim.Native.Nat.{ℕ, ◌+◌}
use mathlib.Core.Path.{◌≡◌, refl, sym, ◌∙◌}
use mathlib.Core.List.{[], ◌∷◌}
use mathlib.Core.Bool.{Bool, true, false, ◌&&◌}
use native.Mathlib.Omega.{arith}
use lib.Dec.{eqb}
use lib.ListN.{length}
use borrow.Author.Tests.{eqb-true, eq-eqb}
use Rattle.lists.specs.Search.{all_of}
use Rattle.lists.proofs.TestLaws.{pass_each}
use Rattle.premise.specs.declared.Order.{Order}
use Rattle.premise.specs.declared.File.{File}
use Rattle.premise.specs.Orders.{most_orders}
use Rattle.premise.specs.WellKept.{is_blank, file_blank}
use Rattle.premise.proofs.Blank.{blank_is}

-- ---- a place of a file
module _ (o : Order) {narrow : ℕ}
    (sum : narrow ≡ o.reference + o.requested + o.scheduled + o.kind + o.status + o.waited.0 + o.pending.0 + o.told) where
  abbrev wide_and_sum : Bool
  wide_and_sum = eqb o.submitter 0 && eqb o.counter 0 && eqb narrow 0

  sum-blank : wide_and_sum ≡ true → is_blank o ≡ true
  unfolding is_blank
  sum-blank e =
      let t = pass_each (eqb o.submitter 0) (eqb o.counter 0 ∷ eqb narrow 0 ∷ []) e in
      let none = eqb-true narrow 0 t.1.1.0 in
      rw (
        eq-eqb o.reference 0 (omega (arith, sum, none)),
        eq-eqb o.kind 0 (omega (arith, sum, none)),
        t.0,
        eq-eqb o.requested 0 (omega (arith, sum, none)),
        eq-eqb o.scheduled 0 (omega (arith, sum, none)),
        eq-eqb o.status 0 (omega (arith, sum, none)),
        eq-eqb o.waited.0 0 (omega (arith, sum, none)),
        eq-eqb o.pending.0 0 (omega (arith, sum, none)),
        eq-eqb o.told 0 (omega (arith, sum, none)),
        t.1.0,
      )

  blank-sum : is_blank o ≡ true → wide_and_sum ≡ true
  blank-sum e = rw (sum, blank_is o e)

  pub blank_by_sum : wide_and_sum ≡ is_blank o
  blank_by_sum = go wide_and_sum refl (is_blank o) refl
    where
      go : (a : Bool) → wide_and_sum ≡ a → (b : Bool) → is_blank o ≡ b → a ≡ b
      go true p b q = sym (sum-blank p) ∙ q
      go false p true q = sym p ∙ blank-sum q
      go false p false q = refl

-- ---- a place of the book
module _ (f : File) where
  -- the fields besides the orders
  abbrev head_blank : Bool
  head_blank = eqb f.premise 0 && eqb f.retailer 0 && eqb f.since 0 && eqb f.window 0
      && eqb f.agreement 0 && eqb f.entered 0 && eqb f.count 0

  pub head_used : head_blank ≡ false → head_blank ≡ file_blank f
  unfolding file_blank
  head_used e = rw e

  pub places_decide : head_blank ≡ true → length f.orders ≡ most_orders → all_of is_blank f.orders ≡ file_blank f
  unfolding file_blank
  places_decide e eight = rw (e, eq-eqb (length f.orders) most_orders eight)
