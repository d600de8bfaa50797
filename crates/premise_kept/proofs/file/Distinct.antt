-- Laws of distinct references: those that rise are distinct; for others, a search that holds each against the later ones. Assumes nothing.
use Prim.Native.Nat.{ℕ, ◌≤◌}
use mathlib.Core.Path.{◌≡◌, refl}
use mathlib.Core.List.{List, [], ◌∷◌}
use mathlib.Core.Bool.{Bool, true, false, ◌&&◌}
use native.Mathlib.Omega.{arith}
use lib.Dec.{eqb, ltb}
use borrow.Author.Tests.{ltb-true, ne_eqb}
use Rattle.lists.specs.Search.{any_of}
use Rattle.lists.proofs.TestLaws.{and_left, and_right}
use Rattle.premise.specs.declared.Order.{Order}
use Rattle.premise.specs.WellKept.{distinct}

-- whether an order has a reference
abbrev pub has : ℕ → Order → Bool
has reference o = eqb o.reference reference

-- references rise, and the first is above a number
abbrev pub rises_from : ℕ → List Order → Bool
rises_from n [] = true
rises_from n (o ∷ os) = ltb n o.reference && rises_from o.reference os

-- none of them is the number or one below it
none_below : (n m : ℕ) (os : List Order) → m ≤ n → rises_from n os ≡ true → any_of (has m) os ≡ false
none_below n m [] h r = refl
none_below n m (o ∷ os) h r =
    let above = ltb-true n o.reference (and_left (ltb n o.reference) (rises_from o.reference os) r) in
    let rest = and_right (ltb n o.reference) (rises_from o.reference os) r in
    rw (ne_eqb o.reference m (omega (arith, h, above)), none_below o.reference m os (omega (arith, h, above)) rest)

pub rising_distinct : (n : ℕ) (os : List Order) → rises_from n os ≡ true → distinct os ≡ true
rising_distinct n [] r = refl
rising_distinct n (o ∷ os) r =
    let rest = and_right (ltb n o.reference) (rises_from o.reference os) r in
    rw (none_below o.reference o.reference os (omega arith) rest, rising_distinct o.reference os rest)

module _ {o : Order} {left rest : List Order} (e : left ≡ o ∷ rest) where
  pub rises_next : (n : ℕ) → rises_from n left ≡ (ltb n o.reference && rises_from o.reference rest)
  rises_next n = rw e

  pub distinct_next : any_of (has o.reference) rest ≡ false → distinct left ≡ distinct rest
  distinct_next q = rw (e, q)

pub rises_end : (n : ℕ) {left : List Order} → left ≡ [] → rises_from n left ≡ true
rises_end n e = rw e
