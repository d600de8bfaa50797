-- The first bytes of a list, as many as there are at most. Assumes nothing.
use Prim.Native.Nat.{ℕ, min}
use mathlib.Core.Path.{◌≡◌, refl, sym, ap, ◌∙◌}
use mathlib.Core.List.{List}
use mathlib.Core.Bool.{Bool, true, false}
use native.Mathlib.Omega.{arith}
use lib.Dec.{leb}
use lib.ListN.{length, take}
use lib.Seq.{take_all}
use borrow.Author.Tests.{leb-true, leb-false}

pub first_most : (most n : ℕ) (l : List ℕ) → n ≡ min (length l) most → take n l ≡ take most l
first_most most n l e = go (leb most (length l)) refl
  where
    go : (a : Bool) → leb most (length l) ≡ a → take n l ≡ take most l
    go true t =
        let all : n ≡ most = omega (arith, e, leb-true most (length l) t) in
        ap (λ (m : ℕ). take m l) all
    go false t =
        let h = leb-false most (length l) t in
        take_all n l (omega (arith, e, h)) ∙ sym (take_all most l (omega (arith, h)))
