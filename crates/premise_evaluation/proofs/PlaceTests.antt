-- Searches by place whose test is made of others: one test or another, a test behind what does not go by the order, and a test that does
-- not go by the place. Assumes nothing.
use Prim.Native.Nat.{ℕ, suc, ◌+◌, ◌<◌}
use mathlib.Core.Path.{◌≡◌, refl, sym, ap, ap₂, ◌∙◌}
use mathlib.Core.List.{List, [], ◌∷◌}
use mathlib.Core.Bool.{Bool, true, false, ◌&&◌, ◌||◌}
use native.Mathlib.Omega.{arith}
use native.Mathlib.Numerals.{add-one}
use lib.ListN.{length, get_or}
use Rattle.std.specs.List.{list_any, enumerate_from}
use Rattle.lists.specs.Search.{any_of}
use Rattle.premise.specs.declared.Order.{Order}
use Rattle.premise.specs.Orders.{blank}
use Rattle.premise_laws.specs.Changes.{any_at}

-- the same by two tests that agree
pub any_same : (p q : ℕ → Order → Bool) → ((i : ℕ) (o : Order) → p i o ≡ q i o) → (j : ℕ) (os : List Order) → any_at p j os ≡ any_at q j os
any_same p q agree j [] = refl
any_same p q agree j (o ∷ os) = ap₂ (λ (a b : Bool). a || b) (agree j o) (any_same p q agree (suc j) os)

pub any_none : (p : ℕ → Order → Bool) → ((i : ℕ) (o : Order) → p i o ≡ false) → (j : ℕ) (os : List Order) → any_at p j os ≡ false
any_none p fails j [] = refl
any_none p fails j (o ∷ os) = ap₂ (λ (a b : Bool). a || b) (fails j o) (any_none p fails (suc j) os)

pub any_or : (p q : ℕ → Order → Bool) (j : ℕ) (os : List Order)
    → any_at (λ (i : ℕ) (o : Order). p i o || q i o) j os ≡ (any_at p j os || any_at q j os)
any_or p q j [] = refl
any_or p q j (o ∷ os) =
    ap (λ (b : Bool). (p j o || q j o) || b) (any_or p q (suc j) os) ∙ mix (p j o) (q j o) (any_at p (suc j) os) (any_at q (suc j) os)
  where
    mix : (a b c d : Bool) → ((a || b) || (c || d)) ≡ ((a || c) || (b || d))
    mix true b c d = refl
    mix false true true d = refl
    mix false true false d = refl
    mix false false c d = refl

pub any_and : (a : Bool) (p : ℕ → Order → Bool) (j : ℕ) (os : List Order)
    → any_at (λ (i : ℕ) (o : Order). a && p i o) j os ≡ (a && any_at p j os)
any_and true p j os = any_same (λ (i : ℕ) (o : Order). true && p i o) p (λ i o. refl) j os
any_and false p j os = any_none (λ (i : ℕ) (o : Order). false && p i o) (λ i o. refl) j os

pub any_plain : (p : Order → Bool) (j : ℕ) (os : List Order) → any_at (λ (i : ℕ) (o : Order). p o) j os ≡ any_of p os
any_plain p j [] = refl
any_plain p j (o ∷ os) = ap (λ (b : Bool). p o || b) (any_plain p (suc j) os)

-- the same by two tests that agree at each place of the orders
pub any_agree : (p q : ℕ → Order → Bool) (j : ℕ) (os : List Order)
    → ((k i : ℕ) → k ≡ j + i → i < length os → p k (get_or os i blank) ≡ q k (get_or os i blank)) → any_at p j os ≡ any_at q j os
any_agree p q j [] agree = refl
any_agree p q j (o ∷ os) agree =
    ap₂ (λ (a b : Bool). a || b) (agree j 0 (omega arith) (omega arith))
    (any_agree p q (suc j) os (λ k i s h. agree k (suc i) (omega (arith, s)) (omega (arith, h))))

-- std's search over the orders with their places
enumerated : (p : ℕ → Order → Bool) (j : ℕ) (os : List Order) → any_at p j os ≡ list_any (λ (e : ℕ × Order). p e.0 e.1) (enumerate_from j os)
enumerated p j [] = refl
enumerated p j (o ∷ os) =
    ap (λ (b : Bool). p j o || b)
    (enumerated p (suc j) os ∙ ap (λ (k : ℕ). list_any (λ (e : ℕ × Order). p e.0 e.1) (enumerate_from k os)) (sym (add-one j)))

pub by_enumerated : (p : ℕ → Order → Bool) (os : List Order) {r : Bool}
    → r ≡ list_any (λ (e : ℕ × Order). p e.0 e.1) (enumerate_from 0 os) → r ≡ any_at p 0 os
by_enumerated p os e = e ∙ sym (enumerated p 0 os)
