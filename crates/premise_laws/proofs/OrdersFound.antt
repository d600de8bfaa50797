-- The order with a reference among a file's orders: what finds it after a pass, after one is left out, put behind or replaced. Assumes
-- nothing.
use Prim.Native.Nat.{ℕ, zero, suc, ◌+◌}
use mathlib.Core.Path.{◌≡◌, refl, sym, ap, subst, ◌∙◌}
use mathlib.Core.Logic.{◌⊎◌, inl, inr}
use mathlib.Core.List.{List, [], ◌∷◌, ◌++◌}
use Rattle.std.specs.Prelude.{Option, Some, None}
use mathlib.Core.Bool.{Bool, true, false, cond, ◌||◌, false≢true}
use native.Mathlib.Omega.{arith}
use lib.Dec.{eqb}
use lib.ListN.{get_or, set}
use borrow.Author.Tests.{eqb-true, ne_eqb}
use Rattle.lists.specs.Search.{any_of, place_from, without_first, Each}
use Rattle.lists.proofs.TestLaws.{or_left, or_right}
use Rattle.lists.proofs.SearchLaws.{any-map}
use Rattle.lists.proofs.Find.{place_from_lem}
use Rattle.premise.specs.declared.Order.{Order}
use Rattle.premise.specs.Passes.{Change, pass_from}
use Rattle.premise.specs.WellKept.{distinct}
use Rattle.premise_laws.specs.Endings.{oldest_with, order_in, is_there}
use Rattle.premise_laws.proofs.KeptOrders.{OrderKept}
use Rattle.premise_laws.proofs.KeptChanges.{Leaves}
use Rattle.premise_laws.proofs.KeptReferences.{has_reference, references, first_alone, rest_distinct}

-- ---- there or not
pub not_there : (found : Option Order) → is_there found ≡ false → found ≡ None
not_there None e = refl
not_there (Some o) e = absurd (false≢true (sym e))

module _ (p : Order → Bool) where
  pub found_passes : (os : List Order) (o : Order) → oldest_with p os ≡ Some o → p o ≡ true
  found_passes [] o e = absurd (let z : ◌≡◌ {A = ℕ} 0 1 = cc in omega arith)
  found_passes (x ∷ os) o e = go (p x) refl e (found_passes os o)
    where
      go : (b : Bool) → p x ≡ b → cond b (Some x) (oldest_with p os) ≡ Some o → (oldest_with p os ≡ Some o → p o ≡ true) → p o ≡ true
      go true q k ih = let z : x ≡ o = cc in ap p (sym z) ∙ q
      go false q k ih = ih k

  -- a test that none passes is not passed by the one found
  pub found_fails : (other : Order → Bool) (os : List Order) (o : Order) → oldest_with p os ≡ Some o → any_of other os ≡ false
      → other o ≡ false
  found_fails other [] o e h = absurd (let z : ◌≡◌ {A = ℕ} 0 1 = cc in omega arith)
  found_fails other (x ∷ os) o e h = go (p x) e (found_fails other os o)
    where
      go : (b : Bool) → cond b (Some x) (oldest_with p os) ≡ Some o
          → (oldest_with p os ≡ Some o → any_of other os ≡ false → other o ≡ false) → other o ≡ false
      go true k ih = let z : x ≡ o = cc in ap other (sym z) ∙ or_left (other x) (any_of other os) h
      go false k ih = ih k (or_right (other x) (any_of other os) h)

  -- what holds of each holds of the one found
  pub found_each : (P : Order → Type 0) (os : List Order) (o : Order) → Each P os → oldest_with p os ≡ Some o → P o
  found_each P [] o u e = absurd (let z : ◌≡◌ {A = ℕ} 0 1 = cc in omega arith)
  found_each P (x ∷ os) o u e = go (p x) e (found_each P os o u.1)
    where
      go : (b : Bool) → cond b (Some x) (oldest_with p os) ≡ Some o → (oldest_with p os ≡ Some o → P o) → P o
      go true k ih = subst P (let same : x ≡ o = cc in same) u.0
      go false k ih = ih k

  pub there_any : (os : List Order) → is_there (oldest_with p os) ≡ any_of p os
  there_any [] = refl
  there_any (x ∷ os) = go (p x) (there_any os)
    where
      go : (b : Bool) → is_there (oldest_with p os) ≡ any_of p os → is_there (cond b (Some x) (oldest_with p os)) ≡ (b || any_of p os)
      go true ih = refl
      go false ih = ih

  pub none_passes : (os : List Order) → any_of p os ≡ false → oldest_with p os ≡ None
  none_passes os e = not_there (oldest_with p os) (there_any os ∙ e)

  -- the place that a search finds is that of the order found
  found_from : (j : ℕ) (os : List Order) (i k : ℕ) (d : Order) → k ≡ j + i → place_from p j os ≡ Some k → oldest_with p os ≡ Some (get_or os i d)
  found_from j [] i k d s e = absurd (let z : ◌≡◌ {A = ℕ} 0 1 = cc in omega arith)
  found_from j (x ∷ os) zero k d s e = go (p x) refl
    where
      go : (b : Bool) → p x ≡ b → cond b (Some x) (oldest_with p os) ≡ Some x
      go true q = refl
      go false q = absurd (omega (arith, place_from_lem p (suc j) os k (rw q at e), s))
  found_from j (x ∷ os) (suc i) k d s e = go (p x) refl (found_from (suc j) os i k d (omega (arith, s)))
    where
      go : (b : Bool) → p x ≡ b → (place_from p (suc j) os ≡ Some k → oldest_with p os ≡ Some (get_or os i d))
          → cond b (Some x) (oldest_with p os) ≡ Some (get_or os i d)
      go true q ih = let z : j ≡ k = cc (rw q at e) in absurd (omega (arith, z, s))
      go false q ih = ih (rw q at e)

  pub found_at : (os : List Order) (i : ℕ) (d : Order) → place_from p 0 os ≡ Some i → oldest_with p os ≡ Some (get_or os i d)
  found_at os i d e = found_from 0 os i i d (omega arith) e

-- whether it is there goes by the references alone
pub there_same : (reference : ℕ) (os after : List Order) → references after ≡ references os
    → is_there (order_in reference after) ≡ is_there (order_in reference os)
there_same reference os after e =
    by_numbers after ∙ ap (any_of (λ (n : ℕ). eqb n reference)) e ∙ sym (by_numbers os)
  where
    by_numbers : (xs : List Order) → is_there (order_in reference xs) ≡ any_of (λ (n : ℕ). eqb n reference) (references xs)
    by_numbers xs =
        there_any (has_reference reference) xs ∙ sym (any-map (λ (n : ℕ). eqb n reference) (λ (o : Order). o.reference) xs)

module _ (reference : ℕ) where
  -- ---- after a pass whose step leaves every reference and makes this order that one
  pub found_pass : (step : ℕ → Order → Change) → ((i : ℕ) (x : Order) → OrderKept x → Leaves x (step i x).order)
      → (o next : Order) → ((i : ℕ) → (step i o).order ≡ next)
      → (i : ℕ) (os : List Order) → Each OrderKept os → order_in reference os ≡ Some o
      → order_in reference (pass_from step i os).orders ≡ Some next
  found_pass step s o next h i [] k e = absurd (let z : ◌≡◌ {A = ℕ} 0 1 = cc in omega arith)
  found_pass step s o next h i (x ∷ os) k e =
      ap (λ (n : ℕ). cond (eqb n reference) (Some (step i x).order) (order_in reference (pass_from step (suc i) os).orders))
      (s i x k.0).reference
      ∙ go (eqb x.reference reference) e (found_pass step s o next h (suc i) os k.1)
    where
      go : (own : Bool) → cond own (Some x) (order_in reference os) ≡ Some o
          → (order_in reference os ≡ Some o → order_in reference (pass_from step (suc i) os).orders ≡ Some next)
          → cond own (Some (step i x).order) (order_in reference (pass_from step (suc i) os).orders) ≡ Some next
      go true q ih = let z : x ≡ o = cc in ap (λ (y : Order). Some (step i y).order) z ∙ ap Some (h i)
      go false q ih = ih q

  -- ---- after the first that passes a test is left out: it is there, or it was that one and is not
  pub found_without : (q : Order → Bool) (os : List Order) (o : Order) → distinct os ≡ true → order_in reference os ≡ Some o
      → (order_in reference (without_first q os) ≡ Some o)
      ⊎ ((oldest_with q os ≡ Some o) × (order_in reference (without_first q os) ≡ None))
  found_without q [] o d e = absurd (let z : ◌≡◌ {A = ℕ} 0 1 = cc in omega arith)
  found_without q (x ∷ os) o d e = go (q x) (eqb x.reference reference) refl e (found_without q os o (rest_distinct x os d))
    where
      Out : Bool → Bool → Type 0
      Out out own =
          (order_in reference (cond out os (x ∷ without_first q os)) ≡ Some o)
          ⊎ ((cond out (Some x) (oldest_with q os) ≡ Some o) × (order_in reference (cond out os (x ∷ without_first q os)) ≡ None))

      go : (out own : Bool) → eqb x.reference reference ≡ own → cond own (Some x) (order_in reference os) ≡ Some o
          → (order_in reference os ≡ Some o
          → (order_in reference (without_first q os) ≡ Some o)
          ⊎ ((oldest_with q os ≡ Some o) × (order_in reference (without_first q os) ≡ None)))
          → Out out own
      go true true t k ih =
          inr (
            k,
            none_passes (has_reference reference) os
                (ap (λ (n : ℕ). any_of (has_reference n) os) (sym (eqb-true x.reference reference t)) ∙ first_alone x os d),
          )
      go true false t k ih = inl k
      go false true t k ih = inl (rw t k)
      go false false t k ih = rw t (ih k)

  -- ---- behind others
  pub found-append : (os more : List Order) (o : Order) → order_in reference os ≡ Some o → order_in reference (os ++ more) ≡ Some o
  found-append [] more o e = absurd (let z : ◌≡◌ {A = ℕ} 0 1 = cc in omega arith)
  found-append (x ∷ os) more o e = go (eqb x.reference reference) e (found-append os more o)
    where
      go : (own : Bool) → cond own (Some x) (order_in reference os) ≡ Some o
          → (order_in reference os ≡ Some o → order_in reference (os ++ more) ≡ Some o)
          → cond own (Some x) (order_in reference (os ++ more)) ≡ Some o
      go true k ih = k
      go false k ih = ih k

  pub found_behind : (os more : List Order) → order_in reference os ≡ None → order_in reference (os ++ more) ≡ order_in reference more
  found_behind [] more e = refl
  found_behind (x ∷ os) more e = go (eqb x.reference reference) e (found_behind os more)
    where
      go : (own : Bool) → cond own (Some x) (order_in reference os) ≡ None
          → (order_in reference os ≡ None → order_in reference (os ++ more) ≡ order_in reference more)
          → cond own (Some x) (order_in reference (os ++ more)) ≡ order_in reference more
      go true k ih = absurd (let z : ◌≡◌ {A = ℕ} 0 1 = cc in omega arith)
      go false k ih = ih k

  -- ---- another one replaced, with its reference
  pub found-set : (os : List Order) (i : ℕ) (y d : Order) → y.reference ≡ (get_or os i d).reference
      → ((get_or os i d).reference ≡ reference → ⊥) → order_in reference (set os i y) ≡ order_in reference os
  found-set [] i y d e n = refl
  found-set (x ∷ os) zero y d e n =
      ap (λ (own : Bool). cond own (Some y) (order_in reference os)) (ne_eqb y.reference reference (λ q. n (sym e ∙ q)))
      ∙ sym (ap (λ (own : Bool). cond own (Some x) (order_in reference os)) (ne_eqb x.reference reference n))
  found-set (x ∷ os) (suc i) y d e n =
      ap (cond (eqb x.reference reference) (Some x)) (found-set os i y d e n)
