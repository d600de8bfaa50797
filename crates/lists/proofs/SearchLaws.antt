-- Laws of searches: what holds of each element after a list is joined, changed at a place or shortened, and what a search that found
-- nothing says. Assumes nothing.
use Prim.Native.Nat.{ℕ, zero, suc, ◌+◌, ◌<◌, ◌≤◌}
use mathlib.Core.Path.{◌≡◌, refl, ap, ap₂}
use mathlib.Core.List.{List, [], ◌∷◌, ◌++◌, map}
use mathlib.Core.Bool.{Bool, true, false, cond, not, ◌&&◌, ◌||◌, false≢true}
use native.Mathlib.Omega.{arith}
use lib.ListN.{length, get_or, set, replicate}
use Rattle.std.specs.Prelude.{Some, None}
use Rattle.lists.specs.Search.{any_of, all_of, count_of, place_from, place_of, without_first, Each}
use Rattle.lists.proofs.TestLaws.{by_test, and_left, and_right, or_left, or_right}

module _ {A : Type 0} where
  -- ---- a test that every element passes
  pub each_of_all : (p : A → Bool) (xs : List A) → all_of p xs ≡ true → Each (λ (x : A). p x ≡ true) xs
  each_of_all p [] h = tt
  each_of_all p (x ∷ xs) h = (and_left (p x) (all_of p xs) h, each_of_all p xs (and_right (p x) (all_of p xs) h))

  pub all_of_each : (p : A → Bool) (xs : List A) → Each (λ (x : A). p x ≡ true) xs → all_of p xs ≡ true
  all_of_each p [] h = refl
  all_of_each p (x ∷ xs) h = ap₂ (λ (a b : Bool). a && b) h.0 (all_of_each p xs h.1)

  -- ---- a test that only one value passes
  pub all_are : (p : A → Bool) (one : A) → ((x : A) → p x ≡ true → x ≡ one) → (xs : List A) → all_of p xs ≡ true
      → xs ≡ replicate (length xs) one
  all_are p one only [] h = refl
  all_are p one only (x ∷ xs) h =
      ap₂ (λ (y : A) (ys : List A). y ∷ ys) (only x (and_left (p x) (all_of p xs) h))
      (all_are p one only xs (and_right (p x) (all_of p xs) h))

  pub all_same : (p : A → Bool) (one : A) → p one ≡ true → (n : ℕ) → all_of p (replicate n one) ≡ true
  all_same p one h zero = refl
  all_same p one h (suc n) = ap₂ (λ (a b : Bool). a && b) h (all_same p one h n)

  -- ---- what holds of every element
  pub each_map : (P Q : A → Type 0) → ((x : A) → P x → Q x) → (xs : List A) → Each P xs → Each Q xs
  each_map P Q f [] h = tt
  each_map P Q f (x ∷ xs) h = (f x h.0, each_map P Q f xs h.1)

  module _ (P : A → Type 0) where
    pub each_append : (xs ys : List A) → Each P xs → Each P ys → Each P (xs ++ ys)
    each_append [] ys h k = k
    each_append (x ∷ xs) ys h k = (h.0, each_append xs ys h.1 k)

    pub each_set : (xs : List A) (i : ℕ) (y : A) → Each P xs → P y → Each P (set xs i y)
    each_set [] i y h k = tt
    each_set (x ∷ xs) zero y h k = (k, h.1)
    each_set (x ∷ xs) (suc i) y h k = (h.0, each_set xs i y h.1 k)

    pub each_at : (xs : List A) (i : ℕ) (d : A) → i < length xs → Each P xs → P (get_or xs i d)
    each_at [] i d l h = absurd (omega arith)
    each_at (x ∷ xs) zero d l h = h.0
    each_at (x ∷ xs) (suc i) d l h = each_at xs i d (omega arith) h.1

    pub each_without : (q : A → Bool) (xs : List A) → Each P xs → Each P (without_first q xs)
    each_without q [] h = tt
    each_without q (x ∷ xs) h =
        let others = each_without q xs h.1 in
        by_test (Each P) (q x) xs (x ∷ without_first q xs) (λ e. h.1) (λ e. (h.0, others))

  -- ---- a search
  pub any_append : (p : A → Bool) (xs ys : List A) → any_of p xs ≡ false → any_of p ys ≡ false → any_of p (xs ++ ys) ≡ false
  any_append p [] ys h k = k
  any_append p (x ∷ xs) ys h k =
      ap₂ (λ (a b : Bool). a || b) (or_left (p x) (any_of p xs) h) (any_append p xs ys (or_right (p x) (any_of p xs) h) k)

  pub any-map : {B : Type 0} (p : B → Bool) (g : A → B) (xs : List A) → any_of p (map g xs) ≡ any_of (λ (x : A). p (g x)) xs
  any-map p g [] = refl
  any-map p g (x ∷ xs) = ap (λ (b : Bool). p (g x) || b) (any-map p g xs)

  pub any_without : (p q : A → Bool) (xs : List A) → any_of p xs ≡ false → any_of p (without_first q xs) ≡ false
  any_without p q [] h = refl
  any_without p q (x ∷ xs) h =
      let k = or_right (p x) (any_of p xs) h in
      let others = any_without p q xs k in
      by_test (λ (ys : List A). any_of p ys ≡ false) (q x) xs (x ∷ without_first q xs) (λ e. k)
      (λ e. ap₂ (λ (a b : Bool). a || b) (or_left (p x) (any_of p xs) h) others)

  -- a place that is found lies in the list; if none is found, no element passes
  place_below : (p : A → Bool) (j : ℕ) (xs : List A) (i : ℕ) → place_from p j xs ≡ Some i → i < j + length xs
  place_below p j [] i e = absurd (let z : ◌≡◌ {A = ℕ} 0 1 = cc in omega arith)
  place_below p j (x ∷ xs) i e = go (p x) refl (place_below p (suc j) xs i)
    where
      go : (b : Bool) → p x ≡ b → (place_from p (suc j) xs ≡ Some i → i < suc j + length xs) → i < j + length (x ∷ xs)
      go true q ih = let z : j ≡ i = cc (rw q at e) in omega (arith, z)
      go false q ih = omega (arith, ih (rw q at e))

  pub place_in : (p : A → Bool) (xs : List A) (i : ℕ) → place_of p xs ≡ Some i → i < length xs
  place_in p xs i e = omega (arith, place_below p 0 xs i e)

  pub none_found : (p : A → Bool) (j : ℕ) (xs : List A) → place_from p j xs ≡ None → any_of p xs ≡ false
  none_found p j [] e = refl
  none_found p j (x ∷ xs) e = go (p x) refl (none_found p (suc j) xs)
    where
      go : (b : Bool) → p x ≡ b → (place_from p (suc j) xs ≡ None → any_of p xs ≡ false) → (p x || any_of p xs) ≡ false
      go true q ih = absurd (let e2 = (rw q at e) in let z : ◌≡◌ {A = ℕ} 0 1 = cc in omega arith)
      go false q ih = rw q (ih (rw q at e))

  -- ---- how many
  pub length_without : (q : A → Bool) (xs : List A) → any_of q xs ≡ true → suc (length (without_first q xs)) ≡ length xs
  length_without q [] h = absurd (false≢true h)
  length_without q (x ∷ xs) h = go (q x) h (length_without q xs)
    where
      go : (b : Bool) → (b || any_of q xs) ≡ true → (any_of q xs ≡ true → suc (length (without_first q xs)) ≡ length xs)
          → suc (length (cond b xs (x ∷ without_first q xs))) ≡ suc (length xs)
      go true k ih = refl
      go false k ih = ap suc (ih k)

  pub count_most : (p : A → Bool) (xs : List A) → count_of p xs ≤ length xs
  count_most p [] = omega arith
  count_most p (x ∷ xs) =
      let rest = count_most p xs in
      by_test (λ (n : ℕ). n + count_of p xs ≤ suc (length xs)) (p x) 1 0 (λ e. omega arith) (λ e. omega arith)

  pub count_append : (p : A → Bool) (xs ys : List A) → count_of p (xs ++ ys) ≡ count_of p xs + count_of p ys
  count_append p [] ys = omega arith
  count_append p (x ∷ xs) ys = let rest = count_append p xs ys in omega (arith, rest)

  pub count_without : (p q : A → Bool) (xs : List A) → count_of p (without_first q xs) ≤ count_of p xs
  count_without p q [] = omega arith
  count_without p q (x ∷ xs) =
      let rest = count_without p q xs in
      by_test (λ (ys : List A). count_of p ys ≤ count_of p (x ∷ xs)) (q x) xs (x ∷ without_first q xs) (λ e. omega arith)
      (λ e. omega (arith, rest))

  -- one element for another that passes where it does: no more are counted
  pub count_one : (p : A → Bool) (x y : A) → (p y ≡ true → p x ≡ true) → (m n : ℕ) → m ≤ n → cond (p y) 1 0 + m ≤ cond (p x) 1 0 + n
  count_one p x y h m n l = go (p y) (p x) h
    where
      go : (a b : Bool) → (a ≡ true → b ≡ true) → cond a 1 0 + m ≤ cond b 1 0 + n
      go true true k = omega arith
      go true false k = absurd (false≢true (k refl))
      go false true k = omega arith
      go false false k = omega arith

  pub count_set : (p : A → Bool) (xs : List A) (i : ℕ) (y d : A) → (p y ≡ true → p (get_or xs i d) ≡ true)
      → count_of p (set xs i y) ≤ count_of p xs
  count_set p [] i y d h = omega arith
  count_set p (x ∷ xs) zero y d h = count_one p x y h (count_of p xs) (count_of p xs) (omega arith)
  count_set p (x ∷ xs) (suc i) y d h = let rest = count_set p xs i y d h in omega (arith, rest)

  -- where not all elements pass, some element fails
  pub some_fails : (p : A → Bool) (xs : List A) → count_of p xs < length xs → any_of (λ (x : A). not (p x)) xs ≡ true
  some_fails p [] h = absurd (omega arith)
  some_fails p (x ∷ xs) h = go (p x) h (some_fails p xs)
    where
      go : (b : Bool) → cond b 1 0 + count_of p xs < suc (length xs) → (count_of p xs < length xs → any_of (λ (y : A). not (p y)) xs ≡ true)
          → (not b || any_of (λ (y : A). not (p y)) xs) ≡ true
      go true k ih = ih (omega arith)
      go false k ih = refl
