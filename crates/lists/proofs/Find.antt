-- Searches over a list from a place on: what one turn of a loop finds, what it leaves, and the end; what is known of the place found.
-- Assumes nothing.
use Prim.Native.Nat.{ℕ, zero, suc, ◌+◌, ◌≤◌, ◌<◌}
use mathlib.Core.Path.{◌≡◌, refl, sym, ap, ◌∙◌}
use mathlib.Core.List.{List, [], ◌∷◌}
use mathlib.Core.Bool.{Bool, true, false, cond, not}
use native.Mathlib.Numerals.{add-one}
use native.Mathlib.Omega.{arith}
use lib.ListN.{length, take, drop, get_or, length-take, drop_of_length-le}
use lib.Seq.{drop-cons, get_or-take}
use Rattle.std.specs.Prelude.{Some, None}
use Rattle.lists.specs.Search.{any_of, all_of, count_of, place_from, place_of, without_first}
use Rattle.lists.specs.Shift.{removed}

-- ---- the elements from a place on
-- the one at the place, and the rest
pub drop-first : {X : Type 0} (d : X) (l : List X) (i : ℕ) → i < length l → drop i l ≡ get_or l i d ∷ drop (i + 1) l
drop-first d l i h = rw (add-one i, drop-cons l i d h)

-- the same among the first n, read from the whole list
pub drop_part : {X : Type 0} (d : X) (l : List X) (n i : ℕ) → n ≤ length l → i < n
    → drop i (take n l) ≡ get_or l i d ∷ drop (i + 1) (take n l)
drop_part d l n i k h =
    let e : i < length (take n l) = simp length-take (omega arith) in
    rw (drop-first d (take n l) i e, get_or-take n l i d h)

-- past the last one there is none
pub drop-none : {X : Type 0} (l : List X) (i : ℕ) → length l ≤ i → drop i l ≡ []
drop-none l i h = drop_of_length-le l {i = i} h

pub part_none : {X : Type 0} (l : List X) (n i : ℕ) → n ≤ i → drop i (take n l) ≡ []
part_none l n i h = drop-none (take n l) i (simp length-take (omega arith))

-- ---- a turn of a search: what is left to search is an element and a rest
module _ {X : Type 0} (p : X → Bool) {x : X} {left rest : List X} (e : left ≡ x ∷ rest) where
  pub any_hit : p x ≡ true → any_of p left ≡ true
  any_hit q = rw (e, q)

  pub any_next : p x ≡ false → any_of p left ≡ any_of p rest
  any_next q = rw (e, q)

  pub all_miss : p x ≡ false → all_of p left ≡ false
  all_miss q = rw (e, q)

  pub all_next : p x ≡ true → all_of p left ≡ all_of p rest
  all_next q = rw (e, q)

  pub count_next : count_of p left ≡ cond (p x) 1 0 + count_of p rest
  count_next = rw e

  pub place_hit : (i : ℕ) → p x ≡ true → place_from p i left ≡ Some i
  place_hit i q = rw (e, q)

  pub place_next : (i : ℕ) → p x ≡ false → place_from p i left ≡ place_from p (i + 1) rest
  place_next i q = rw (e, q, add-one i)

-- ---- the end of a search: nothing is left
module _ {X : Type 0} (p : X → Bool) {left : List X} (e : left ≡ []) where
  pub any_end : any_of p left ≡ false
  any_end = rw e

  pub all_end : all_of p left ≡ true
  all_end = rw e

  pub count_end : count_of p left ≡ 0
  count_end = rw e

  pub place_end : (i : ℕ) → place_from p i left ≡ None
  place_end i = rw e

-- ---- what is found
-- nothing found is no place found
apart : {Y : Type 0} {i : ℕ} → None ≡ Some i → Y
apart e = let z : ◌≡◌ {A = ℕ} 0 1 = cc in absurd (omega arith)

removed_more : {X : Type 0} (x : X) (xs : List X) (i : ℕ) → removed (suc i) (x ∷ xs) ≡ x ∷ removed i xs
unfolding removed
removed_more x xs i = rw (add-one (suc i), add-one i)

-- The place found, where the search counts from j on: inside the list, and what is left out there is the first that passes.
module _ {X : Type 0} (p : X → Bool) where
  pub place_below : (j : ℕ) (l : List X) (i : ℕ) → place_from p j l ≡ Some i → i < j + length l
  place_below j [] i e = apart e
  place_below j (x ∷ xs) i e = go (p x) refl (place_below (suc j) xs i)
    where
      go : (b : Bool) → p x ≡ b → (place_from p (suc j) xs ≡ Some i → i < suc j + length xs) → i < j + length (x ∷ xs)
      go true q ih = let z : j ≡ i = cc (rw q at e) in omega (arith, z)
      go false q ih = omega (arith, ih (rw q at e))

  pub place_from_lem : (j : ℕ) (l : List X) (i : ℕ) → place_from p j l ≡ Some i → j ≤ i
  place_from_lem j [] i e = apart e
  place_from_lem j (x ∷ xs) i e = go (p x) refl (place_from_lem (suc j) xs i)
    where
      go : (b : Bool) → p x ≡ b → (place_from p (suc j) xs ≡ Some i → suc j ≤ i) → j ≤ i
      go true q ih = let z : j ≡ i = cc (rw q at e) in omega (arith, z)
      go false q ih = omega (arith, ih (rw q at e))

  without_from : (j : ℕ) (l : List X) (i k : ℕ) → k ≡ j + i → place_from p j l ≡ Some k → without_first p l ≡ removed i l
  unfolding removed
  without_from j [] i k s e = apart e
  without_from j (x ∷ xs) zero k s e = go (p x) refl
    where
      go : (b : Bool) → p x ≡ b → without_first p (x ∷ xs) ≡ removed 0 (x ∷ xs)
      go true q = rw q refl
      go false q = absurd (omega (arith, place_from_lem (suc j) xs k (rw q at e), s))
  without_from j (x ∷ xs) (suc i) k s e = go (p x) refl (without_from (suc j) xs i k (omega (arith, s)))
    where
      go : (b : Bool) → p x ≡ b → (place_from p (suc j) xs ≡ Some k → without_first p xs ≡ removed i xs)
          → without_first p (x ∷ xs) ≡ removed (suc i) (x ∷ xs)
      go true q ih = let z : j ≡ k = cc (rw q at e) in absurd (omega (arith, z, s))
      go false q ih = rw q (ap (λ (l : List X). x ∷ l) (ih (rw q at e)) ∙ sym (removed_more x xs i))

  -- the list without the first that passes is the list without what stands at the place found
  pub without_removed : (l : List X) (i : ℕ) → place_of p l ≡ Some i → without_first p l ≡ removed i l
  without_removed l i e = without_from 0 l i i (omega arith) e

  pub count_most : (l : List X) → count_of p l ≤ length l
  count_most [] = omega arith
  count_most (x ∷ xs) = go (p x) refl (count_most xs)
    where
      go : (b : Bool) → p x ≡ b → count_of p xs ≤ length xs → count_of p (x ∷ xs) ≤ length (x ∷ xs)
      go true q ih = rw q (omega (arith, ih))
      go false q ih = rw q (omega (arith, ih))

  -- none fails, so all are counted
  pub count_all : (j : ℕ) (l : List X) → place_from (λ x. not (p x)) j l ≡ None → count_of p l ≡ length l
  count_all j [] e = refl
  count_all j (x ∷ xs) e = go (p x) refl (count_all (suc j) xs)
    where
      go : (b : Bool) → p x ≡ b → (place_from (λ x. not (p x)) (suc j) xs ≡ None → count_of p xs ≡ length xs)
          → count_of p (x ∷ xs) ≡ length (x ∷ xs)
      go true q ih = rw q (omega (arith, ih (rw q at e)))
      go false q ih = apart (sym (rw q at e))

  -- one fails, so not all are counted
  pub count_less : (j : ℕ) (l : List X) (i : ℕ) → place_from (λ x. not (p x)) j l ≡ Some i → count_of p l < length l
  count_less j [] i e = apart e
  count_less j (x ∷ xs) i e = go (p x) refl (count_less (suc j) xs i)
    where
      go : (b : Bool) → p x ≡ b → (place_from (λ x. not (p x)) (suc j) xs ≡ Some i → count_of p xs < length xs)
          → count_of p (x ∷ xs) < length (x ∷ xs)
      go true q ih = rw q (omega (arith, ih (rw q at e)))
      go false q ih = rw q (omega (arith, count_most xs))
