-- The searches of specs/Search.antt are what std's chains of iterators give. A function over a slice that ends in a chain cites one law:
--     xs.iter().any(|x| p(x))                returns c = any_is p c.args.xs.now d _ (search rules) (search rules)
--     xs.iter().all(|x| p(x))                returns c = all_is p c.args.xs.now d _ (search rules) (search rules)
--     xs.iter().position(|x| p(x))           returns c = place_is p c.args.xs.now d _ (search rules) (search rules)
--     xs.iter().filter(|x| p(x)).count()     #[tactic(auto, using(lists::proofs::Chains::counts))] on the function, and no answer
-- p is the search's test and d any element, as a blank one; `rules` is from borrow.Author.Rules.
-- Assumes nothing.
use Prim.Native.Nat.{ℕ, zero, suc, ◌+◌, ◌<◌}
use mathlib.Core.Path.{◌≡◌, refl, sym, ap, ◌∙◌}
use mathlib.Core.List.{List, [], ◌∷◌}
use mathlib.Core.Bool.{Bool, true, false, cond}
use lib.ListN.{length, get_or}
use native.Mathlib.Omega.{arith}
use Rattle.std.specs.Prelude.{Option, Some, None}
use Rattle.std.specs.List.{count_by}
use Rattle.std.proofs.lemmas.Grind.{common_steps}
use Rattle.std.proofs.lemmas.List.Recursion.{is_count_by, or_is, and_is}
use Rattle.lists.specs.Search.{any_of, all_of, count_of, place_from, place_of}

-- ---- whether some element passes, and whether every one does, by what `any` or `all` says of each
module _ {X : Type 0} (p : X → Bool) (xs : List X) (d : X) where
  pub any_is : (r : Bool) → (r ≡ true → (i : ℕ) × (i < length xs) × (p (get_or xs i d) ≡ true))
      → (r ≡ false → (i : ℕ) → i < length xs → p (get_or xs i d) ≡ false) → r ≡ any_of p xs
  any_is = or_is (any_of p) p refl (λ _ _. refl) xs d

  pub all_is : (r : Bool) → (r ≡ true → (i : ℕ) → i < length xs → p (get_or xs i d) ≡ true)
      → (r ≡ false → (i : ℕ) × (i < length xs) × (p (get_or xs i d) ≡ false)) → r ≡ all_of p xs
  all_is = and_is (all_of p) p refl (λ _ _. refl) xs d

-- ---- the place of the first that passes, by what `position` says of each
module _ {X : Type 0} (p : X → Bool) (d : X) where
  place_there : (j : ℕ) (xs : List X) (i : ℕ) → i < length xs → p (get_or xs i d) ≡ true
      → ((k : ℕ) → k < i → p (get_or xs k d) ≡ false) → place_from p j xs ≡ Some (j + i)
  place_there j [] i h hit miss = absurd (omega arith)
  place_there j (x ∷ xs) zero h hit miss = rw hit (ap Some (omega arith))
  place_there j (x ∷ xs) (suc i) h hit miss =
      rw (miss 0 (omega arith)) (place_there (suc j) xs i (omega arith) hit (λ k l. miss (suc k) (omega arith)) ∙ ap Some (omega arith))

  place_nowhere : (j : ℕ) (xs : List X) → ((k : ℕ) → k < length xs → p (get_or xs k d) ≡ false) → place_from p j xs ≡ None
  place_nowhere j [] miss = refl
  place_nowhere j (x ∷ xs) miss = rw (miss 0 (omega arith)) (place_nowhere (suc j) xs (λ k l. miss (suc k) (omega arith)))

pub place_is : {X : Type 0} (p : X → Bool) (xs : List X) (d : X) (r : Option ℕ)
    → (r ≡ None → (k : ℕ) → k < length xs → p (get_or xs k d) ≡ false)
    → ((i : ℕ) → r ≡ Some i → (i < length xs) × (p (get_or xs i d) ≡ true) × ((k : ℕ) → k < i → p (get_or xs k d) ≡ false))
    → r ≡ place_of p xs
place_is p xs d None none some = sym (place_nowhere p d 0 xs (none refl))
place_is p xs d (Some i) none some =
    let h = some i refl in
    sym (place_there p d 0 xs i h.0 h.1 h.2 ∙ ap Some (omega arith))

-- ---- how many pass
counted : (is : Bool) (n : ℕ) → cond is 1 0 + n ≡ cond is (1 + n) n
counted true n = refl
counted false n = omega arith

pub count_chain : {X : Type 0} (p : X → Bool) (xs : List X) → count_of p xs ≡ count_by p xs
count_chain p = is_count_by (count_of p) p refl (λ x xs. counted (p x) (count_of p xs))

-- std's steps with it, which prove a count by themselves
pub ruleset counts = (common_steps, count_chain)
