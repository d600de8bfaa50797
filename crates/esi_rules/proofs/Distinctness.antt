-- Laws of distinct elements: for a search that holds each against the later ones; two tests at once; two tests that agree. Assumes nothing.
use mathlib.Core.Path.{◌≡◌, refl, ap, ap₂, ◌∙◌}
use mathlib.Core.List.{List, [], ◌∷◌}
use mathlib.Core.Bool.{Bool, true, false, not, ◌&&◌, ◌||◌}
use Rattle.lists.specs.Search.{any_of, Each}
use Rattle.esi_rules.specs.Distinct.{distinct}

module _ {A : Type 0} (same : A → A → Bool) {x : A} {left rest : List A} (e : left ≡ x ∷ rest) where
  pub distinct_miss : any_of (same x) rest ≡ true → distinct same left ≡ false
  distinct_miss q = ap (distinct same) e ∙ ap (λ (b : Bool). not b && distinct same rest) q

pub distinct_end : {A : Type 0} (same : A → A → Bool) {left : List A} → left ≡ [] → distinct same left ≡ true
distinct_end same e = rw e

module _ {A : Type 0} where
  pub any_either : (p q : A → Bool) (xs : List A) → any_of (λ (x : A). p x || q x) xs ≡ (any_of p xs || any_of q xs)
  any_either p q [] = refl
  any_either p q (x ∷ xs) = ap (λ (b : Bool). (p x || q x) || b) (any_either p q xs) ∙ regroup (p x) (q x) (any_of p xs) (any_of q xs)
    where
      regroup : (a b c d : Bool) → ((a || b) || (c || d)) ≡ ((a || c) || (b || d))
      regroup true b c d = refl
      regroup false true true d = refl
      regroup false true false d = refl
      regroup false false c d = refl

  -- none the same by either of two tests: none by the one, and none by the other
  pub distinct_either : (s t : A → A → Bool) (xs : List A) → distinct (λ (x y : A). s x y || t x y) xs ≡ (distinct s xs && distinct t xs)
  distinct_either s t [] = refl
  distinct_either s t (x ∷ xs) =
      ap₂ (λ (a b : Bool). not a && b) (any_either (s x) (t x) xs) (distinct_either s t xs)
      ∙ regroup (any_of (s x) xs) (any_of (t x) xs) (distinct s xs) (distinct t xs)
    where
      regroup : (a b c d : Bool) → (not (a || b) && (c && d)) ≡ ((not a && c) && (not b && d))
      regroup true b c d = refl
      regroup false true true d = refl
      regroup false true false d = refl
      regroup false false c d = refl

  any_agree : (P : A → Type 0) (p q : A → Bool) → ((x : A) → P x → p x ≡ q x) → (xs : List A) → Each P xs → any_of p xs ≡ any_of q xs
  any_agree P p q agree [] h = refl
  any_agree P p q agree (x ∷ xs) h = ap₂ (λ (a b : Bool). a || b) (agree x h.0) (any_agree P p q agree xs h.1)

  -- two tests that agree on what each element is
  pub distinct_agree : (P : A → Type 0) (s t : A → A → Bool) → ((x y : A) → P x → P y → s x y ≡ t x y) → (xs : List A) → Each P xs
      → distinct s xs ≡ distinct t xs
  distinct_agree P s t agree [] h = refl
  distinct_agree P s t agree (x ∷ xs) h =
      ap₂ (λ (a b : Bool). not a && b) (any_agree P (s x) (t x) (λ y k. agree x y h.0 k) xs h.1)
      (distinct_agree P s t agree xs h.1)
