-- Searches over a list by a test on its elements.
use Rattle.std.specs.Prelude.{ℕ, suc, ◌+◌, List, [], ◌∷◌, Bool, true, false, cond, ◌&&◌, ◌||◌, eqb}
use Rattle.std.specs.Prelude.{Option, Some, None}

-- whether some element passes
abbrev pub any_of : {A : Type 0} → (A → Bool) → List A → Bool
any_of p [] = false
any_of p (x ∷ xs) = p x || any_of p xs

-- whether every element passes
abbrev pub all_of : {A : Type 0} → (A → Bool) → List A → Bool
all_of p [] = true
all_of p (x ∷ xs) = p x && all_of p xs

-- how many elements pass
abbrev pub count_of : {A : Type 0} → (A → Bool) → List A → ℕ
count_of p [] = 0
count_of p (x ∷ xs) = cond (p x) 1 0 + count_of p xs

-- the place, counted from a number on, of the first element that passes
abbrev pub place_from : {A : Type 0} → (A → Bool) → ℕ → List A → Option ℕ
place_from p i [] = None
place_from p i (x ∷ xs) = cond (p x) (Some i) (place_from p (suc i) xs)

-- the place of the first element that passes
abbrev pub place_of : {A : Type 0} → (A → Bool) → List A → Option ℕ
place_of p xs = place_from p 0 xs

-- the list without the first element that passes
abbrev pub without_first : {A : Type 0} → (A → Bool) → List A → List A
without_first p [] = []
without_first p (x ∷ xs) = cond (p x) xs (x ∷ without_first p xs)

-- whether a place is the one found
abbrev pub is_at : Option ℕ → ℕ → Bool
is_at (Some j) i = eqb j i
is_at None i = false

-- the second place where the first was not found
abbrev pub or_else : Option ℕ → Option ℕ → Option ℕ
or_else (Some i) other = Some i
or_else None other = other

-- what holds of every element
abbrev pub Each : {A : Type 0} → (A → Type 0) → List A → Type 0
Each P [] = Unit {0}
Each P (x ∷ xs) = P x × Each P xs
