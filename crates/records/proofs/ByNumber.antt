-- Tests and facts that go by a number, as a record's kind: a test is the entry of a table, and what holds for each number holds for any.
-- Assumes nothing.
use Prim.Native.Nat.{ℕ, zero, suc, ◌+◌, ◌<◌, ◌≤◌}
use mathlib.Core.Path.{◌≡◌, refl, subst}
use mathlib.Core.List.{List, [], ◌∷◌}
use mathlib.Core.Bool.{Bool, true, false, ◌&&◌, ◌||◌, or-false, false≢true}
use native.Mathlib.Omega.{arith}
use lib.Dec.{eqb}
use lib.ListN.{get_or}
use borrow.Author.Tests.{eq-eqb, ne_eqb, eqb-true, eqb-false}

-- ---- a test that goes by a number is the entry of a table
abbrev pub any_at : ℕ → ℕ → List Bool → Bool
any_at kind from [] = false
any_at kind from (b ∷ bs) = eqb kind from && b || any_at kind (suc from) bs

any_past : (kind from : ℕ) (bs : List Bool) → kind < from → any_at kind from bs ≡ false
any_past kind from [] h = refl
any_past kind from (b ∷ bs) h = rw (ne_eqb kind from (omega arith)) (any_past kind (suc from) bs (omega arith))

pub any_at_lem : (kind d from : ℕ) (bs : List Bool) → kind ≡ from + d → any_at kind from bs ≡ get_or bs d false
any_at_lem kind d from [] h = refl
any_at_lem kind zero from (b ∷ bs) h = rw (eq-eqb kind from (omega arith), any_past kind (suc from) bs (omega arith)) (or-false b)
any_at_lem kind (suc d) from (b ∷ bs) h = rw (ne_eqb kind from (omega arith)) (any_at_lem kind d (suc from) bs (omega arith))

-- ---- what holds for each of so many numbers holds for any of them
abbrev pub Every : (ℕ → Type 0) → ℕ → ℕ → Type 0
Every P from zero = Unit {0}
Every P from (suc many) = P from × Every P (suc from) many

pub every_at : (P : ℕ → Type 0) (from many : ℕ) → Every P from many → (k : ℕ) → from ≤ k → k < from + many → P k
every_at P from zero each k h l = absurd (omega arith)
every_at P from (suc many) each k h l = go (eqb from k) refl (every_at P (suc from) many each.1 k)
  where
    go : (b : Bool) → eqb from k ≡ b → (suc from ≤ k → k < suc from + many → P k) → P k
    go true e later = subst P (eqb-true from k e) each.0
    go false e later =
        let other = eqb-false from k e in
        later (omega arith) (omega arith)

infixr 5 ◌also◌
pub ◌also◌ : {A B : Type 0} → A → B → A × B
a also b = (a, b)

-- ---- each entry of a table of tests stands for the entry of a table of facts
abbrev pub Means : List Bool → List (Type 0) → Type 0
Means [] ts = Unit {0}
Means (b ∷ bs) [] = ⊥
Means (b ∷ bs) (t ∷ ts) = (b ≡ true → t) × Means bs ts

pub means_at : (bs : List Bool) (ts : List (Type 0)) → Means bs ts → (k : ℕ) → get_or bs k false ≡ true → get_or ts k ⊥
means_at [] ts m k h = absurd (false≢true h)
means_at (b ∷ bs) [] m k h = absurd m
means_at (b ∷ bs) (t ∷ ts) m zero h = m.0 h
means_at (b ∷ bs) (t ∷ ts) m (suc k) h = means_at bs ts m.1 k h
