-- Laws of tests: what a test that joins others says of each, and a choice by a test. Assumes nothing.
use mathlib.Core.Path.{◌≡◌, refl, sym, ap₂}
use mathlib.Core.List.{List, [], ◌∷◌}
use mathlib.Core.Bool.{Bool, true, false, cond, ◌&&◌, ◌||◌, false≢true}
use Rattle.lists.specs.Search.{Each}

-- one thing or another: what holds of both holds of the choice
pub by_test : {A : Type 0} (P : A → Type 0) (b : Bool) (x y : A) → (b ≡ true → P x) → (b ≡ false → P y) → P (cond b x y)
by_test P true x y f g = f refl
by_test P false x y f g = g refl

pub and_left : (a b : Bool) → (a && b) ≡ true → a ≡ true
and_left true b h = refl
and_left false b h = h

pub and_right : (a b : Bool) → (a && b) ≡ true → b ≡ true
and_right true b h = h
and_right false b h = absurd (false≢true h)

pub or_left : (a b : Bool) → (a || b) ≡ false → a ≡ false
or_left true b h = h
or_left false b h = refl

pub or_right : (a b : Bool) → (a || b) ≡ false → b ≡ false
or_right true b h = absurd (false≢true (sym h))
or_right false b h = h

-- one of two tests passed: what follows from each follows
pub or_either : {X : Type 0} (a b : Bool) → (a || b) ≡ true → (a ≡ true → X) → (b ≡ true → X) → X
or_either true b h f g = f refl
or_either false b h f g = g h

pub and_other : (a b : Bool) → (a && b) ≡ false → a ≡ true → b ≡ false
and_other true b h e = h
and_other false b h e = absurd (false≢true e)

-- a first test and others, all passed: written with `&&` this is what it computes to
abbrev pub all_pass : Bool → List Bool → Bool
all_pass a [] = a
all_pass a (b ∷ bs) = all_pass (a && b) bs

-- each by itself, the first too
abbrev pub IsTrue : Bool → Type 0
IsTrue b = b ≡ true

pub pass_each : (a : Bool) (bs : List Bool) → all_pass a bs ≡ true → Each IsTrue (a ∷ bs)
pass_each a [] h = (h, tt)
pass_each a (b ∷ bs) h =
    let k = pass_each (a && b) bs h in
    (and_left a b k.0, (and_right a b k.0, k.1))

pub each_pass : (a : Bool) (bs : List Bool) → Each IsTrue (a ∷ bs) → all_pass a bs ≡ true
each_pass a [] h = h.0
each_pass a (b ∷ bs) h = each_pass (a && b) bs (ap₂ (λ (x y : Bool). x && y) h.0 h.1.0, h.1.1)
