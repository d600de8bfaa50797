-- A list of files in rising premise numbers, and the file of a premise found in it. Assumes nothing.
use Prim.Native.Nat.{ℕ, ◌≤◌, ◌<◌}
use mathlib.Core.Path.{◌≡◌, refl}
use mathlib.Core.List.{List, [], ◌∷◌}
use Rattle.std.specs.Prelude.{Option, Some, None}
use mathlib.Core.Bool.{Bool, true, false, cond}
use native.Mathlib.Omega.{arith}
use lib.Dec.{eqb, ltb}
use borrow.Author.Tests.{eqb-true, ltb-true, eq-eqb, ne_eqb, lt-ltb}
use Rattle.lists.specs.Search.{Each}
use Rattle.lists.proofs.TestLaws.{and_left, and_right}
use Rattle.premise.specs.declared.File.{File}
use Rattle.premise_laws.specs.Laws.{Held}
use Rattle.book.specs.Book.{rises_from, file_for}

-- ---- rising
-- the numbers rise, and the first is above n
abbrev pub Rising : ℕ → List File → Type 0
Rising n [] = Unit {0}
Rising n (g ∷ gs) = (n < g.premise) × Rising g.premise gs

pub rises_rising : (n : ℕ) (gs : List File) → rises_from n gs ≡ true → Rising n gs
rises_rising n [] e = tt
rises_rising n (g ∷ gs) e = (
  ltb-true n g.premise (and_left (ltb n g.premise) (rises_from g.premise gs) e),
  rises_rising g.premise gs
      (and_right (ltb n g.premise) (rises_from g.premise gs) e),
)

pub rising_rises : (n : ℕ) (gs : List File) → Rising n gs → rises_from n gs ≡ true
rising_rises n [] r = refl
rising_rises n (g ∷ gs) r = rw (lt-ltb n g.premise r.0) (rising_rises g.premise gs r.1)

pub weaken : (m n : ℕ) (gs : List File) → m ≤ n → Rising n gs → Rising m gs
weaken m n [] h r = tt
weaken m n (g ∷ gs) h r = (omega arith, r.1)

-- ---- found
-- a number at or below the one from which a list rises finds nothing
pub found_below : (premise n : ℕ) (gs : List File) → premise ≤ n → Rising n gs → file_for premise gs ≡ None
unfolding file_for
found_below premise n [] h r = refl
found_below premise n (g ∷ gs) h r =
    rw (ne_eqb g.premise premise (omega arith)) (found_below premise g.premise gs (omega arith) r.1)

pub found_head : (premise : ℕ) (g : File) (gs : List File) → g.premise ≡ premise → file_for premise (g ∷ gs) ≡ Some g
unfolding file_for
found_head premise g gs e = rw (eq-eqb g.premise premise e)

pub found_tail : (premise : ℕ) (g : File) (gs : List File) → (g.premise ≡ premise → ⊥) → file_for premise (g ∷ gs) ≡ file_for premise gs
unfolding file_for
found_tail premise g gs e = rw (ne_eqb g.premise premise e)

-- the file found has the number, and what every file of the list has
pub found_has : (Has : File → Type 0) (premise : ℕ) (gs : List File) → Each Has gs
    → Held (λ f. (f.premise ≡ premise) × Has f) (file_for premise gs)
unfolding file_for
found_has Has premise [] u = tt
found_has Has premise (g ∷ gs) u = go (eqb g.premise premise) refl (found_has Has premise gs u.1)
  where
    go : (a : Bool) → eqb g.premise premise ≡ a → Held (λ f. (f.premise ≡ premise) × Has f) (file_for premise gs)
        → Held (λ f. (f.premise ≡ premise) × Has f) (cond a (Some g) (file_for premise gs))
    go true t ih = (eqb-true g.premise premise t, u.0)
    go false t ih = ih

-- .. and so what every file has
pub found_each : (Has : File → Type 0) (premise : ℕ) (gs : List File) → Each Has gs → Held Has (file_for premise gs)
found_each Has premise gs u = go (file_for premise gs) (found_has Has premise gs u)
  where
    go : (file : Option File) → Held (λ f. (f.premise ≡ premise) × Has f) file → Held Has file
    go None h = tt
    go (Some f) h = h.1
