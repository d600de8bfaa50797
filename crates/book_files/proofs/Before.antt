-- Where a premise's file stands: the turns of the search for it, and what is found there among files in rising premise numbers. Assumes
-- nothing.
use Prim.Native.Nat.{ℕ, suc, ◌≤◌, ◌<◌}
use mathlib.Core.Path.{◌≡◌, refl, ap, ◌∙◌}
use mathlib.Core.List.{List, [], ◌∷◌}
use Rattle.std.specs.Prelude.{None}
use mathlib.Core.Bool.{Bool, true, false, cond}
use native.Mathlib.Omega.{arith}
use lib.Dec.{ltb}
use lib.ListN.{length, get_or}
use borrow.Author.Tests.{ltb-true, ltb-false, lt-ltb, le-ltb}
use Rattle.premise.specs.declared.File.{File}
use Rattle.book.specs.Book.{file_for}
use Rattle.book.proofs.Files.{Rising, found_below, found_tail}
use Rattle.book_files.specs.Places.{before}

-- ---- a turn of the search: what is left to search is a file and a rest
module _ (premise : ℕ) {f : File} {left rest : List File} (e : left ≡ f ∷ rest) where
  pub before_here : premise ≤ f.premise → before premise left ≡ 0
  before_here h = rw (e, le-ltb f.premise premise h)

  pub before_next : f.premise < premise → before premise left ≡ suc (before premise rest)
  before_next h = rw (e, lt-ltb f.premise premise h)

pub before_within : (premise : ℕ) (fs : List File) → before premise fs ≤ length fs
before_within premise [] = omega arith
before_within premise (f ∷ fs) = go (ltb f.premise premise) (before_within premise fs)
  where
    go : (a : Bool) → before premise fs ≤ length fs → cond a (suc (before premise fs)) 0 ≤ suc (length fs)
    go true h = omega arith
    go false h = omega arith

-- ---- at the place
-- the file at the place is the premise's; another file stands there, or none
abbrev pub Here : File → ℕ → List File → Type 0
Here d premise fs = (before premise fs < length fs) × ((get_or fs (before premise fs) d).premise ≡ premise)

abbrev pub Elsewhere : File → ℕ → List File → Type 0
Elsewhere d premise fs = before premise fs < length fs → (get_or fs (before premise fs) d).premise ≡ premise → ⊥

module _ (d : File) (premise : ℕ) where
  -- the first file stands before, so the place is one further on
  pub further : (f : File) (fs : List File) → f.premise < premise → before premise (f ∷ fs) ≡ suc (before premise fs)
  further f fs h = before_next premise {f = f} {left = f ∷ fs} {rest = fs} refl h

  pub front : (f : File) (fs : List File) → premise ≤ f.premise → before premise (f ∷ fs) ≡ 0
  front f fs h = before_here premise {f = f} {left = f ∷ fs} {rest = fs} refl h

  pub file_elsewhere : (n : ℕ) (fs : List File) → Rising n fs → Elsewhere d premise fs → file_for premise fs ≡ None
  unfolding file_for
  file_elsewhere n [] r e = refl
  file_elsewhere n (f ∷ fs) r e = go (ltb f.premise premise) refl (file_elsewhere f.premise fs r.1)
    where
      go : (a : Bool) → ltb f.premise premise ≡ a → (Elsewhere d premise fs → file_for premise fs ≡ None)
          → file_for premise (f ∷ fs) ≡ None
      go true t ih =
          let p = further f fs (ltb-true f.premise premise t) in
          found_tail premise f fs (λ q. omega (arith, q, ltb-true f.premise premise t))
          ∙ ih (λ h q. e (omega (arith, p, h)) (ap (λ (m : ℕ). (get_or (f ∷ fs) m d).premise) p ∙ q))
      go false t ih =
          let p = front f fs (ltb-false f.premise premise t) in
          let other : f.premise ≡ premise → ⊥ = λ q. e (omega (arith, p)) (ap (λ (m : ℕ). (get_or (f ∷ fs) m d).premise) p ∙ q) in
          found_tail premise f fs other ∙ found_below premise f.premise fs (ltb-false f.premise premise t) r.1
