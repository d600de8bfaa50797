-- The file of a premise taken out of a list of files in rising premise numbers. Assumes nothing.
use Prim.Native.Nat.{ℕ, ◌≤◌}
use mathlib.Core.Path.{◌≡◌, refl, sym, ◌∙◌}
use mathlib.Core.List.{List, [], ◌∷◌}
use Rattle.std.specs.Prelude.{None}
use mathlib.Core.Bool.{Bool, true, false, cond}
use native.Mathlib.Omega.{arith}
use lib.Dec.{eqb}
use lib.ListN.{length}
use borrow.Author.Tests.{eqb-true, eqb-false}
use Rattle.lists.specs.Search.{Each}
use Rattle.premise.specs.declared.File.{File}
use Rattle.book.specs.Book.{file_for, taken_out}
use Rattle.book.proofs.Files.{Rising, found_below, found_head, found_tail, weaken}

module _ (premise : ℕ) (g : File) (gs : List File) where
  by_number : (P : List File → Type 0) → (g.premise ≡ premise → P gs) → ((g.premise ≡ premise → ⊥) → P (g ∷ taken_out premise gs))
      → P (taken_out premise (g ∷ gs))
  unfolding taken_out
  by_number P same other = go (eqb g.premise premise) refl
    where
      go : (a : Bool) → eqb g.premise premise ≡ a → P (cond a gs (g ∷ taken_out premise gs))
      go true t = same (eqb-true g.premise premise t)
      go false t = other (eqb-false g.premise premise t)

pub taken_found : (premise n : ℕ) (gs : List File) → Rising n gs → file_for premise (taken_out premise gs) ≡ None
unfolding taken_out file_for
taken_found premise n [] r = refl
taken_found premise n (g ∷ gs) r =
    by_number premise g gs (λ l. file_for premise l ≡ None)
    (λ e. found_below premise g.premise gs (omega arith) r.1)
    (λ e. found_tail premise g (taken_out premise gs) e ∙ taken_found premise g.premise gs r.1)

pub taken_others : (other premise : ℕ) (gs : List File) → (premise ≡ other → ⊥) → file_for other (taken_out premise gs) ≡ file_for other gs
unfolding taken_out
taken_others other premise [] n = refl
taken_others other premise (g ∷ gs) n =
    by_number premise g gs (λ l. file_for other l ≡ file_for other (g ∷ gs))
    (λ e. sym (found_tail other g gs (λ k. n (sym e ∙ k))))
    (λ e. go (eqb g.premise other) refl (taken_others other premise gs n))
  where
    go : (a : Bool) → eqb g.premise other ≡ a → file_for other (taken_out premise gs) ≡ file_for other gs
        → file_for other (g ∷ taken_out premise gs) ≡ file_for other (g ∷ gs)
    go true t ih = let e = eqb-true g.premise other t in found_head other g (taken_out premise gs) e ∙ sym (found_head other g gs e)
    go false t ih = let e =
        eqb-false g.premise other t in found_tail other g (taken_out premise gs) e ∙ ih ∙ sym (found_tail other g gs e)

pub taken_rising : (n premise : ℕ) (gs : List File) → Rising n gs → Rising n (taken_out premise gs)
unfolding taken_out
taken_rising n premise [] r = tt
taken_rising n premise (g ∷ gs) r =
    by_number premise g gs (Rising n) (λ e. weaken n g.premise gs (omega arith) r.1)
    (λ e. (r.0, taken_rising g.premise premise gs r.1))

pub taken_each : (Has : File → Type 0) (premise : ℕ) (gs : List File) → Each Has gs → Each Has (taken_out premise gs)
unfolding taken_out
taken_each Has premise [] u = tt
taken_each Has premise (g ∷ gs) u = by_number premise g gs (Each Has) (λ e. u.1) (λ e. (u.0, taken_each Has premise gs u.1))

pub taken-length : (premise : ℕ) (gs : List File) → length (taken_out premise gs) ≤ length gs
unfolding taken_out
taken-length premise [] = omega arith
taken-length premise (g ∷ gs) =
    by_number premise g gs (λ l. length l ≤ length (g ∷ gs)) (λ e. omega arith) (λ e. omega (arith, taken-length premise gs))
