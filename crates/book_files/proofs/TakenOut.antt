-- A premise's file taken out: where it stood, among files in rising numbers. Assumes nothing.
use Prim.Native.Nat.{ℕ, suc, ◌<◌}
use mathlib.Core.Path.{◌≡◌, refl, ap, ◌∙◌, sym}
use mathlib.Core.List.{List, [], ◌∷◌}
use native.Mathlib.Omega.{arith}
use lib.ListN.{length, get_or}
use Rattle.lists.specs.Shift.{removed}
use Rattle.premise.specs.declared.File.{File}
use Rattle.book.specs.Book.{file_for, taken_out}
use Rattle.book_files.specs.Places.{before}
use Rattle.std.specs.Prelude.{None}
use mathlib.Core.Bool.{Bool, true, false}
use native.Mathlib.Numerals.{add-one}
use lib.Dec.{eqb, ltb}
use borrow.Author.Tests.{ltb-true, ltb-false, eqb-true, eqb-false, eq-eqb, ne_eqb}
use Rattle.book.proofs.Files.{found_head, found_tail}
use Rattle.book_files.proofs.Before.{further, front}

module _ (d : File) (premise : ℕ) where
  taken_same : (f : File) (fs : List File) → f.premise ≡ premise → taken_out premise (f ∷ fs) ≡ fs
  unfolding taken_out
  taken_same f fs e = rw (eq-eqb f.premise premise e)

  taken_other : (f : File) (fs : List File) → (f.premise ≡ premise → ⊥) → taken_out premise (f ∷ fs) ≡ f ∷ taken_out premise fs
  unfolding taken_out
  taken_other f fs e = rw (ne_eqb f.premise premise e)

  removed_more : (f : File) (fs : List File) (i : ℕ) → removed (suc i) (f ∷ fs) ≡ f ∷ removed i fs
  unfolding removed
  removed_more f fs i = rw (add-one (suc i), add-one i)

  removed_first : (f : File) (fs : List File) → removed 0 (f ∷ fs) ≡ fs
  unfolding removed
  removed_first f fs = refl

  -- the file that stands there is taken out
  pub taken_here : (fs : List File) → before premise fs < length fs → (get_or fs (before premise fs) d).premise ≡ premise
      → taken_out premise fs ≡ removed (before premise fs) fs
  taken_here [] h e = absurd (omega arith)
  taken_here (f ∷ fs) h e = go (ltb f.premise premise) refl (taken_here fs)
    where
      go : (a : Bool) → ltb f.premise premise ≡ a
          → (before premise fs < length fs → (get_or fs (before premise fs) d).premise ≡ premise
          → taken_out premise fs ≡ removed (before premise fs) fs)
          → taken_out premise (f ∷ fs) ≡ removed (before premise (f ∷ fs)) (f ∷ fs)
      go true t ih =
          let p = further d premise f fs (ltb-true f.premise premise t) in
          let e' : (get_or (f ∷ fs) (suc (before premise fs)) d).premise ≡ premise = ap (λ (n : ℕ). (get_or (f ∷ fs) n d).premise) (sym p) ∙ e in
          taken_other f fs (λ q. omega (arith, q, ltb-true f.premise premise t))
          ∙ ap (λ (l : List File). f ∷ l) (ih (omega (arith, p, h)) e')
          ∙ sym (removed_more f fs (before premise fs))
          ∙ ap (λ (n : ℕ). removed n (f ∷ fs)) (sym p)
      go false t ih =
          let p = front d premise f fs (ltb-false f.premise premise t) in
          let e' : f.premise ≡ premise = ap (λ (n : ℕ). (get_or (f ∷ fs) n d).premise) (sym p) ∙ e in
          taken_same f fs e' ∙ sym (removed_first f fs) ∙ ap (λ (n : ℕ). removed n (f ∷ fs)) (sym p)

  -- none stands there, and none is taken out
  pub taken_elsewhere : (fs : List File) → file_for premise fs ≡ None → taken_out premise fs ≡ fs
  unfolding taken_out file_for
  taken_elsewhere [] e = refl
  taken_elsewhere (f ∷ fs) e = go (eqb f.premise premise) refl (taken_elsewhere fs)
    where
      go : (a : Bool) → eqb f.premise premise ≡ a → (file_for premise fs ≡ None → taken_out premise fs ≡ fs)
          → taken_out premise (f ∷ fs) ≡ f ∷ fs
      go true t ih = let q = found_head premise f fs (eqb-true f.premise premise t) in let z : ◌≡◌ {A = ℕ} 0 1 =
          cc (q, e) in absurd (omega (arith, z))
      go false t ih =
          let n = eqb-false f.premise premise t in
          taken_other f fs n ∙ ap (λ (l : List File). f ∷ l) (ih (sym (found_tail premise f fs n) ∙ e))
