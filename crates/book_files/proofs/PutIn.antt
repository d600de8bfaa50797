-- A file put in by its premise's number, where the premise has none: where it stands then, among files in rising numbers. Assumes nothing.
use Prim.Native.Nat.{ℕ, suc}
use mathlib.Core.Path.{◌≡◌, refl, ap, ◌∙◌, sym}
use mathlib.Core.List.{List, [], ◌∷◌}
use Rattle.std.specs.Prelude.{None}
use mathlib.Core.Bool.{Bool, true, false}
use native.Mathlib.Omega.{arith}
use lib.Dec.{eqb, ltb}
use borrow.Author.Tests.{ltb-true, ltb-false, eqb-true, eqb-false}
use Rattle.lists.specs.Shift.{inserted}
use Rattle.premise.specs.declared.File.{File}
use Rattle.book.specs.Book.{file_for, put_in}
use Rattle.book.proofs.Files.{found_head, found_tail}
use Rattle.book.proofs.FilesPut.{put_before, put_after}
use Rattle.book_files.specs.Places.{before}
use Rattle.book_files.proofs.Before.{further, front}

module _ (d f : File) where
  inserted_more : (g : File) (gs : List File) (i : ℕ) → inserted (suc i) f (g ∷ gs) ≡ g ∷ inserted i f gs
  unfolding inserted
  inserted_more g gs i = refl

  inserted_first : (gs : List File) → inserted 0 f gs ≡ f ∷ gs
  unfolding inserted
  inserted_first gs = refl

  -- where the premise has no file
  pub put_elsewhere : (fs : List File) → file_for f.premise fs ≡ None → put_in f fs ≡ inserted (before f.premise fs) f fs
  unfolding put_in inserted
  put_elsewhere [] e = refl
  put_elsewhere (g ∷ gs) e = go (ltb g.premise f.premise) (eqb g.premise f.premise) refl refl (put_elsewhere gs)
    where
      go : (a same : Bool) → ltb g.premise f.premise ≡ a → eqb g.premise f.premise ≡ same
          → (file_for f.premise gs ≡ None → put_in f gs ≡ inserted (before f.premise gs) f gs)
          → put_in f (g ∷ gs) ≡ inserted (before f.premise (g ∷ gs)) f (g ∷ gs)
      go a true t q ih =
          let s = found_head f.premise g gs (eqb-true g.premise f.premise q) in
          let z : ◌≡◌ {A = ℕ} 0 1 = cc (s, e) in absurd (omega (arith, z))
      go true false t q ih =
          let l = ltb-true g.premise f.premise t in
          put_after f g gs l
          ∙ ap (λ (x : List File). g ∷ x) (ih (sym (found_tail f.premise g gs (eqb-false g.premise f.premise q)) ∙ e))
          ∙ sym (inserted_more g gs (before f.premise gs))
          ∙ ap (λ (n : ℕ). inserted n f (g ∷ gs)) (sym (further d f.premise g gs l))
      go false false t q ih =
          put_before f g gs (omega (arith, ltb-false g.premise f.premise t, eqb-false g.premise f.premise q))
          ∙ sym (inserted_first (g ∷ gs))
          ∙ ap (λ (n : ℕ). inserted n f (g ∷ gs)) (sym (front d f.premise g gs (ltb-false g.premise f.premise t)))
