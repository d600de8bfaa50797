-- A file put into a list of files in rising premise numbers, by its number or at the place that has it. Assumes nothing.
use Prim.Native.Nat.{ℕ, zero, suc, ◌≤◌, ◌<◌}
use mathlib.Core.Path.{◌≡◌, refl, ap, sym, ◌∙◌}
use mathlib.Core.List.{List, [], ◌∷◌}
use Rattle.std.specs.Prelude.{Some}
use mathlib.Core.Bool.{Bool, true, false}
use native.Mathlib.Omega.{arith}
use lib.Dec.{eqb, ltb}
use lib.ListN.{length, get_or, set}
use borrow.Author.Tests.{eqb-true, eqb-false, ltb-true, ltb-false, eq-eqb, ne_eqb, lt-ltb, le-ltb}
use Rattle.lists.specs.Search.{Each}
use Rattle.premise.specs.declared.File.{File}
use Rattle.book.specs.Book.{file_for, put_in}
use Rattle.book.proofs.Files.{Rising, found_below, found_head, found_tail, weaken}

module _ (f g : File) (gs : List File) where
  pub put_before : f.premise < g.premise → put_in f (g ∷ gs) ≡ f ∷ g ∷ gs
  unfolding put_in
  put_before h = rw (lt-ltb f.premise g.premise h)

  pub put_over : f.premise ≡ g.premise → put_in f (g ∷ gs) ≡ f ∷ gs
  unfolding put_in
  put_over h = rw (le-ltb f.premise g.premise (omega arith), eq-eqb f.premise g.premise h) refl

  pub put_after : g.premise < f.premise → put_in f (g ∷ gs) ≡ g ∷ put_in f gs
  unfolding put_in
  put_after h = rw (le-ltb f.premise g.premise (omega arith), ne_eqb f.premise g.premise (omega arith))

  -- the three places that a file can take
  by_place : (P : List File → Type 0) → (f.premise < g.premise → P (f ∷ g ∷ gs)) → (f.premise ≡ g.premise → P (f ∷ gs))
      → (g.premise < f.premise → P (g ∷ put_in f gs)) → P (put_in f (g ∷ gs))
  by_place P before over after = go (ltb f.premise g.premise) (eqb f.premise g.premise) refl refl
    where
      go : (a b : Bool) → ltb f.premise g.premise ≡ a → eqb f.premise g.premise ≡ b → P (put_in f (g ∷ gs))
      go true b s t = let h = ltb-true f.premise g.premise s in rw (put_before h) (before h)
      go false true s t = let h = eqb-true f.premise g.premise t in rw (put_over h) (over h)
      go false false s t =
          let h : g.premise < f.premise = omega (arith, ltb-false f.premise g.premise s, eqb-false f.premise g.premise t) in
          rw (put_after h) (after h)

pub put_found : (f : File) (gs : List File) → file_for f.premise (put_in f gs) ≡ Some f
unfolding put_in
put_found f [] = found_head f.premise f [] refl
put_found f (g ∷ gs) =
    by_place f g gs (λ l. file_for f.premise l ≡ Some f)
    (λ h. found_head f.premise f (g ∷ gs) refl)
    (λ h. found_head f.premise f gs refl)
    (λ h. found_tail f.premise g (put_in f gs) (omega arith) ∙ put_found f gs)

pub put_others : (premise : ℕ) (f : File) (gs : List File) → (f.premise ≡ premise → ⊥) → file_for premise (put_in f gs) ≡ file_for premise gs
unfolding put_in
put_others premise f [] n = found_tail premise f [] n
put_others premise f (g ∷ gs) n =
    by_place f g gs (λ l. file_for premise l ≡ file_for premise (g ∷ gs))
    (λ h. found_tail premise f (g ∷ gs) n)
    (λ h. found_tail premise f gs n ∙ sym (found_tail premise g gs (λ e. n (h ∙ e))))
    (λ h. go (eqb g.premise premise) refl (put_others premise f gs n))
  where
    go : (a : Bool) → eqb g.premise premise ≡ a → file_for premise (put_in f gs) ≡ file_for premise gs
        → file_for premise (g ∷ put_in f gs) ≡ file_for premise (g ∷ gs)
    go true t ih = let e = eqb-true g.premise premise t in found_head premise g (put_in f gs) e ∙ sym (found_head premise g gs e)
    go false t ih = let e = eqb-false g.premise premise t in found_tail premise g (put_in f gs) e ∙ ih ∙ sym (found_tail premise g gs e)

pub put_rising : (n : ℕ) (f : File) (gs : List File) → n < f.premise → Rising n gs → Rising n (put_in f gs)
unfolding put_in
put_rising n f [] h r = (h, tt)
put_rising n f (g ∷ gs) h r =
    by_place f g gs (Rising n)
    (λ k. (h, (k, r.1)))
    (λ k. (h, weaken f.premise g.premise gs (omega arith) r.1))
    (λ k. (r.0, put_rising g.premise f gs k r.1))

pub put_each : (Has : File → Type 0) (f : File) (gs : List File) → Has f → Each Has gs → Each Has (put_in f gs)
unfolding put_in
put_each Has f [] h u = (h, tt)
put_each Has f (g ∷ gs) h u = by_place f g gs (Each Has) (λ k. (h, u)) (λ k. (h, u.1)) (λ k. (u.0, put_each Has f gs h u.1))

pub put_length : (f : File) (gs : List File) → length (put_in f gs) ≤ suc (length gs)
unfolding put_in
put_length f [] = omega arith
put_length f (g ∷ gs) =
    by_place f g gs (λ l. length l ≤ suc (length (g ∷ gs))) (λ k. omega arith) (λ k. omega arith) (λ k. omega (arith, put_length f gs))

-- where the number is found, the new file takes the old one's place
pub put_held : (n : ℕ) (f h : File) (gs : List File) → Rising n gs → file_for f.premise gs ≡ Some h → length (put_in f gs) ≡ length gs
unfolding put_in file_for
put_held n f h [] r e = let z : ◌≡◌ {A = ℕ} 0 1 = cc in absurd (omega arith)
put_held n f h (g ∷ gs) r e =
    by_place f g gs (λ l. length l ≡ length (g ∷ gs))
    (λ k.
    let a = found_below f.premise f.premise (g ∷ gs) (omega arith) (k, r.1) in
    let z : ◌≡◌ {A = ℕ} 0 1 = cc in absurd (omega arith))
    (λ k. refl)
    (λ k. ap suc (put_held g.premise f h gs r.1 (sym (found_tail f.premise g gs (omega arith)) ∙ e)))

-- ---- by place: the file at a place is the one that its number finds, and one with its number is put in there
module _ (d : File) where
  rising_at : (n : ℕ) (gs : List File) → Rising n gs → (i : ℕ) → i < length gs → n < (get_or gs i d).premise
  rising_at n [] r i h = absurd (omega arith)
  rising_at n (g ∷ gs) r zero h = r.0
  rising_at n (g ∷ gs) r (suc i) h = omega (arith, r.0, rising_at g.premise gs r.1 i (omega arith))

  pub found_at : (premise n : ℕ) (gs : List File) → Rising n gs → (i : ℕ) → i < length gs → (get_or gs i d).premise ≡ premise
      → file_for premise gs ≡ Some (get_or gs i d)
  found_at premise n [] r i h e = absurd (omega arith)
  found_at premise n (g ∷ gs) r zero h e = found_head premise g gs e
  found_at premise n (g ∷ gs) r (suc i) h e =
      let below = rising_at g.premise gs r.1 i (omega arith) in
      found_tail premise g gs (λ q. omega (arith, q, e, below)) ∙ found_at premise g.premise gs r.1 i (omega arith) e

  pub put_at_lem : (f : File) (n : ℕ) (gs : List File) → Rising n gs → (i : ℕ) → i < length gs → (get_or gs i d).premise ≡ f.premise
      → put_in f gs ≡ set gs i f
  put_at_lem f n [] r i h e = absurd (omega arith)
  put_at_lem f n (g ∷ gs) r zero h e = put_over f g gs (sym e)
  put_at_lem f n (g ∷ gs) r (suc i) h e =
      let below = rising_at g.premise gs r.1 i (omega arith) in
      put_after f g gs (omega (arith, e, below)) ∙ ap (λ (l : List File). g ∷ l) (put_at_lem f g.premise gs r.1 i (omega arith) e)
