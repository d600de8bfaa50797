-- Another file, or none, put in the place of a premise; and lists of files told apart by what they find. Assumes nothing.
use Prim.Native.Nat.{ℕ, ◌<◌}
use mathlib.Core.Path.{◌≡◌, refl, ap, sym, ◌∙◌}
use mathlib.Core.List.{List, [], ◌∷◌}
use Rattle.std.specs.Prelude.{Option, Some, None}
use mathlib.Core.Bool.{Bool, true, false}
use native.Mathlib.Omega.{arith}
use lib.Dec.{eqb, ltb}
use borrow.Author.Tests.{eqb-true, eqb-false, ltb-true, ltb-false}
use Rattle.lists.specs.Search.{Each}
use Rattle.premise.specs.declared.File.{File}
use Rattle.premise_laws.specs.Laws.{Held}
use Rattle.book.specs.Book.{file_for, put_in, with_file}
use Rattle.book.proofs.Files.{Rising, found_below, found_head, found_tail, found_has}
use Rattle.book.proofs.FilesPut.{put_found, put_others, put_rising, put_each}
use Rattle.book.proofs.FilesTaken.{taken_found, taken_others, taken_rising, taken_each}

-- ---- another file, or none, for a premise
abbrev pub Numbered : ℕ → Option File → Type 0
Numbered premise file = Held (λ f. f.premise ≡ premise) file

pub with_found : (premise n : ℕ) (file : Option File) (gs : List File) → Rising n gs → Numbered premise file
    → file_for premise (with_file premise file gs) ≡ file
with_found premise n None gs r e = taken_found premise n gs r
with_found premise n (Some f) gs r e = ap (λ p. file_for p (put_in f gs)) (sym e) ∙ put_found f gs

pub with_others : (other premise : ℕ) (file : Option File) (gs : List File) → (premise ≡ other → ⊥) → Numbered premise file
    → file_for other (with_file premise file gs) ≡ file_for other gs
with_others other premise None gs n e = taken_others other premise gs n
with_others other premise (Some f) gs n e = put_others other f gs (λ k. n (sym e ∙ k))

pub with_rising : (premise : ℕ) (file : Option File) (gs : List File) → 0 < premise → Rising 0 gs → Numbered premise file
    → Rising 0 (with_file premise file gs)
with_rising premise None gs h r e = taken_rising 0 premise gs r
with_rising premise (Some f) gs h r e = put_rising 0 f gs (omega arith) r

pub with_each : (Has : File → Type 0) (premise : ℕ) (file : Option File) (gs : List File) → Held Has file → Each Has gs
    → Each Has (with_file premise file gs)
with_each Has premise None gs h u = taken_each Has premise gs u
with_each Has premise (Some f) gs h u = put_each Has f gs h u

-- ---- a list by what it finds
no_head : (h : File) (hs : List File) → file_for h.premise (h ∷ hs) ≡ None → ⊥
no_head h hs e = let a = found_head h.premise h hs refl in let z : ◌≡◌ {A = ℕ} 0 1 = cc in omega arith

no_less : (g h : File) (gs hs : List File) → Rising h.premise hs → file_for g.premise (g ∷ gs) ≡ file_for g.premise (h ∷ hs)
    → g.premise < h.premise → ⊥
no_less g h gs hs s e l = no_head g gs (e ∙ found_below g.premise g.premise (h ∷ hs) (omega arith) (l, s))

same_tails : (premise : ℕ) (g h : File) (gs hs : List File) → Rising g.premise gs → Rising h.premise hs → g.premise ≡ h.premise
    → file_for premise (g ∷ gs) ≡ file_for premise (h ∷ hs) → file_for premise gs ≡ file_for premise hs
same_tails premise g h gs hs r s k e = go (ltb g.premise premise) refl
  where
    go : (a : Bool) → ltb g.premise premise ≡ a → file_for premise gs ≡ file_for premise hs
    go true t =
        let l = ltb-true g.premise premise t in
        sym (found_tail premise g gs (omega arith)) ∙ e ∙ found_tail premise h hs (omega arith)
    go false t =
        let l = ltb-false g.premise premise t in
        found_below premise g.premise gs l r ∙ sym (found_below premise h.premise hs (omega arith) s)

-- Two rising lists in which every number in range finds the same are one list.
pub same_files : (In : ℕ → Type 0) (m n : ℕ) (gs hs : List File) → Rising m gs → Rising n hs
    → Each (λ f. In f.premise) gs → Each (λ f. In f.premise) hs
    → ((premise : ℕ) → In premise → file_for premise gs ≡ file_for premise hs) → gs ≡ hs
unfolding file_for
same_files In m n [] [] r s u v e = refl
same_files In m n [] (h ∷ hs) r s u v e = absurd (no_head h hs (sym (e h.premise v.0)))
same_files In m n (g ∷ gs) [] r s u v e = absurd (no_head g gs (e g.premise u.0))
same_files In m n (g ∷ gs) (h ∷ hs) r s u v e =
    let x = no_less g h gs hs s.1 (e g.premise u.0) in
    let y = no_less h g hs gs r.1 (sym (e h.premise v.0)) in
    let k : g.premise ≡ h.premise = omega (arith, x, y) in
    let t = same_files In g.premise h.premise gs hs r.1 s.1 u.1 v.1
    (λ premise i. same_tails premise g h gs hs r.1 s.1 k (e premise i)) in
    let a = found_head g.premise g gs refl in
    let b = found_head g.premise h hs (sym k) in
    let c = e g.premise u.0 in
    cc

every : (gs : List File) → Each (λ f. Unit {0}) gs
every [] = tt
every (g ∷ gs) = (tt, every gs)

-- the file that is found, put in again, leaves the files as they are
pub with_same : (premise : ℕ) (gs : List File) → 0 < premise → Rising 0 gs → with_file premise (file_for premise gs) gs ≡ gs
with_same premise gs h r =
    same_files (λ p. Unit {0}) 0 0 (with_file premise (file_for premise gs) gs) gs (with_rising premise (file_for premise gs) gs h r numbered)
    r (every (with_file premise (file_for premise gs) gs)) (every gs) same
  where
    unpair : (file : Option File) → Held (λ f. (f.premise ≡ premise) × Unit {0}) file → Numbered premise file
    unpair None u = tt
    unpair (Some f) u = u.0

    numbered : Numbered premise (file_for premise gs)
    numbered = unpair (file_for premise gs) (found_has (λ f. Unit {0}) premise gs (every gs))

    same : (other : ℕ) → Unit {0} → file_for other (with_file premise (file_for premise gs) gs) ≡ file_for other gs
    same other i = go (eqb premise other) refl
      where
        go : (a : Bool) → eqb premise other ≡ a → file_for other (with_file premise (file_for premise gs) gs) ≡ file_for other gs
        go true t =
            let e = eqb-true premise other t in
            ap (λ p. file_for p (with_file premise (file_for premise gs) gs)) (sym e) ∙ with_found premise 0 (file_for premise gs) gs r numbered
            ∙ ap (λ p. file_for p gs) e
        go false t = with_others other premise (file_for premise gs) gs (eqb-false premise other t) numbered
