-- What the loops that shift an array leave: one element put in, or taken out, with the others moved. Assumes nothing.
use Prim.Native.Nat.{ℕ, suc, ◌+◌, ◌-◌, ◌≤◌, ◌<◌}
use mathlib.Core.Path.{◌≡◌, refl, ap, ◌∙◌, sym}
use mathlib.Core.List.{List, [], ◌∷◌, ◌++◌, append_assoc}
use lib.ListN.{length, take, drop, get_or, set, length-append, length-drop, get_or-append}
use lib.Seq.{paste, set_at, length-take-le, get_or-drop, get_or-append-add, take-append-le, take_at}
use native.Mathlib.Omega.{arith}
use Rattle.std.proofs.lemmas.List.Edits.{paste_all}
use Rattle.lists.proofs.Find.{drop-first, drop-none}
use Rattle.lists.specs.Shift.{inserted, removed}

module _ {X : Type 0} (d : X) (at : ℕ) (l z w : List X) (inside : at ≤ length l) where
  front : length (take at l) ≡ at
  front = length-take-le at l inside

  same-take : (y : List X) → take at (take at l ++ y) ≡ take at (l ++ w)
  same-take y = take_at (take at l) y at front ∙ sym (take-append-le at l w inside)

  at_plus : (y : List X) (k : ℕ) → get_or (take at l ++ y) (at + k) d ≡ get_or y k d
  at_plus y k = rw front at (get_or-append-add (take at l) y k d)

  module _ (f : X) where
    pub inserted-length : length (inserted at f l) ≡ length l + 1
    unfolding inserted
    inserted-length = rw (length-append, front, length-drop) (omega (arith, ap suc (length-drop at l)))

    pub inserted-take : take at (inserted at f l ++ z) ≡ take at (l ++ w)
    unfolding inserted
    inserted-take = rw append_assoc (same-take ((f ∷ drop at l) ++ z))

    pub inserted_at : get_or (inserted at f l ++ z) at d ≡ f
    unfolding inserted
    inserted_at =
        let e : at + 0 ≡ at = omega arith in
        rw append_assoc (rw e at (at_plus ((f ∷ drop at l) ++ z) 0))

    pub inserted_next : (j : ℕ) → at ≤ j → j < length l → get_or (inserted at f l ++ z) (j + 1) d ≡ get_or (l ++ w) j d
    unfolding inserted
    inserted_next j h k =
        let e : at + suc (j - at) ≡ j + 1 = omega arith in
        let g : at + (j - at) ≡ j = omega arith in
        rw append_assoc
        ((rw e at (at_plus ((f ∷ drop at l) ++ z) (suc (j - at))))
        ∙ (get_or-append (drop at l) z d (j - at) (rw length-drop (omega arith))
        ∙ (get_or-drop at l (j - at) d ∙ (rw g (sym (get_or-append l w d j k))))))

  pub removed-length : at < length l → length (removed at l) + 1 ≡ length l
  unfolding removed
  removed-length h = rw (length-append, front, length-drop) (omega arith)

  pub removed-take : take at (removed at l ++ z) ≡ take at (l ++ w)
  unfolding removed
  removed-take = rw append_assoc (same-take (drop (at + 1) l ++ z))

  pub removed_next : (j : ℕ) → at ≤ j → j + 1 < length l → get_or (removed at l ++ z) j d ≡ get_or (l ++ w) (j + 1) d
  unfolding removed
  removed_next j h k =
      let e : at + (j - at) ≡ j = omega arith in
      let g : at + 1 + (j - at) ≡ j + 1 = omega arith in
      rw append_assoc
      ((rw e at (at_plus (drop (at + 1) l ++ z) (j - at)))
      ∙ (get_or-append (drop (at + 1) l) z d (j - at) (rw length-drop (omega arith))
      ∙ (get_or-drop (at + 1) l (j - at) d ∙ (rw g (sym (get_or-append l w d (j + 1) k))))))

-- what is left where those after a place move one place down and another is stored in the last
pub replaced : {X : Type 0} (at : ℕ) (l : List X) (last : ℕ) (o : X) → length l ≡ last + 1 → at ≤ last
    → set (paste l at (drop (at + 1) l) (length l - (at + 1))) last o ≡ removed at l ++ (o ∷ [])
unfolding removed
replaced {X = X} at l last o n h =
    let rest = drop (at + 1) l in
    let k : length l - (at + 1) ≡ length rest = rw length-drop refl in
    let e : at + (length l - (at + 1)) ≡ last = omega arith in
    let m : length (take at l ++ rest) ≡ last = rw (length-append, length-drop) (omega (arith, length-take-le at l (omega arith))) in
    let d = get_or l last o in
    let f : drop last l ≡ d ∷ [] = drop-first o l last (omega arith) ∙ ap (λ (r : List X). d ∷ r) (drop-none l (last + 1) (omega arith)) in
    rw (paste_all l at rest (length l - (at + 1)) k, e, f, ← append_assoc) (set_at (take at l ++ rest) d [] o last m)
