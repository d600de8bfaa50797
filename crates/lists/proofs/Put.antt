-- A stretch put into a list: none changes nothing, the length stays, and two, one behind the other, are one. Assumes nothing.
use Prim.Native.Nat.{ℕ, ◌+◌, ◌≤◌}
use mathlib.Core.Path.{◌≡◌, sym, ap, ap₂, ◌∙◌}
use mathlib.Core.List.{List, [], ◌++◌, append_assoc, append-nil}
use native.Mathlib.Omega.{arith}
use lib.ListN.{length, take, drop, length-append, length-drop, take-append-drop}
use lib.Seq.{take_at, drop_at, drop-drop, length-take-le}
use Rattle.lists.specs.Put.{put_at}

module _ {X : Type 0} (start : ℕ) where
  pub put_none : (l : List X) → put_at start [] l ≡ l
  put_none l =
      let e : start + 0 ≡ start = omega arith in
      ap (λ (n : ℕ). take start l ++ [] ++ drop n l) e ∙ ap (λ (k : List X). k ++ drop start l) (append-nil (take start l))
      ∙ take-append-drop start l

  -- what stands in front of the rest, by length
  front : (xs l : List X) → start + length xs ≤ length l → length (take start l ++ xs) ≡ start + length xs
  front xs l room = length-append (take start l) xs ∙ omega (arith, length-take-le start l (omega arith))

  pub length_put : (xs l : List X) → start + length xs ≤ length l → length (put_at start xs l) ≡ length l
  length_put xs l room =
      length-append (take start l ++ xs) (drop (start + length xs) l) ∙ omega (arith, front xs l room, length-drop (start + length xs) l)

  pub put_put : (xs ys l : List X) → start + length (xs ++ ys) ≤ length l
      → put_at (start + length xs) ys (put_at start xs l) ≡ put_at start (xs ++ ys) l
  put_put xs ys l room =
      let stop = start + length xs in
      let before = take start l ++ xs in
      let rest = drop stop l in
      let k : length before ≡ stop = front xs l (omega (arith, length-append xs ys)) in
      let joined : stop + length ys ≡ start + length (xs ++ ys) = omega (arith, length-append xs ys) in
      let behind : drop (stop + length ys) (put_at start xs l) ≡ drop (start + length (xs ++ ys)) l =
      sym (drop-drop (length ys) stop (put_at start xs l))
      ∙ ap (drop (length ys)) (drop_at before rest stop k)
      ∙ drop-drop (length ys) stop l
      ∙ ap (λ (i : ℕ). drop i l) joined in
      ap₂ (λ (a r : List X). a ++ ys ++ r) (take_at before rest stop k) behind
      ∙ ap (λ (a : List X). a ++ drop (start + length (xs ++ ys)) l) (append_assoc (take start l) xs ys)
