-- A list written over from its start: the laws of loops that store into an array. Assumes nothing.
use Prim.Native.Nat.{ℕ, suc, ◌+◌, ◌-◌, ◌≤◌, ◌<◌}
use mathlib.Core.Path.{◌≡◌, sym, ap, ◌∙◌}
use mathlib.Core.List.{List, [], ◌∷◌, ◌++◌}
use lib.ListN.{length, take, drop, get_or, set, take-append-drop}
use lib.Seq.{set_at, get_or_at, append_snoc, drop-cons, take-suc, length-take-le, get_or-drop, get_or-append-add}
use native.Mathlib.Omega.{arith}
use native.Mathlib.Numerals.{add-one}

-- the first i elements are done, the others as they were: the next is what it was, stays, or is stored
module _ {X : Type 0} (d : X) (done old : List X) (i : ℕ) (l : length done ≡ i) (h : i < length old) where
  next : drop i old ≡ get_or old i d ∷ drop (suc i) old
  next = drop-cons old i d h

  with_next : (x : X) → done ++ (x ∷ drop (suc i) old) ≡ (done ++ (x ∷ [])) ++ drop (i + 1) old
  with_next x = sym (append_snoc done x (drop (suc i) old)) ∙ ap (λ (n : ℕ). (done ++ (x ∷ [])) ++ drop n old) (sym (add-one i))

  pub next_at : get_or (done ++ drop i old) i d ≡ get_or old i d
  next_at = ap (λ (r : List X). get_or (done ++ r) i d) next ∙ get_or_at done (get_or old i d) (drop (suc i) old) d i l

  pub next_stays : done ++ drop i old ≡ (done ++ (get_or old i d ∷ [])) ++ drop (i + 1) old
  next_stays = ap (λ (r : List X). done ++ r) next ∙ with_next (get_or old i d)

  pub next_stored : (x : X) → set (done ++ drop i old) i x ≡ (done ++ (x ∷ [])) ++ drop (i + 1) old
  next_stored x = ap (λ (r : List X). set (done ++ r) i x) next ∙ set_at done (get_or old i d) (drop (suc i) old) x i l ∙ with_next x

-- the first i elements of new, then the others of old
unfoldable pub over : {X : Type 0} → ℕ → List X → List X → List X
over i new old = take i new ++ drop i old

module _ {X : Type 0} (d : X) (new old : List X) where
  pub over_start : (i : ℕ) → take i new ≡ take i old → over i new old ≡ old
  unfolding over
  over_start i e = rw e (take-append-drop i old)

  pub over_end : (i : ℕ) → drop i new ≡ drop i old → over i new old ≡ new
  unfolding over
  over_end i e = rw (← e) (take-append-drop i new)

  pub over_at : (i j : ℕ) → i ≤ j → i ≤ length new → get_or (over i new old) j d ≡ get_or old j d
  unfolding over
  over_at i j h k =
      let e : length (take i new) + (j - i) ≡ j = rw (length-take-le i new k) (omega arith) in
      let f : i + (j - i) ≡ j = omega arith in
      (rw e at (get_or-append-add (take i new) (drop i old) (j - i) d)) ∙ (get_or-drop i old (j - i) d ∙ ap (λ (m : ℕ). get_or old m d) f)

  pub over_set : (i : ℕ) → i < length old → i < length new → set (over i new old) i (get_or new i d) ≡ over (i + 1) new old
  unfolding over
  over_set i h k = rw (
    next_stored d (take i new) old i (length-take-le i new (omega arith)) h (get_or new i d),
    add-one i,
    take-suc new i d
        k,
  )
