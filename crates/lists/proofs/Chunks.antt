-- Pieces of a size, cut from a list: what std's `chunks_exact` gives, in the word that stands in the contract of `as_chunks`.
-- Assumes nothing.
use Prim.Native.Nat.{ℕ, zero, suc, ◌+◌, ◌*◌, ◌/◌, ◌<◌, ◌≤◌}
use mathlib.Core.Path.{◌≡◌, refl, sym, ap, ap₂, ◌∙◌}
use mathlib.Core.List.{List, [], ◌∷◌, ◌++◌}
use mathlib.Core.Bool.{Bool, ◌||◌}
use native.Mathlib.Nat.{div-eq_of_lt, add-div_left, mul-zero, mul-suc, mul-le-mul_left, mul-div-le}
use native.Mathlib.Omega.{arith}
use lib.ListN.{length, take, drop, get_or, length-append, length-drop}
use lib.Seq.{take_at, drop_at, drop-drop, length-take-le}
use denote.Ref.{Bor}
use Rattle.std.specs.Slice.Iter.{chunks_exact_rest, chunks_exact_size, chunks_exact_steps}
use Rattle.std.specs.Prelude.{Option, Some, None}
use Rattle.std.specs.List.{enumerate_from, list_any}
use Rattle.std.specs.Simd.{first_chunks}
use Rattle.std.specs.Iterator.{Yields}
use Rattle.std.specs.Iterator.Adapters.{enumerate_source, enumerate_count, enumerate_steps}
use Rattle.std.proofs.lemmas.List.FromFn.{length-enumerate_from, get_or-enumerate_from}
use Rattle.std.proofs.lemmas.Iterator.{YieldsList}
use Rattle.std.proofs.lemmas.Iterator.Consumers.{YieldsList-from_enumerate, YieldsList-turn, YieldsList-end}
use Rattle.std.proofs.lemmas.Iterator.Splits.{YieldsList-from_shown_while}
use Rattle.lists.specs.Search.{any_of}

-- `any_from_yields_List` ends in std's word
pub any_word : {A : Type 0} (p : A → Bool) (xs : List A) → list_any p xs ≡ any_of p xs
any_word p [] = refl
any_word p (x ∷ xs) = ap (λ (b : Bool). p x || b) (any_word p xs)

module _ {A : Type 0} (size : ℕ) where
  -- all whole pieces of a list
  abbrev pub pieces_of : List A → List (List A)
  pieces_of xs = first_chunks size (length xs / size) xs

  module _ (some : 0 < size) where
    pub pieces_none : (xs : List A) → length xs < size → length (pieces_of xs) ≡ 0
    pieces_none xs h = ap (λ (n : ℕ). length (first_chunks size n xs)) (div-eq_of_lt h)

    pub pieces_some : (xs x rest : List A) → xs ≡ x ++ rest → length x ≡ size → pieces_of xs ≡ x ∷ pieces_of rest
    pieces_some xs x rest e l =
        let long : length xs ≡ size + length rest = omega (arith, ap length e, length-append x rest, l) in
        let n : length xs / size ≡ suc (length rest / size) = omega (arith, ap (λ (k : ℕ). k / size) long, add-div_left (length rest) some) in
        ap (λ (k : ℕ). first_chunks size k xs) n
        ∙ ap₂ (λ (y : List A) (ys : List A). y ∷ first_chunks size (length rest / size) ys) (ap (take size) e ∙ take_at x rest size l)
        (ap (drop size) e ∙ drop_at x rest size l)

    pub YieldsList-from_chunks_exact : (s : _) → chunks_exact_size s ≡ size
        → YieldsList (chunks_exact_steps {A = A}) (λ x. x.now) s (pieces_of (chunks_exact_rest s))
    YieldsList-from_chunks_exact s e =
        YieldsList-from_shown_while (chunks_exact_steps {A = A}) (λ x. x.now) (λ t. pieces_of (chunks_exact_rest t))
        (λ t. chunks_exact_size t ≡ size)
        (λ t u k h. pieces_none (chunks_exact_rest t) (omega (arith, h.1.0, k)))
        (λ t x u k h. (h.0 ∙ k, pieces_some (chunks_exact_rest t) x.now (chunks_exact_rest u) h.1.0 (h.1.1 ∙ k)))
        s e

  -- the piece at a place
  pub piece_at : (n k : ℕ) (xs d : List A) → k < n → get_or (first_chunks size n xs) k d ≡ take size (drop (size * k) xs)
  piece_at zero k xs d h = absurd (omega arith)
  piece_at (suc n) zero xs d h = ap (λ (j : ℕ). take size (drop j xs)) (sym (mul-zero size))
  piece_at (suc n) (suc k) xs d h =
      let e : size + size * k ≡ size * suc k = omega (arith, mul-suc size k) in
      piece_at n k (drop size xs) d (omega arith)
      ∙ ap (take size) (drop-drop (size * k) size xs ∙ ap (λ (j : ℕ). drop j xs) e)

  pub length-pieces : (n : ℕ) (xs : List A) → length (first_chunks size n xs) ≡ n
  length-pieces zero xs = refl
  length-pieces (suc n) xs = ap suc (length-pieces n (drop size xs))

-- ---- a `for` over the pieces with their places, which has given some of them
-- what a turn gives, and that it is inside
pub record Piece {A : Type 0} (size : ℕ) (xs : List A) (k i : ℕ) (x : List A) : Type 0 where
  pub below : k < length xs / size
  pub place : i ≡ k
  pub is : x ≡ take size (drop (size * k) xs)
  pub long : length x ≡ size

module _ {A : Type 0} (size : ℕ) (some : 0 < size) (xs : List A) (s : _) (count : enumerate_count s ≡ 0)
    (sized : chunks_exact_size (enumerate_source s) ≡ size) (rest : chunks_exact_rest (enumerate_source s) ≡ xs)
    (given : List (ℕ × Bor (List A))) (t : _) (y : Yields (enumerate_steps (chunks_exact_steps {A = A})) s given t)
  where
    road : YieldsList (enumerate_steps (chunks_exact_steps {A = A})) (λ p. (p.0, p.1.now)) s (enumerate_from 0 (pieces_of size xs))
    road =
        rw (ap (pieces_of size) (sym rest))
        (YieldsList-from_enumerate (YieldsList-from_chunks_exact size some (enumerate_source s) sized) count)

    pub piece_turn : (r : Option (ℕ × Bor (List A))) (u : _) (x : ℕ × Bor (List A)) → r ≡ Some x → enumerate_steps (chunks_exact_steps {A = A}) t r u
        → Piece size xs (length given) x.0 x.1.now
    piece_turn r u x e h =
        let n = length xs / size in
        let turn = YieldsList-turn road given t y r u x e h in
        let below : length given < n = omega (arith, turn.0, length-enumerate_from 0 (pieces_of size xs), length-pieces size n xs) in
        let at : ◌≡◌ {A = ℕ × List A} (x.0, x.1.now) (0 + length given, get_or (pieces_of size xs) (length given) x.1.now) =
        turn.1 ∙ get_or-enumerate_from 0 (pieces_of size xs) (length given) (x.0, x.1.now) (omega (arith, length-pieces size n xs)) in
        let is = ap (λ (p : ℕ × List A). p.1) at ∙ piece_at size n (length given) xs x.1.now below in
        let inside : size * length given + size ≤ length xs =
        omega (arith, mul-suc size (length given), mul-le-mul_left {m = suc (length given)} {n = n} size below, mul-div-le (length xs) size) in
        record {
          below = below;
          place = omega (arith, ap (λ (p : ℕ × List A). p.0) at);
          is = is;
          long =
              ap length is ∙ length-take-le size (drop (size * length given) xs) (omega (arith, length-drop (size * length given) xs, inside));
        }

    pub pieces_end : (r : Option (ℕ × Bor (List A))) (u : _) → r ≡ None → enumerate_steps (chunks_exact_steps {A = A}) t r u
        → length given ≡ length xs / size
    pieces_end r u e h =
        (YieldsList-end road given t y r u e h).1
        ∙ length-enumerate_from 0 (pieces_of size xs)
        ∙ length-pieces size (length xs / size) xs
