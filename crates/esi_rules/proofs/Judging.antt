-- Halves judged one by one from a place on: those before the count are to be digits, the others unused. Assumes nothing.
use Prim.Native.Nat.{ℕ, zero, suc, ◌+◌, ◌*◌, ◌/◌, ◌%◌, ◌≤◌}
use mathlib.Core.Path.{◌≡◌, refl, sym, ap, ap₂, ◌∙◌}
use mathlib.Core.List.{List, [], ◌∷◌}
use mathlib.Core.Bool.{Bool, true, false, ◌&&◌}
use native.Mathlib.Omega.{arith}
use lib.Dec.{ltb}
use lib.ListN.{take, drop}
use borrow.Author.Tests.{lt-ltb, le-ltb}
use Rattle.std.specs.List.{list_all, enumerate_from}
use Rattle.lists.specs.Search.{all_of}
use Rattle.esi_rules.specs.Directory.{halves_kept}
use Rattle.esi_rules.specs.Packed.{is_digit, is_unused, halves, half_kept, byte_kept}

abbrev pub judged : ℕ → ℕ → List ℕ → Bool
judged count from [] = true
judged count from (h ∷ hs) = half_kept (ltb from count) h && judged count (suc from) hs

judged_past : (count from : ℕ) (hs : List ℕ) → count ≤ from → judged count from hs ≡ all_of is_unused hs
judged_past count from [] h = refl
judged_past count from (x ∷ hs) h =
    rw (le-ltb from count h) (ap (λ (b : Bool). is_unused x && b) (judged_past count (suc from) hs (omega arith)))

judged_from : (k from : ℕ) (hs : List ℕ) → judged (from + k) from hs ≡ (all_of is_digit (take k hs) && all_of is_unused (drop k hs))
judged_from zero from hs = judged_past (from + 0) from hs (omega arith)
judged_from (suc k) from [] = refl
judged_from (suc k) from (x ∷ hs) =
    let e : from + suc k ≡ suc from + k = omega arith in
    let t = lt-ltb from (from + suc k) (omega arith) in
    ap₂ (λ (b : Bool) (n : ℕ). half_kept b x && judged n (suc from) hs) t e ∙ (step (is_digit x) (judged (suc from + k) (suc from) hs) (all_of is_digit (take k hs)) (all_of is_unused (drop k hs))
    (judged_from k (suc from) hs))
  where
    step : (a j p q : Bool) → j ≡ (p && q) → (a && j) ≡ ((a && p) && q)
    step true j p q e = e
    step false j p q e = refl

pub judged_all : (count : ℕ) (bytes : List ℕ) → judged count 0 (halves bytes) ≡ halves_kept count bytes
unfolding halves_kept
judged_all count bytes =
    let e : 0 + count ≡ count = omega arith in
    rw e at (judged_from count 0 (halves bytes))

-- ---- a byte at a time: what is left is a byte and a rest
module _ (count i : ℕ) {byte : ℕ} {left rest : List ℕ} (e : left ≡ byte ∷ rest) where
  turn : judged count (2 * i) (halves left) ≡ (byte_kept count i byte && judged count (2 * (i + 1)) (halves rest))
  turn =
      let f : suc (2 * i) ≡ 2 * i + 1 = omega arith in
      let g : suc (suc (2 * i)) ≡ 2 * (i + 1) = omega arith in
      rw e
      (ap₂ (λ (m n : ℕ). half_kept (ltb (2 * i) count) (byte / 16) && (half_kept (ltb m count) (byte % 16) && judged count n (halves rest))) f
      g
      ∙ regroup (half_kept (ltb (2 * i) count) (byte / 16)) (half_kept (ltb (2 * i + 1) count) (byte % 16))
      (judged count (2 * (i + 1)) (halves rest)))
    where
      regroup : (a b c : Bool) → (a && (b && c)) ≡ ((a && b) && c)
      regroup true b c = refl
      regroup false b c = refl

-- all bytes with their places, as std's chain has them
pub judged_chain : (count i : ℕ) (bytes : List ℕ)
    → list_all (λ (p : ℕ × ℕ). byte_kept count p.0 p.1) (enumerate_from i bytes) ≡ judged count (2 * i) (halves bytes)
judged_chain count i [] = refl
judged_chain count i (byte ∷ bytes) =
    ap (λ (b : Bool). byte_kept count i byte && b) (judged_chain count (i + 1) bytes) ∙ sym (turn count i {left = byte ∷ bytes} refl)
