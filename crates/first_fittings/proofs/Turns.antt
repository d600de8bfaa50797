-- The loop that turns a record: byte by byte, with the rest as it was. Assumes nothing.
use Prim.Native.Nat.{ℕ, ◌+◌, ◌≤◌, ◌<◌}
use mathlib.Core.Path.{◌≡◌, refl, sym, ap, ◌∙◌}
use mathlib.Core.List.{List, ◌++◌}
use native.Mathlib.Omega.{arith}
use lib.ListN.{length, drop, get_or, set, length-append, length-set, get_or-append}
use lib.Seq.{drop_at}
use Rattle.lists.proofs.Over.{over, over_start, over_set, over_end}
use Rattle.first_fittings_rules.specs.Layout.{old_length, turned_record}
use Rattle.first_fittings_rules.proofs.Turned.{length_record}
use Rattle.first_fittings.proofs.Places.{places, turned_at}

-- a buffer with a turned record at its front
abbrev turned_over : List ℕ → List ℕ → List ℕ
turned_over bytes before = turned_record bytes ++ drop old_length before

-- after i bytes
pub record Turning (bytes before now : List ℕ) (i : ℕ) : Type 0 where
  pub within : i ≤ old_length
  pub long : length now ≡ length before
  pub so_far : now ≡ over i (turned_over bytes before) before

module _ (bytes before : List ℕ) where
  pub turning_start : Turning bytes before before 0
  turning_start = record { within = omega arith; long = refl; so_far = sym (over_start 0 (turned_over bytes before) before 0 refl) }

  module _ (k : old_length ≤ length bytes) (room : old_length ≤ length before) (now : List ℕ) (i : ℕ) (t : Turning bytes before now i) where
    front : length (turned_record bytes) ≡ old_length
    front = length_record bytes k

    pub turning_more : i < old_length → Turning bytes before (set now i (get_or bytes (get_or places i 0) 0)) (i + 1)
    turning_more h =
        let whole = turned_over bytes before in
        let e : get_or bytes (get_or places i 0) 0 ≡ get_or whole i 0 =
        sym (get_or-append (turned_record bytes) (drop old_length before) 0 i (omega (arith, front)) ∙ turned_at i h bytes k) in
        record {
          within = omega arith;
          long = length-set now i _ ∙ t.long;
          so_far =
              ap (λ (l : List ℕ). set l i (get_or bytes (get_or places i 0) 0)) t.so_far
              ∙ ap (set (over i whole before) i) e
              ∙ over_set 0 whole before i (omega arith) (omega (arith, front, length-append (turned_record bytes) (drop old_length before)));
        }

    pub turning_end : old_length ≤ i → now ≡ turned_record bytes ++ drop old_length before
    turning_end h =
        let done : i ≡ old_length = omega arith in
        t.so_far
        ∙ ap (λ (n : ℕ). over n (turned_over bytes before) before) done
        ∙ over_end 0 (turned_over bytes before) before old_length (drop_at (turned_record bytes) (drop old_length before) old_length front)
