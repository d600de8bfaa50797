-- Four zero bytes behind a turned record. Assumes nothing.
use Prim.Native.Nat.{ℕ, ◌≤◌}
use mathlib.Core.Path.{◌≡◌, sym, ap, ap₂, ◌∙◌}
use mathlib.Core.List.{List, ◌++◌, append_assoc}
use lib.ListN.{take, drop, length, replicate}
use lib.Seq.{take_at, drop_at, drop-drop}
use Rattle.first_fittings_rules.specs.Layout.{old_length, our_length, turned_record}
use Rattle.first_fittings_rules.specs.Conversions.{to24}
use Rattle.first_fittings_rules.proofs.Turned.{length_record}

pub zeros_behind : (bytes before after zeros : List ℕ) → old_length ≤ length bytes → after ≡ turned_record bytes ++ drop old_length before
    → zeros ≡ replicate 4 0
    → take old_length after ++ (zeros ++ drop 4 (drop old_length after)) ≡ to24.becomes bytes ++ drop our_length before
zeros_behind bytes before after zeros long e z =
    let k = length_record bytes long in
    let front = ap (take old_length) e ∙ take_at (turned_record bytes) (drop old_length before) old_length k in
    let rest = ap (drop old_length) e ∙ drop_at (turned_record bytes) (drop old_length before) old_length k in
    ap₂ (λ (a b : List ℕ). a ++ b) front
    (ap₂ (λ (a b : List ℕ). a ++ b) z (ap (drop 4) rest ∙ drop-drop 4 old_length before))
    ∙ sym (append_assoc (turned_record bytes) (replicate 4 0) (drop our_length before))
