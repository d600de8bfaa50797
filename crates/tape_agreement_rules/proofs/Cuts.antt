-- A tape cut into its records, from a place on: one and the others, or none that is well formed. Assumes nothing.
use Prim.Native.Nat.{ℕ, zero, suc, ◌+◌, ◌-◌, ◌<◌, ◌≤◌}
use mathlib.Core.Path.{◌≡◌, ap, sym, ◌∙◌}
use mathlib.Core.List.{List, [], ◌∷◌}
use native.Mathlib.Omega.{arith}
use lib.ListN.{length, take, drop, length-drop}
use lib.Seq.{drop-drop}
use Rattle.lists.specs.Search.{Each}
use Rattle.records.specs.Layout.{Bytes, record_length}
use Rattle.book.specs.CallsInRow.{records_of}
use Rattle.book.proofs.CallsInRow.{records_next, records_none, records_bytes}
use Rattle.tape_agreement_rules.specs.Agreement.{records_in}

-- any limit that is no less than a tape's length is as good
enough : (most more : ℕ) (tape : List ℕ) → length tape ≤ most → length tape ≤ more → records_of most tape ≡ records_of more tape
enough zero more [] h k = sym (records_none more)
enough zero more (byte ∷ tape) h k = absurd (omega arith)
enough (suc most) more [] h k = sym (records_none more)
enough (suc most) zero (byte ∷ tape) h k = absurd (omega arith)
enough (suc most) (suc more) (byte ∷ tape) h k =
    let l = length-drop record_length (byte ∷ tape) in
    ap (λ (rs : List (List ℕ)). take record_length (byte ∷ tape) ∷ rs)
    (enough most more (drop record_length (byte ∷ tape)) (omega (arith, l)) (omega (arith, l)))

cut_first : (tape : List ℕ) → 0 < length tape → records_in tape ≡ take record_length tape ∷ records_in (drop record_length tape)
cut_first tape h =
    let l = length-drop record_length tape in
    records_next (length tape) tape h h
    ∙ ap (λ (rs : List (List ℕ)). take record_length tape ∷ rs)
    (enough (length tape - 1) (length (drop record_length tape)) (drop record_length tape) (omega (arith, l)) (omega arith))

-- from a place on: the record there, and those behind it
pub cut_at : (tape : List ℕ) (at : ℕ) → at < length tape
    → records_in (drop at tape) ≡ take record_length (drop at tape) ∷ records_in (drop (at + record_length) tape)
cut_at tape at h =
    cut_first (drop at tape) (omega (arith, length-drop at tape))
    ∙ ap (λ (rest : List ℕ). take record_length (drop at tape) ∷ records_in rest) (drop-drop record_length at tape)

-- every record of a tape of bytes is bytes
pub cut_bytes : (tape : List ℕ) → Bytes tape → Each Bytes (records_in tape)
cut_bytes tape u = records_bytes (length tape) tape u
