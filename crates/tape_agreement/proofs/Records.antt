-- The records of a tape are its whole pieces of 24 bytes, and maybe a short last one, which says nothing. Assumes nothing.
use Prim.Native.Nat.{ℕ, zero, suc, ◌/◌, ◌<◌}
use mathlib.Core.Path.{◌≡◌, refl, ap, ◌∙◌}
use mathlib.Core.List.{List, [], ◌∷◌, ◌++◌}
use native.Mathlib.Omega.{arith}
use lib.ListN.{length, take, drop, length-take, length-drop}
use Rattle.std.specs.List.{fold}
use Rattle.std.specs.Simd.{first_chunks}
use Rattle.std.specs.Prelude.{None}
use Rattle.lists.specs.Search.{Each}
use Rattle.lists.proofs.Find.{drop-none}
use Rattle.lists.proofs.Chunks.{pieces_of}
use Rattle.records.specs.Layout.{record_length}
use Rattle.records.specs.Records.{reading}
use Rattle.records.proofs.Readings.{reading-length}
use Rattle.tape_agreement_rules.specs.Agreement.{records_in}
use Rattle.tape_agreement_rules.proofs.Cuts.{cut_at}
use Rattle.tape_agreement.specs.Walks.{nearer, nearest}

-- bytes that say nothing
abbrev Malformed : List ℕ → Type 0
Malformed bytes = reading bytes ≡ None

record Cut (n : ℕ) (tape : List ℕ) : Type 0 where
  left : List (List ℕ)
  whole : records_in tape ≡ first_chunks record_length n tape ++ left
  short : Each Malformed left

cut_short : (tape : List ℕ) → length tape < record_length → Cut 0 tape
cut_short [] h = record { left = []; whole = refl; short = tt }
cut_short (byte ∷ tape) h =
    let bytes = take record_length (byte ∷ tape) in
    let e : records_in (byte ∷ tape) ≡ bytes ∷ [] =
    cut_at (byte ∷ tape) 0 (omega arith)
    ∙ ap (λ (rest : List ℕ). bytes ∷ records_in rest) (drop-none (byte ∷ tape) record_length (omega arith)) in
    record {
      left = bytes ∷ [];
      whole = e;
      short = (reading-length bytes (λ l. omega (arith, l, length-take record_length (byte ∷ tape))), tt);
    }

cut : (n : ℕ) (tape : List ℕ) → length tape / record_length ≡ n → Cut n tape
cut zero tape e = cut_short tape (omega arith)
cut (suc n) tape e =
    let rest = drop record_length tape in
    let l = length-drop record_length tape in
    let c = cut n rest (omega arith) in
    record {
      left = c.left;
      whole = cut_at tape 0 (omega arith) ∙ ap (λ (rs : List (List ℕ)). take record_length tape ∷ rs) c.whole;
      short = c.short;
    }

-- ---- the nearest premise
module _ (last : ℕ) where
  abbrev pub nearer_step : ℕ → List ℕ → ℕ
  nearer_step so_far bytes = nearer last so_far (reading bytes)

  nearest_short : (so_far : ℕ) (left : List (List ℕ)) → Each Malformed left → nearest last so_far left ≡ so_far
  nearest_short so_far [] s = refl
  nearest_short so_far (bytes ∷ left) s = rw s.0 (nearest_short so_far left s.1)

  nearest_folded : (so_far : ℕ) (rs left : List (List ℕ)) → Each Malformed left → nearest last so_far (rs ++ left) ≡ fold nearer_step so_far rs
  nearest_folded so_far [] left s = nearest_short so_far left s
  nearest_folded so_far (bytes ∷ rs) left s = nearest_folded (nearer_step so_far bytes) rs left s

  pub nearest_pieces : (limit : ℕ) (tape : List ℕ) → nearest last limit (records_in tape) ≡ fold nearer_step limit (pieces_of record_length tape)
  nearest_pieces limit tape =
      let c = cut (length tape / record_length) tape refl in
      ap (nearest last limit) c.whole ∙ nearest_folded limit (pieces_of record_length tape) c.left c.short
