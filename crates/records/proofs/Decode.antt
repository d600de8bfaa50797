-- A field is read from the first bytes alone, and what is read from bytes goes into its field. Assumes nothing.
use Prim.Native.Nat.{ℕ, zero, suc, ◌+◌, ◌≤◌}
use mathlib.Core.Path.{◌≡◌, refl, ap, ◌∙◌}
use mathlib.Core.List.{List, [], ◌∷◌}
use native.Mathlib.Omega.{arith}
use lib.ListN.{take, drop}
use lib.Seq.{take-take, drop-drop}
use Rattle.records.specs.Layout.{Field, Bytes, kind_field, detail_field, day_field, reference_field, premise_field, retailer_field, number}
use Rattle.records.specs.Layout.{record_length, field_of}
use Rattle.records.specs.Notices.{decode, FitsFields}
use Rattle.records.proofs.Fields.{field_below}

take-drop-take : (start width n : ℕ) (bytes : List ℕ) → start + width ≤ n
    → take width (drop start (take n bytes)) ≡ take width (drop start bytes)
take-drop-take zero width n bytes h = take-take width n bytes (omega arith)
take-drop-take (suc start) width zero bytes h = absurd (omega arith)
take-drop-take (suc start) width (suc n) [] h = refl
take-drop-take (suc start) width (suc n) (b ∷ bytes) h = take-drop-take start width n bytes (omega arith)

-- The bytes behind a field do not matter to it.
pub field_of_first : (field : Field) (n : ℕ) (bytes : List ℕ) → field.start + field.width ≤ n
    → field_of field (take n bytes) ≡ field_of field bytes
unfolding field_of
field_of_first field n bytes h = ap number (take-drop-take field.start field.width n bytes h)

-- a field of the record from a place on
pub field_at : (field : Field) (bytes : List ℕ) (at : ℕ) → field.start + field.width ≤ record_length
    → field_of field (take record_length (drop at bytes)) ≡ number (take field.width (drop (at + field.start) bytes))
unfolding field_of
field_at field bytes at h =
    field_of_first field record_length (drop at bytes) h
    ∙ ap (λ (l : List ℕ). number (take field.width l)) (drop-drop field.start at bytes)

-- a notice from bytes: each of its numbers goes into its field
pub decode_fits : (bytes : List ℕ) → Bytes bytes → FitsFields (decode bytes)
unfolding decode
decode_fits bytes b =
    record {
      code = field_below kind_field bytes b;
      kind = field_below detail_field bytes b;
      day = field_below day_field bytes b;
      reference = field_below reference_field bytes b;
      premise = field_below premise_field bytes b;
      addressee = field_below retailer_field bytes b;
    }
