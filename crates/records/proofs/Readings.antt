-- Laws of `reading`: what a reading is, test by test, and what it says of the bytes. Assumes nothing.
use Prim.Native.Nat.{ℕ}
use mathlib.Core.Path.{◌≡◌, refl, sym, subst}
use mathlib.Core.List.{List}
use mathlib.Core.Bool.{Bool, true, false, and-false}
use lib.Dec.{eqb}
use lib.ListN.{length}
use borrow.Author.Tests.{eq-eqb, ne_eqb, eqb-true, eqb-false}
use Rattle.records.specs.declared.Record.{Record}
use Rattle.std.specs.Prelude.{Some, None}
use Rattle.records.specs.Layout.{Bytes, record_length, kind_field, detail_field, day_field, reference_field, premise_field, retailer_field}
use Rattle.records.specs.Layout.{wide, field_of}
use Rattle.records.specs.Records.{well_formed, fields_of, reading_by, reading}
use Rattle.records.specs.Laws.{InWidth, Said, SaidIn}
use Rattle.records.specs.Widths.{OtherLength}
use Rattle.records.proofs.Fields.{field_below}

pub other_length : OtherLength
unfolding reading_by
other_length layout bytes h = simp (ne_eqb (length bytes) record_length h)

module _ (bytes : List ℕ) where
  -- nothing is left behind the wide field
  pub nothing_left : field_of wide.rest bytes ≡ 0
  unfolding field_of
  nothing_left = refl

  pub reading-length : (length bytes ≡ record_length → ⊥) → reading bytes ≡ None
  reading-length h = other_length wide bytes h

  pub reading_unformed : well_formed (fields_of bytes) ≡ false → reading bytes ≡ None
  unfolding reading_by
  reading_unformed h = simp (h, and-false)

  pub reading_says : length bytes ≡ record_length → well_formed (fields_of bytes) ≡ true → reading bytes ≡ Some (fields_of bytes)
  unfolding reading_by
  reading_says l w = simp (nothing_left, eq-eqb (length bytes) record_length l, w)

-- What a reading says of the bytes.
pub reading_said : (bytes : List ℕ) → SaidIn bytes (reading bytes)
reading_said bytes = go (eqb (length bytes) record_length) refl (well_formed (fields_of bytes)) refl
  where
    go : (a : Bool) → eqb (length bytes) record_length ≡ a → (b : Bool) → well_formed (fields_of bytes) ≡ b → SaidIn bytes (reading bytes)
    go true e true w =
        let long = eqb-true (length bytes) record_length e in
        subst (SaidIn bytes) (sym (reading_says bytes long w)) (record { long = long; fields = refl; formed = w })
    go true e false w = subst (SaidIn bytes) (sym (reading_unformed bytes w)) tt
    go false e b w = subst (SaidIn bytes) (sym (reading-length bytes (eqb-false (length bytes) record_length e))) tt

pub says : (bytes : List ℕ) (r : Record) → reading bytes ≡ Some r → Said bytes r
says bytes r e = subst (SaidIn bytes) e (reading_said bytes)

-- and of bytes that are bytes: the record's numbers go into their fields
pub said_in_width : (bytes : List ℕ) (r : Record) → Bytes bytes → Said bytes r → InWidth r
said_in_width bytes r b s =
    rw s.fields record {
      kind = field_below kind_field bytes b;
      detail = field_below detail_field bytes b;
      day = field_below day_field bytes b;
      reference = field_below reference_field bytes b;
      premise = field_below premise_field bytes b;
      retailer = field_below retailer_field bytes b;
    }
