-- Records and notices by either layout: the wide field is the narrow one and the four bytes behind it. Assumes nothing.
use Prim.Native.Nat.{ℕ, ◌+◌, ◌*◌, ◌/◌, ◌≤◌}
use mathlib.Core.Path.{◌≡◌, refl, sym, ap, ap₂, subst, subst⁻¹, ◌∙◌}
use mathlib.Core.List.{List, [], ◌∷◌, ◌++◌}
use mathlib.Core.Bool.{Bool, true, false, cond, ◌&&◌, and-false}
use native.Mathlib.Omega.{arith}
use lib.Dec.{eqb}
use lib.ListN.{length, take, drop}
use lib.Seq.{drop-drop}
use borrow.Author.Tests.{eqb-true, eqb-false, ne_eqb, leb-true, le-leb}
use Rattle.records.specs.declared.Record.{Record}
use Rattle.records.specs.declared.Notice.{Notice}
use Rattle.std.specs.Prelude.{Option, Some, None}
use Rattle.records.specs.Layout.{wide, narrow, record_length, kind_field, detail_field, day_field, reference_field, premise_field}
use Rattle.records.specs.Layout.{number, bytes_of, field_of}
use Rattle.records.specs.Records.{kind_date_change, well_formed_by, fields_by, reading_by}
use Rattle.records.specs.Notices.{encode_by}
use Rattle.records.specs.Widths.{NarrowRetailers, NarrowRetailersOrNone, NarrowRest, NarrowNotice, NarrowCounter, ReadEight}
use Rattle.records.specs.Widths.{BytesOfEight, NamesUpTo, SameFormed, SameReading, NamedUpTo, SaysUpTo, ToUpTo, SameNotices}
use Rattle.records.specs.Laws.{SaidIn}
use Rattle.records.proofs.Ranges.{tested_up_to}
use Rattle.records.proofs.Readings.{nothing_left, reading_said}

-- ---- the narrow layout is document 01's
pub narrow_retailers : NarrowRetailers
narrow_retailers n = tested_up_to 999999999 n

pub narrow_retailers_or_none : NarrowRetailersOrNone
narrow_retailers_or_none n = (leb-true n 999999999, le-leb n 999999999)

pub narrow_rest : NarrowRest
unfolding reading_by
narrow_rest bytes h = simp (ne_eqb (field_of narrow.rest bytes) 0 h, and-false)

pub narrow_notice : NarrowNotice
unfolding encode_by
narrow_notice n = refl

pub narrow_counter : NarrowCounter
narrow_counter n goes = (
  (λ h. ((tested_up_to 4294967295 n).0 h).given),
  (λ given. (tested_up_to 4294967295 n).1 (record { given = given; within = omega (arith, goes) })),
)

-- ---- the bytes
first_eight : (bs : List ℕ) → number (take 8 bs) ≡ number (take 4 bs) + 4294967296 * number (take 4 (drop 4 bs))
first_eight [] = refl
first_eight (a ∷ []) = omega arith
first_eight (a ∷ b ∷ []) = omega arith
first_eight (a ∷ b ∷ c ∷ []) = omega arith
first_eight (a ∷ b ∷ c ∷ d ∷ bs) = omega arith

-- eight bytes from a place on, by the first four and the others; where there are fewer, as many as there are
pub number_eight : (from : ℕ) (bytes : List ℕ)
    → number (take 8 (drop from bytes)) ≡ number (take 4 (drop from bytes)) + 4294967296 * number (take 4 (drop (from + 4) bytes))
number_eight from bytes =
    first_eight (drop from bytes)
    ∙ ap (λ (l : List ℕ). number (take 4 (drop from bytes)) + 4294967296 * number (take 4 l)) (drop-drop 4 from bytes)

pub read_eight : ReadEight
unfolding field_of
read_eight bytes = number_eight 16 bytes

pub bytes_of_eight : BytesOfEight
bytes_of_eight n h =
    let past : n / 256 / 256 / 256 / 256 ≡ 0 = omega arith in
    ap (λ (m : ℕ). bytes_of 4 n ++ bytes_of 4 m) past

-- ---- records
-- of a date change neither asks for the last retailer
abbrev of_kind : Record → ℕ → Record
of_kind r kind = record {
  kind = kind;
  detail = r.detail;
  day = r.day;
  reference = r.reference;
  premise = r.premise;
  retailer = r.retailer;
}

date_change_formed : (r : Record) → r.kind ≡ kind_date_change → well_formed_by narrow r ≡ well_formed_by wide r
unfolding well_formed_by
date_change_formed r e = subst (λ (kind : ℕ). well_formed_by narrow (of_kind r kind) ≡ well_formed_by wide (of_kind r kind)) (sym e) refl

-- any other retailer passes both limits
retailer_formed : (r : Record) → r.retailer ≤ narrow.last_retailer → well_formed_by narrow r ≡ well_formed_by wide r
unfolding well_formed_by
retailer_formed r h =
    rw (le-leb r.retailer narrow.last_retailer h, le-leb r.retailer wide.last_retailer (omega (arith, h))) refl

pub same_formed : SameFormed
same_formed r h = go (eqb r.kind kind_date_change) refl
  where
    go : (b : Bool) → eqb r.kind kind_date_change ≡ b → well_formed_by narrow r ≡ well_formed_by wide r
    go true e = date_change_formed r (eqb-true r.kind kind_date_change e)
    go false e = retailer_formed r (h (eqb-false r.kind kind_date_change e))

retailer_same : (bytes : List ℕ) → field_of narrow.rest bytes ≡ 0 → field_of narrow.retailer bytes ≡ field_of wide.retailer bytes
retailer_same bytes rest = omega (arith, read_eight bytes, rest)

fields_same : (bytes : List ℕ) → field_of narrow.rest bytes ≡ 0 → fields_by narrow bytes ≡ fields_by wide bytes
fields_same bytes rest = λ i. record {
  kind = field_of kind_field bytes;
  detail = field_of detail_field bytes;
  day = field_of day_field bytes;
  reference = field_of reference_field bytes;
  premise = field_of premise_field bytes;
  retailer = retailer_same bytes rest i;
}

pub same_reading : SameReading
unfolding reading_by
same_reading bytes rest names =
    ap₂ (λ (passes : Bool) (r : Record). cond passes (Some r) None)
    (ap₂ (λ (left : ℕ) (formed : Bool). eqb (length bytes) record_length && eqb left 0 && formed) (rest ∙ sym (nothing_left bytes))
    (same_formed (fields_by narrow bytes) names ∙ ap (well_formed_by wide) (fields_same bytes rest)))
    (fields_same bytes rest)

pub says_up_to : SaysUpTo
says_up_to bytes rest names = go (reading_by wide bytes) (reading_said bytes)
  where
    go : (d : Option Record) → SaidIn bytes d → NamedUpTo narrow.last_retailer d
    go None said = tt
    go (Some r) said = subst⁻¹ (NamesUpTo narrow.last_retailer) (said.fields ∙ sym (fields_same bytes rest)) names

-- ---- notices
same_notice : (n : Notice) → ToUpTo narrow.last_retailer n → encode_by narrow n ≡ encode_by wide n
unfolding encode_by
same_notice n h =
    ap (λ (last : List ℕ). bytes_of kind_field.width n.code ++ bytes_of detail_field.width n.kind
    ++ bytes_of day_field.width n.day ++ bytes_of reference_field.width n.reference ++ bytes_of premise_field.width n.premise
    ++ last)
    (sym (bytes_of_eight n.addressee (omega (arith, h))))

pub same_notices_lem : SameNotices
same_notices_lem [] h = refl
same_notices_lem (n ∷ ns) h = ap₂ (λ (first others : List ℕ). first ++ others) (same_notice n h.0) (same_notices_lem ns h.1)
