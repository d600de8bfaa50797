-- What the layers above may rely on about records, as statements; proofs/Ranges.antt, proofs/Formed.antt and proofs/Readings.antt prove
-- them.
use Rattle.std.specs.Prelude.{ℕ, ◌≤◌, ◌<◌, ◌≡◌, ◌↔◌, List, [], ◌∷◌, Bool, true, length, get_or}
use Rattle.days.specs.Days.{last_day}
use Rattle.days.specs.Window.{most_width}
use Rattle.records.specs.declared.Record.{Record}
use Rattle.std.specs.Prelude.{Option, Some, None}
use Rattle.records.specs.Layout.{Field, GoesInto, record_length, kind_field, detail_field, day_field, reference_field, premise_field}
use Rattle.records.specs.Layout.{retailer_field}
use Rattle.records.specs.Records.{kind_new_order, kind_day_mark, kind_date_change, kind_agreement, standard_switch, mass_transition_drop}
use Rattle.records.specs.Records.{reply_reject, delete, last_retailer, last_counter, a_reference, a_premise, a_retailer, a_retailer_or_none}
use Rattle.records.specs.Records.{a_counter, a_window, well_formed, fields_of}

-- What a field holds, as facts; specs/Records.antt has the tests.
abbrev pub Unused : ℕ → Type 0
Unused n = n ≡ 0

abbrev pub ADay : ℕ → Type 0
ADay n = n ≤ last_day

-- a reference or a premise
abbrev pub Given : ℕ → Type 0
Given n = 1 ≤ n

pub record UpTo (last n : ℕ) : Type 0 where
  pub given : 1 ≤ n
  pub within : n ≤ last

abbrev pub ARetailer : ℕ → Type 0
ARetailer = UpTo last_retailer

abbrev pub ARetailerOrNone : ℕ → Type 0
ARetailerOrNone n = n ≤ last_retailer

abbrev pub ACounter : ℕ → Type 0
ACounter = UpTo last_counter

-- a create's detail
abbrev pub AWindow : ℕ → Type 0
AWindow n = n ≤ most_width

-- F and a counter have 32 bits and P 64, and none is 0. The tests of F and P ask "not 0" and leave the bits to the fields; that of a
-- counter, whose field is wider, asks for both. Of what goes into its field each says the documents' whole range.
abbrev pub SaysRange : (ℕ → Bool) → Field → ℕ → Type 0
SaysRange test field last = (n : ℕ) → GoesInto field n → (test n ≡ true) ↔ UpTo last n

abbrev pub ReferenceRange : Type 0
ReferenceRange = SaysRange a_reference reference_field 4294967295

abbrev pub PremiseRange : Type 0
PremiseRange = SaysRange a_premise premise_field 18446744073709551615

abbrev pub CounterRange : Type 0
CounterRange = SaysRange a_counter retailer_field 4294967295

-- Document 02, change 7: "the limit becomes 9,999,999,999,999."
abbrev pub RetailerRange : Type 0
RetailerRange = (n : ℕ) → (a_retailer n ≡ true) ↔ UpTo 9999999999999 n

abbrev pub RetailerOrNoneRange : Type 0
RetailerOrNoneRange = (n : ℕ) → (a_retailer_or_none n ≡ true) ↔ (n ≤ 9999999999999)

-- Document 02, change 2: "1 to 5 business days, and 0 means 2; above 5 gets 3."
abbrev pub WindowRange : Type 0
WindowRange = (n : ℕ) → (a_window n ≡ true) ↔ (n ≤ 5)

-- a new order's day: a day, and 0 for a standard switch
pub record OrderDay (kind day : ℕ) : Type 0 where
  pub within : day ≤ last_day
  pub standard : kind ≡ standard_switch → day ≡ 0

-- the fields beside the kind hold so
pub record Fields (Detail Day Reference Premise Retailer : ℕ → Type 0) (r : Record) : Type 0 where
  pub detail : Detail r.detail
  pub day : Day r.day
  pub reference : Reference r.reference
  pub premise : Premise r.premise
  pub retailer : Retailer r.retailer

-- the facts for the kinds from 0, which is none, to 12
abbrev pub fields_by_kind : Record → List (Type 0)
fields_by_kind r =
    ⊥
    ∷ Fields AWindow ADay Unused Given ARetailerOrNone r
    ∷ Fields Unused Unused Unused Given Unused r
    ∷ Fields (UpTo mass_transition_drop) (OrderDay r.detail) Given Given ARetailer r
    ∷ Fields Unused ADay Given Given Unused r
    ∷ Fields Unused Unused Given Given Unused r
    ∷ Fields Unused Unused Given Given Unused r
    ∷ Fields Unused ADay Given Given Unused r
    ∷ Fields Unused Unused Given Given ARetailer r
    ∷ Fields (UpTo reply_reject) Unused Given Given Unused r
    ∷ Fields Unused ADay Unused Unused Unused r
    ∷ Fields Unused ADay Given Given ACounter r
    ∷ Fields (UpTo delete) Unused Unused Given ARetailer r
    ∷ []

-- What a well-formed record of a kind holds: at a numeral it computes to that kind's `Fields`.
abbrev pub FieldsOfKind : ℕ → Record → Type 0
FieldsOfKind kind r = get_or (fields_by_kind r) kind ⊥

-- what a well-formed record of any kind holds
pub record Formed (r : Record) : Type 0 where
  pub kind : UpTo kind_agreement r.kind
  pub day : r.day ≤ last_day
  pub retailer : (r.kind ≡ kind_date_change → ⊥) → r.retailer ≤ last_retailer
  pub premise : (r.kind ≡ kind_day_mark → ⊥) → 1 ≤ r.premise
  pub reference : kind_new_order ≤ r.kind → r.kind < kind_agreement → (r.kind ≡ kind_day_mark → ⊥) → 1 ≤ r.reference

-- each of a record's numbers goes into its field
pub record InWidth (r : Record) : Type 0 where
  pub kind : GoesInto kind_field r.kind
  pub detail : GoesInto detail_field r.detail
  pub day : GoesInto day_field r.day
  pub reference : GoesInto reference_field r.reference
  pub premise : GoesInto premise_field r.premise
  pub retailer : GoesInto retailer_field r.retailer

-- what is known of bytes that say a record
pub record Said (bytes : List ℕ) (r : Record) : Type 0 where
  pub long : length bytes ≡ record_length
  pub fields : r ≡ fields_of bytes
  pub formed : well_formed r ≡ true

-- of a reading: nothing where the bytes are malformed
abbrev pub SaidIn : List ℕ → Option Record → Type 0
SaidIn bytes None = Unit {0}
SaidIn bytes (Some r) = Said bytes r
