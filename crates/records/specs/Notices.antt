-- Document 01, "Records", its last paragraph: notices use the record's layout.
use Rattle.std.specs.Prelude.{ℕ, zero, suc, ◌*◌, ◌≡◌, List, [], ◌∷◌, ◌++◌, length, take, drop}
use Rattle.records.specs.declared.Notice.{Notice}
use Rattle.records.specs.Layout.{Layout, wide, GoesInto, record_length, kind_field, detail_field, day_field, reference_field}
use Rattle.records.specs.Layout.{premise_field, retailer_field, bytes_of, field_of}

-- The addressee 0 is the TDSP, the wires company.
abbrev pub tdsp : ℕ
tdsp = 0

-- the 24 bytes of a notice: byte 0 the code, detail K, the day, F, P, the addressee
abbrev pub notice_bytes : Layout → Notice → List ℕ
notice_bytes layout n =
    bytes_of kind_field.width n.code
    ++ bytes_of detail_field.width n.kind
    ++ bytes_of day_field.width n.day
    ++ bytes_of reference_field.width n.reference
    ++ bytes_of premise_field.width n.premise
    ++ bytes_of layout.retailer.width n.addressee
    ++ bytes_of layout.rest.width 0

-- the same, shut: the layers above go by its laws
unfoldable pub encode_by : Layout → Notice → List ℕ
encode_by layout n = notice_bytes layout n

abbrev pub encode : Notice → List ℕ
encode = encode_by wide

-- a notice from its bytes
unfoldable pub decode : List ℕ → Notice
decode bytes =
    record {
      code = field_of kind_field bytes;
      kind = field_of detail_field bytes;
      day = field_of day_field bytes;
      reference = field_of reference_field bytes;
      premise = field_of premise_field bytes;
      addressee = field_of retailer_field bytes;
    }

-- each of a notice's numbers goes into its field
pub record FitsFields (n : Notice) : Type 0 where
  pub code : GoesInto kind_field n.code
  pub kind : GoesInto detail_field n.kind
  pub day : GoesInto day_field n.day
  pub reference : GoesInto reference_field n.reference
  pub premise : GoesInto premise_field n.premise
  pub addressee : GoesInto retailer_field n.addressee

-- Reading what was written gives the notice again; proofs/Notices.antt proves it.
abbrev pub ReadsBack : Type 0
ReadsBack = (n : Notice) → FitsFields n → decode (encode n) ≡ n

-- the bytes of a list of notices, one after another
abbrev pub encode_all_by : Layout → List Notice → List ℕ
encode_all_by layout [] = []
encode_all_by layout (n ∷ ns) = encode_by layout n ++ encode_all_by layout ns

abbrev pub encode_all : List Notice → List ℕ
encode_all = encode_all_by wide

-- the first n notices of a buffer, as rows of 24 bytes
abbrev pub rows : ℕ → List ℕ → List (List ℕ)
rows zero buffer = []
rows (suc n) buffer = take record_length buffer ∷ rows n (drop record_length buffer)

-- What a call leaves in the buffer that it was lent: n is the number of notices, the first 24 × n bytes hold them, and the rest stays.
pub record EmitsBy (layout : Layout) (before after : List ℕ) (n : ℕ) (notices : List Notice) : Type 0 where
  pub count : n ≡ length notices
  pub bytes : after ≡ encode_all_by layout notices ++ drop (record_length * length notices) before

abbrev pub Emits : List ℕ → List ℕ → ℕ → List Notice → Type 0
Emits = EmitsBy wide
