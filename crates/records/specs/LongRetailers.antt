-- Document 02, change 7, on bytes that are computed: records and notices of premise 7 with long retailers; proofs/LongRetailers.antt proves
-- them.
use Rattle.std.specs.Prelude.{ℕ, ◌≡◌, List, [], ◌∷◌}
use Rattle.records.specs.declared.Notice.{Notice}
use Rattle.std.specs.Prelude.{Option, Some, None}
use Rattle.records.specs.declared.Record.{Record}
use Rattle.records.specs.Records.{reading}
use Rattle.records.specs.Notices.{encode}

-- bytes by kind or code, detail, day and reference, and what stands in 16 to 23
abbrev bytes : ℕ → ℕ → ℕ → ℕ → List ℕ → List ℕ
bytes kind detail day reference retailer =
    kind ∷ detail ∷ day ∷ 0 ∷ reference ∷ 0 ∷ 0 ∷ 0 ∷ 7 ∷ 0 ∷ 0 ∷ 0 ∷ 0 ∷ 0 ∷ 0 ∷ 0 ∷ retailer

-- the eight bytes of 9,999,999,999,999, of 10,000,000,000,000, of 1,000,000,000,123, of 4,294,967,295 and of 4,294,967,296
abbrev last : List ℕ
last = 255 ∷ 159 ∷ 114 ∷ 78 ∷ 24 ∷ 9 ∷ 0 ∷ 0 ∷ []

abbrev past : List ℕ
past = 0 ∷ 160 ∷ 114 ∷ 78 ∷ 24 ∷ 9 ∷ 0 ∷ 0 ∷ []

abbrev suffixed : List ℕ
suffixed = 123 ∷ 16 ∷ 165 ∷ 212 ∷ 232 ∷ 0 ∷ 0 ∷ 0 ∷ []

abbrev four_bytes : List ℕ
four_bytes = 255 ∷ 255 ∷ 255 ∷ 255 ∷ 0 ∷ 0 ∷ 0 ∷ 0 ∷ []

abbrev five_bytes : List ℕ
five_bytes = 0 ∷ 0 ∷ 0 ∷ 0 ∷ 1 ∷ 0 ∷ 0 ∷ 0 ∷ []

-- a byte in 23 alone
abbrev byte23 : List ℕ
byte23 = 0 ∷ 0 ∷ 0 ∷ 0 ∷ 0 ∷ 0 ∷ 0 ∷ 1 ∷ []

-- they say a record with a retailer, or a counter
abbrev says : ℕ → ℕ → ℕ → ℕ → ℕ → Option Record
says kind detail day reference retailer =
    Some (record { kind = kind; detail = detail; day = day; reference = reference; premise = 7; retailer = retailer })

-- a notice of code 4 on a switch
abbrev losing : ℕ → Notice
losing addressee = record { code = 4; kind = 4; day = 11; reference = 1; premise = 7; addressee = addressee }

pub record LongRetailers : Type 0 where
  pub create : reading (bytes 1 0 0 0 last) ≡ says 1 0 0 0 9999999999999
  pub create_past : reading (bytes 1 0 0 0 past) ≡ None
  pub switch : reading (bytes 3 4 11 1 suffixed) ≡ says 3 4 11 1 1000000000123
  pub switch_past : reading (bytes 3 4 11 1 past) ≡ None
  pub cancel : reading (bytes 8 0 0 1 last) ≡ says 8 0 0 1 9999999999999
  pub agreement : reading (bytes 12 1 0 0 last) ≡ says 12 1 0 0 9999999999999
  pub agreement_past : reading (bytes 12 1 0 0 past) ≡ None
  pub counter : reading (bytes 11 0 11 1 four_bytes) ≡ says 11 0 11 1 4294967295
  pub counter_past : reading (bytes 11 0 11 1 five_bytes) ≡ None
  -- where a kind does not use the field, all eight bytes are zero
  pub retire : reading (bytes 2 0 0 0 byte23) ≡ None
  pub scheduled : reading (bytes 4 0 11 1 byte23) ≡ None
  pub notice : encode (losing 9999999999999) ≡ bytes 4 4 11 1 last
