-- Document 01, "Records": 24 bytes, low byte first, no header. Each field's place and width stands here and nowhere else; the retailer's is
-- document 02's, change 7.
use Rattle.std.specs.Prelude.{ℕ, zero, suc, ◌+◌, ◌*◌, ◌/◌, ◌%◌, ◌^◌, ◌<◌, List, [], ◌∷◌, take, drop}

abbrev pub record_length : ℕ
record_length = 24

-- a field: its first byte, and how many it has
pub record Field : Type 0 where
  pub start : ℕ
  pub width : ℕ

-- 0 record kind; 1 detail; 2–3 day; 4–7 F; 8–15 P
abbrev pub kind_field : Field
kind_field = record { start = 0; width = 1 }

abbrev pub detail_field : Field
detail_field = record { start = 1; width = 1 }

abbrev pub day_field : Field
day_field = record { start = 2; width = 2 }

abbrev pub reference_field : Field
reference_field = record { start = 4; width = 4 }

abbrev pub premise_field : Field
premise_field = record { start = 8; width = 8 }

-- Where the retailer stands, what is left of the 24 bytes behind it, zero in every record and notice, and the last retailer. Document 02,
-- change 7, compares two.
pub record Layout : Type 0 where
  pub retailer : Field
  pub rest : Field
  pub last_retailer : ℕ

-- Change 7: "The retailer field becomes 64 bits in bytes 16 to 23 of records and notices, and the limit becomes 9,999,999,999,999." Nothing
-- is left behind it.
abbrev pub wide : Layout
wide = record { retailer = record { start = 16; width = 8 }; rest = record { start = 24; width = 0 }; last_retailer = 9999999999999 }

-- Document 01, which it overrides: "16–19 retailer; 20–23 zero", "Retailers are 1 to 999,999,999".
abbrev pub narrow : Layout
narrow = record { retailer = record { start = 16; width = 4 }; rest = record { start = 20; width = 4 }; last_retailer = 999999999 }

-- the layout in force is the wide one
abbrev pub retailer_field : Field
retailer_field = wide.retailer

-- a number goes into a field
abbrev pub GoesInto : Field → ℕ → Type 0
GoesInto field n = n < 256 ^ field.width

-- every number of a list is a byte
abbrev pub Bytes : List ℕ → Type 0
Bytes [] = Unit {0}
Bytes (b ∷ bs) = (b < 256) × Bytes bs

-- the number that some bytes give, low byte first
abbrev pub number : List ℕ → ℕ
number [] = 0
number (b ∷ bs) = b + 256 * number bs

-- a number in so many bytes, low byte first
abbrev pub bytes_of : ℕ → ℕ → List ℕ
bytes_of zero n = []
bytes_of (suc width) n = n % 256 ∷ bytes_of width (n / 256)

-- what a field of some bytes holds
unfoldable pub field_of : Field → List ℕ → ℕ
field_of field bytes = number (take field.width (drop field.start bytes))
