-- Document 02, change 7: what records and notices are by either layout, as statements; proofs/Widths.antt proves them.
use Rattle.std.specs.Prelude.{ℕ, ◌+◌, ◌*◌, ◌≤◌, ◌<◌, ◌≡◌, ◌↔◌, List, [], ◌∷◌, ◌++◌, true, length, drop}
use Rattle.lists.specs.Search.{Each}
use Rattle.records.specs.declared.Record.{Record}
use Rattle.records.specs.declared.Notice.{Notice}
use Rattle.std.specs.Prelude.{Option, Some, None}
use Rattle.records.specs.Layout.{Layout, wide, narrow, record_length, GoesInto, bytes_of, field_of}
use Rattle.records.specs.Records.{kind_date_change, a_retailer_by, a_retailer_or_none_by, a_counter, well_formed_by, fields_by, reading_by}
use Rattle.records.specs.Laws.{Given, UpTo}
use Rattle.records.specs.Notices.{encode_by, encode_all_by}

-- ---- the narrow layout is document 01's
-- "Retailers are 1 to 999,999,999"
abbrev pub NarrowRetailers : Type 0
NarrowRetailers = (n : ℕ) → (a_retailer_by narrow n ≡ true) ↔ UpTo 999999999 n

abbrev pub NarrowRetailersOrNone : Type 0
NarrowRetailersOrNone = (n : ℕ) → (a_retailer_or_none_by narrow n ≡ true) ↔ (n ≤ 999999999)

-- "20–23 zero", whatever the kind
abbrev pub NarrowRest : Type 0
NarrowRest =
    (bytes : List ℕ) → (field_of (record { start = 20; width = 4 }) bytes ≡ 0 → ⊥) → reading_by narrow bytes ≡ None

abbrev pub NarrowNotice : Type 0
NarrowNotice = (n : Notice) → drop 20 (encode_by narrow n) ≡ 0 ∷ 0 ∷ 0 ∷ 0 ∷ []

-- Of four bytes the counter's test asks "not 0" and no more.
abbrev pub NarrowCounter : Type 0
NarrowCounter = (n : ℕ) → GoesInto narrow.retailer n → (a_counter n ≡ true) ↔ Given n

-- ---- the bytes
-- what bytes 16 to 23 hold is what 16 to 19 hold, and 2³² times what 20 to 23 hold
abbrev pub ReadEight : Type 0
ReadEight =
    (bytes : List ℕ) → field_of wide.retailer bytes ≡ field_of narrow.retailer bytes + 4294967296 * field_of narrow.rest bytes

-- eight bytes of a number of 32 bits are its four and four zeros
abbrev pub BytesOfEight : Type 0
BytesOfEight = (n : ℕ) → n < 4294967296 → bytes_of 8 n ≡ bytes_of 4 n ++ (0 ∷ 0 ∷ 0 ∷ 0 ∷ [])

-- ---- records
-- A record that names a retailer up to a number, or none. A date change's counter is no retailer: it stands in 16 to 19 and may be any.
abbrev pub NamesUpTo : ℕ → Record → Type 0
NamesUpTo last r = (r.kind ≡ kind_date_change → ⊥) → r.retailer ≤ last

-- the two tests are one where the retailer passes both limits
abbrev pub SameFormed : Type 0
SameFormed = (r : Record) → NamesUpTo narrow.last_retailer r → well_formed_by narrow r ≡ well_formed_by wide r

-- Bytes with zero in 20 to 23 and a retailer up to the narrow limit in 16 to 19 say the same by either layout ..
abbrev pub SameReading : Type 0
SameReading =
    (bytes : List ℕ) → field_of narrow.rest bytes ≡ 0 → NamesUpTo narrow.last_retailer (fields_by narrow bytes)
    → reading_by narrow bytes ≡ reading_by wide bytes

-- .. and what they say names no retailer above it.
abbrev pub NamedUpTo : ℕ → Option Record → Type 0
NamedUpTo last None = Unit {0}
NamedUpTo last (Some r) = NamesUpTo last r

abbrev pub SaysUpTo : Type 0
SaysUpTo =
    (bytes : List ℕ) → field_of narrow.rest bytes ≡ 0 → NamesUpTo narrow.last_retailer (fields_by narrow bytes)
    → NamedUpTo narrow.last_retailer (reading_by wide bytes)

-- bytes of another length meet row 3 by any layout
abbrev pub OtherLength : Type 0
OtherLength = (layout : Layout) (bytes : List ℕ) → (length bytes ≡ record_length → ⊥) → reading_by layout bytes ≡ None

-- ---- notices
-- a notice to a retailer up to a number, or to the TDSP
abbrev pub ToUpTo : ℕ → Notice → Type 0
ToUpTo last n = n.addressee ≤ last

abbrev pub SameNotices : Type 0
SameNotices = (ns : List Notice) → Each (ToUpTo narrow.last_retailer) ns → encode_all_by narrow ns ≡ encode_all_by wide ns
