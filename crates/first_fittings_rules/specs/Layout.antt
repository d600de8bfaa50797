-- Document 02, change 9: the first fittings' records of 20 bytes and ours of 24.
use Rattle.std.specs.Prelude.{ℕ, zero, suc, ◌+◌, ◌*◌, ◌/◌, List, [], ◌∷◌, ◌++◌, reverse, length, take, drop}

-- how many bytes a record has, with the first fittings and with us
abbrev pub old_length : ℕ
old_length = 20

abbrev pub our_length : ℕ
our_length = 24

-- The fields of bytes 0 to 19: record kind, detail, day, F, P; "bytes 16 to 19 count as one field of four", whatever the record's kind.
abbrev pub widths : List ℕ
widths = 1 ∷ 1 ∷ 2 ∷ 4 ∷ 8 ∷ 4 ∷ []

abbrev pub total : List ℕ → ℕ
total [] = 0
total (width ∷ others) = width + total others

-- "each multi-byte field high byte first", where it stood low byte first, or the other way round: the bytes of each field turned, field
-- behind field
abbrev pub turned : List ℕ → List ℕ → List ℕ
turned [] bytes = []
turned (width ∷ others) bytes = reverse (take width bytes) ++ turned others (drop width bytes)

-- the number that a field's bytes give, low byte first as with us, and high byte first as with the first fittings
abbrev pub low_first : List ℕ → ℕ
low_first [] = 0
low_first (byte ∷ bytes) = byte + 256 * low_first bytes

abbrev pub high_from : ℕ → List ℕ → ℕ
high_from n [] = n
high_from n (byte ∷ bytes) = high_from (256 * n + byte) bytes

abbrev pub high_first : List ℕ → ℕ
high_first bytes = high_from 0 bytes

-- the numbers of all fields
abbrev pub numbers : (List ℕ → ℕ) → List ℕ → List ℕ → List ℕ
numbers read [] bytes = []
numbers read (width ∷ others) bytes = read (take width bytes) ∷ numbers read others (drop width bytes)

-- "our bytes 0 to 19", each field turned: what a record's other form has of it
unfoldable pub turned_record : List ℕ → List ℕ
turned_record bytes = turned widths (take old_length bytes)

-- so many records of a size, from a tape's start on
abbrev pub cut : ℕ → ℕ → List ℕ → List (List ℕ)
cut size zero tape = []
cut size (suc n) tape = take size tape ∷ cut size n (drop size tape)

-- "any number of them": the whole records of a tape
abbrev pub records_of : ℕ → List ℕ → List (List ℕ)
records_of size tape = cut size (length tape / size) tape

-- records one behind another, as a tape
abbrev pub joined : List (List ℕ) → List ℕ
joined [] = []
joined (bytes ∷ others) = bytes ++ joined others
