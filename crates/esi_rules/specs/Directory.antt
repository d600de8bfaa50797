-- Document 02, change 8: a directory of ESI IDs, "records of 24 bytes without header", and the rules that it may break.
use Rattle.std.specs.Prelude.{ℕ, ◌/◌, ◌%◌, List, [], ◌∷◌, Bool, true, false, not, ◌&&◌, ◌||◌, eqb, length, take, drop}
use Rattle.lists.specs.Search.{all_of}
use Rattle.records.specs.Layout.{Field, record_length, field_of}
use Rattle.records.specs.Notices.{rows}
use Rattle.esi_rules.specs.Packed.{is_digit, is_unused, halves}
use Rattle.esi_rules.specs.Distinct.{distinct}

-- "bytes 0 to 10 the ESI ID in packed decimal ..; byte 11 the digit count ..; bytes 12 to 19 P, low byte first; 20 to 23 zero"
abbrev pub id_width : ℕ
id_width = 11

abbrev pub count_field : Field
count_field = record { start = 11; width = 1 }

abbrev pub premise_field : Field
premise_field = record { start = 12; width = 8 }

abbrev pub zero_field : Field
zero_field = record { start = 20; width = 4 }

-- the directory's whole records
abbrev pub records : List ℕ → List (List ℕ)
records directory = rows (length directory / record_length) directory

abbrev pub digit_count : List ℕ → ℕ
digit_count row = field_of count_field row

-- P
abbrev pub premise_of : List ℕ → ℕ
premise_of row = field_of premise_field row

-- the ESI ID's digits: as many halves of its bytes as its count says
abbrev pub used_halves : List ℕ → List ℕ
used_halves row = take (digit_count row) (halves (take id_width row))

-- "17 or 22"
abbrev pub short_count : ℕ
short_count = 17

abbrev pub long_count : ℕ
long_count = 22

abbrev pub is_count : ℕ → Bool
is_count n = eqb n short_count || eqb n long_count

-- "Each used half is 0 to 9. With 17 digits the unused halves are 15.": so many halves of some bytes are used, the others not.
unfoldable pub halves_kept : ℕ → List ℕ → Bool
halves_kept count bytes = all_of is_digit (take count (halves bytes)) && all_of is_unused (drop count (halves bytes))

-- The rules of one record: its count, its halves, "P is not 0", bytes 20 to 23.
unfoldable pub record_kept : List ℕ → Bool
record_kept row =
    is_count (digit_count row)
    && halves_kept (digit_count row) (take id_width row)
    && (not (eqb (premise_of row) 0) && eqb (field_of zero_field row) 0)

-- the same digits, and as many
abbrev pub same_digits : List ℕ → List ℕ → Bool
same_digits [] [] = true
same_digits [] (y ∷ ys) = false
same_digits (x ∷ xs) [] = false
same_digits (x ∷ xs) (y ∷ ys) = eqb x y && same_digits xs ys

abbrev pub same_id : List ℕ → List ℕ → Bool
same_id row other = same_digits (used_halves row) (used_halves other)

abbrev pub same_premise : List ℕ → List ℕ → Bool
same_premise row other = eqb (premise_of other) (premise_of row)

-- "neither an ESI ID nor a P may stand twice"
abbrev pub none_twice : List (List ℕ) → Bool
none_twice rs = distinct same_id rs && distinct same_premise rs

-- A directory that breaks no rule, and whose length is a multiple of 24.
unfoldable pub sound : List ℕ → Bool
sound directory = eqb (length directory % record_length) 0 && (all_of record_kept (records directory) && none_twice (records directory))
