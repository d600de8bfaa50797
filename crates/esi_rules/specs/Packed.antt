-- Document 02, change 8: packed decimal, "two digits a byte, first digit in the high half", for any number of digits.
use Rattle.std.specs.Prelude.{ℕ, ◌+◌, ◌-◌, ◌*◌, ◌/◌, ◌%◌, ◌≤◌, List, [], ◌∷◌, ◌++◌, Bool, cond, ◌&&◌, eqb, leb, ltb, length, replicate}
use Rattle.lists.specs.Search.{Each}

-- "Each used half is 0 to 9."
abbrev pub last_digit : ℕ
last_digit = 9

abbrev pub is_digit : ℕ → Bool
is_digit half = leb half last_digit

abbrev pub Digits : List ℕ → Type 0
Digits = Each (λ (half : ℕ). half ≤ last_digit)

-- "the unused halves are 15"
abbrev pub unused : ℕ
unused = 15

abbrev pub is_unused : ℕ → Bool
is_unused half = eqb half unused

-- two halves in a byte, the first in the high half
abbrev pub pair : ℕ → ℕ → ℕ
pair first second = 16 * first + second

-- the halves of some bytes: of each byte the high one, then the low one
abbrev pub halves : List ℕ → List ℕ
halves [] = []
halves (byte ∷ bytes) = byte / 16 ∷ byte % 16 ∷ halves bytes

-- digits in packed decimal: beside an odd last digit stands an unused half
abbrev pub pack : List ℕ → List ℕ
pack [] = []
pack (last ∷ []) = pair last unused ∷ []
pack (first ∷ second ∷ others) = pair first second ∷ pack others

-- the same in so many bytes: the bytes behind the digits are unused halves
abbrev pub packed : ℕ → List ℕ → List ℕ
packed width digits = pack digits ++ replicate (width - length (pack digits)) (pair unused unused)

-- whether a half is as it should be, used or not; and both halves of the byte at a place, where so many halves are used
abbrev pub half_kept : Bool → ℕ → Bool
half_kept used half = cond used (is_digit half) (is_unused half)

abbrev pub byte_kept : ℕ → ℕ → ℕ → Bool
byte_kept count place byte = half_kept (ltb (2 * place) count) (byte / 16) && half_kept (ltb (2 * place + 1) count) (byte % 16)
