-- Document 02, change 8: looking up a text in a directory, and the rows 20, 21 and 22.
use Rattle.std.specs.Prelude.{ℕ, ◌+◌, ◌-◌, List, [], ◌∷◌, map, Bool, cond, not, ◌&&◌, leb, length, Result, Ok, Err}
use Rattle.lists.specs.Search.{any_of, all_of}
use Rattle.esi_rules.specs.declared.Refusal.{Refusal}
use Rattle.esi_rules.specs.declared.Refusal.TheVariants.{DirectoryUnsound, TextMalformed, NoRecord}
use Rattle.esi_rules.specs.Packed.{last_digit}
use Rattle.esi_rules.specs.Directory.{records, premise_of, used_halves, is_count, same_digits, sound}

-- What a look-up gives back: the P found, or why there is none.
abbrev pub Answer : Type 0
Answer = Result ℕ Refusal

-- The number returned, for every answer.
unfoldable pub number : Answer → ℕ
number (Ok premise) = 0
number (Err DirectoryUnsound) = 20
number (Err TextMalformed) = 21
number (Err NoRecord) = 22

-- The P given back: with each of the three numbers "the P given back is 0".
abbrev pub given_back : Answer → ℕ
given_back (Ok premise) = premise
given_back (Err refusal) = 0

-- ASCII's digits are 48 to 57
abbrev pub ascii_zero : ℕ
ascii_zero = 48

abbrev pub is_ascii_digit : ℕ → Bool
is_ascii_digit byte = leb ascii_zero byte && leb byte (ascii_zero + last_digit)

-- "a text of 17 or 22 ASCII digits"
unfoldable pub is_id_text : List ℕ → Bool
is_id_text text = is_count (length text) && all_of is_ascii_digit text

-- the digits that a text writes, and the text that writes some digits
abbrev pub digits_of : List ℕ → List ℕ
digits_of text = map (λ (byte : ℕ). byte - ascii_zero) text

abbrev pub text_of : List ℕ → List ℕ
text_of digits = map (λ (digit : ℕ). ascii_zero + digit) digits

-- whether a record has the ESI ID of these digits
abbrev pub has_digits : List ℕ → List ℕ → Bool
has_digits digits row = same_digits (used_halves row) digits

-- a row: why nothing is found, and when
pub record Row : Type 0 where
  pub refusal : Refusal
  pub when : Bool

abbrev pub row : Refusal → Bool → Row
row refusal when = record { refusal = refusal; when = when }

-- the first row whose condition holds; a P is found if none does
abbrev pub first_row : List Row → ℕ → Answer
first_row [] premise = Ok premise
first_row (r ∷ rs) premise = cond r.when (Err r.refusal) (first_row rs premise)

-- 20 "checked first"; 21; 22 "when the directory is sound, the text is well formed and no record has it".
abbrev pub rows_of : List ℕ → List ℕ → List Row
rows_of directory text =
    row DirectoryUnsound (not (sound directory))
    ∷ row TextMalformed (not (is_id_text text))
    ∷ row NoRecord (not (any_of (has_digits (digits_of text)) (records directory)))
    ∷ []

-- the P of the first record that passes; 0 where none does
abbrev pub premise_where : (List ℕ → Bool) → List (List ℕ) → ℕ
premise_where p [] = 0
premise_where p (r ∷ rs) = cond (p r) (premise_of r) (premise_where p rs)

-- What a look-up gives back: a row of the three, or "gives its P", that of the record which has the text.
unfoldable pub look_up : List ℕ → List ℕ → Answer
look_up directory text =
    first_row (rows_of directory text) (premise_where (has_digits (digits_of text)) (records directory))
