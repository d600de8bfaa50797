-- Document 02, change 8, as theorems; proofs/Packing.antt, proofs/TextLaws.antt and proofs/Finding.antt prove them.
use Rattle.std.specs.Prelude.{ℕ, ◌≤◌, ◌≡◌, List, ◌∷◌, ◌++◌, true, false, length, take, Ok}
use Rattle.lists.specs.Search.{any_of, all_of, Each}
use Rattle.esi_rules.specs.Packed.{Digits, halves, packed}
use Rattle.esi_rules.specs.Directory.{id_width, records, premise_of, used_halves, sound}
use Rattle.esi_rules.specs.LookUp.{is_ascii_digit, digits_of, text_of, has_digits, look_up}

-- ---- packing, "shown once over the digit count"
-- Unpacking what was packed gives the digits, whatever their number and in however many bytes.
abbrev pub Unpacks : Type 0
Unpacks = (width : ℕ) (digits : List ℕ) → Digits digits → take (length digits) (halves (packed width digits)) ≡ digits

-- Equal packed bytes and equal counts are those of equal digits, of any number.
abbrev pub PackedDecides : Type 0
PackedDecides =
    (width : ℕ) (these those : List ℕ) → Digits these → Digits those
    → packed width these ≡ packed width those → length these ≡ length those → these ≡ those

-- The packed bytes alone decide too, since 15 is no digit.
abbrev pub PackedAloneDecides : Type 0
PackedAloneDecides =
    (width : ℕ) (these those : List ℕ) → Digits these → Digits those → packed width these ≡ packed width those → these ≡ those

-- "Two texts have equal packed bytes and count only if they are equal": texts of ASCII digits, of any length.
abbrev pub TextsDecide : Type 0
TextsDecide =
    (these those : List ℕ) → all_of is_ascii_digit these ≡ true → all_of is_ascii_digit those ≡ true
    → packed id_width (digits_of these) ≡ packed id_width (digits_of those) → length these ≡ length those → these ≡ those

-- ---- what a look-up finds
-- In a sound directory the text of every record's digits gets 0 and that record's P.
abbrev pub EachIsFound : Type 0
EachIsFound =
    (directory : List ℕ) → sound directory ≡ true
    → Each (λ (row : List ℕ). look_up directory (text_of (used_halves row)) ≡ Ok (premise_of row)) (records directory)

-- exactly one of some records has these digits, and a number is its P
pub record OnlyOne (rs : List (List ℕ)) (digits : List ℕ) (premise : ℕ) : Type 0 where
  pub before : List (List ℕ)
  pub row : List ℕ
  pub behind : List (List ℕ)
  pub parts : rs ≡ before ++ (row ∷ behind)
  pub has : used_halves row ≡ digits
  pub none_before : any_of (has_digits digits) before ≡ false
  pub none_behind : any_of (has_digits digits) behind ≡ false
  pub gives : premise ≡ premise_of row
  pub given : 1 ≤ premise

-- An answer 0 means that exactly one record has the text, and P is its.
abbrev pub FoundIsOnlyOne : Type 0
FoundIsOnlyOne =
    (directory text : List ℕ) (premise : ℕ) → look_up directory text ≡ Ok premise
    → OnlyOne (records directory) (digits_of text) premise
