-- Directories and texts, computed: what is looked up, the number and the P that must come back. The bytes are written out as document 02
-- lays them out, so that the layout is tried too.
use Rattle.std.specs.Prelude.{ℕ, List, [], ◌∷◌, ◌++◌, Bool, ◌&&◌, eqb, take}
use Rattle.lists.specs.Search.{all_of}
use Rattle.esi_rules.specs.LookUp.{number, given_back, text_of, look_up}

-- ---- texts: of 17 digits; of 22 that begin with them; of 17 others
abbrev pub short_digits : List ℕ
short_digits = 1 ∷ 0 ∷ 4 ∷ 4 ∷ 3 ∷ 7 ∷ 2 ∷ 0 ∷ 0 ∷ 9 ∷ 1 ∷ 2 ∷ 3 ∷ 4 ∷ 5 ∷ 6 ∷ 7 ∷ []

abbrev pub short : List ℕ
short = text_of short_digits

abbrev pub long : List ℕ
long = text_of (short_digits ++ (8 ∷ 9 ∷ 0 ∷ 1 ∷ 2 ∷ []))

abbrev pub other : List ℕ
other = text_of (take 16 short_digits ++ (8 ∷ []))

-- 16 digits, and 17 characters of which the last is `:`, the one behind `9`
abbrev pub too_short : List ℕ
too_short = take 16 short

abbrev pub colon : List ℕ
colon = too_short ++ (58 ∷ [])

-- ---- records: the first eight bytes of an ESI ID, which all of them share; the other three, the count and P's low byte; the rest of P
-- and the four zeros
abbrev pub shared : List ℕ
shared = 0x10 ∷ 0x44 ∷ 0x37 ∷ 0x20 ∷ 0x09 ∷ 0x12 ∷ 0x34 ∷ 0x56 ∷ []

abbrev pub rest : List ℕ
rest = 0 ∷ 0 ∷ 0 ∷ 0 ∷ 0 ∷ 0 ∷ 0 ∷ 0 ∷ 0 ∷ 0 ∷ 0 ∷ []

abbrev pub entry : ℕ → ℕ → ℕ → ℕ → ℕ → List ℕ
entry ninth tenth eleventh count premise = shared ++ (ninth ∷ tenth ∷ eleventh ∷ count ∷ premise ∷ rest)

abbrev pub short_entry : List ℕ
short_entry = entry 0x7F 0xFF 0xFF 17 7

abbrev pub long_entry : List ℕ
long_entry = entry 0x78 0x90 0x12 22 8

-- P with its first, second and last byte set
abbrev pub wide_entry : List ℕ
wide_entry = take 8 shared ++ (0x8F ∷ 0xFF ∷ 0xFF ∷ 17 ∷ 1 ∷ 2 ∷ 0 ∷ 0 ∷ 0 ∷ 0 ∷ 0 ∷ 3 ∷ 0 ∷ 0 ∷ 0 ∷ 0 ∷ [])

-- the last byte is 1
abbrev pub byte_left : List ℕ
byte_left = take 23 long_entry ++ (1 ∷ [])

abbrev pub both : List ℕ
both = short_entry ++ long_entry

-- ---- the cases
pub record Case : Type 0 where
  pub directory : List ℕ
  pub text : List ℕ
  pub answer : ℕ
  pub premise : ℕ

abbrev pub case : List ℕ → List ℕ → ℕ → ℕ → Case
case directory text answer premise = record { directory = directory; text = text; answer = answer; premise = premise }

abbrev pub cases : List Case
cases =
    case both short 0 7
    ∷ case both long 0 8
    ∷ case (long_entry ++ short_entry) short 0 7
    ∷ case (both ++ wide_entry) other 0 216172782113784321
    ∷ case both other 22 0
    ∷ case long_entry short 22 0
    ∷ case short_entry long 22 0
    ∷ case [] short 22 0
    ∷ case both too_short 21 0
    ∷ case both [] 21 0
    ∷ case both colon 21 0
    ∷ case (short_entry ++ entry 0x7A 0x90 0x12 22 8) short 20 0
    ∷ case (short_entry ++ entry 0xA8 0x90 0x12 22 8) short 20 0
    ∷ case (short_entry ++ entry 0x78 0x90 0x12 18 8) short 20 0
    ∷ case (entry 0x70 0xFF 0xFF 17 7 ++ long_entry) long 20 0
    ∷ case (entry 0x7F 0xFF 0xF0 17 7 ++ long_entry) long 20 0
    ∷ case (short_entry ++ entry 0x78 0x90 0x12 22 7) short 20 0
    ∷ case (short_entry ++ long_entry ++ entry 0x7F 0xFF 0xFF 17 9) long 20 0
    ∷ case (short_entry ++ long_entry ++ entry 0x8F 0xFF 0xFF 17 7) long 20 0
    ∷ case (short_entry ++ entry 0x78 0x90 0x12 22 0) short 20 0
    ∷ case (short_entry ++ byte_left) short 20 0
    ∷ case (both ++ (0 ∷ [])) short 20 0
    ∷ case (both ++ (0 ∷ [])) colon 20 0
    ∷ []

abbrev pub holds : Case → Bool
holds c =
    let came = look_up c.directory c.text in
    eqb (number came) c.answer && eqb (given_back came) c.premise

abbrev pub all_hold : Bool
all_hold = all_of holds cases
