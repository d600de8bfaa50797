-- Change 9, computed: two records of which every field reads differently both ways, there and back, and a case for each answer.
use Rattle.std.specs.Prelude.{ℕ, ◌≡◌, List, [], ◌∷◌, ◌++◌, Bool, true, false, ◌&&◌, eqb, take, replicate, Ok}
use Rattle.first_fittings_rules.specs.Layout.{old_length, widths, high_first, low_first, numbers}
use Rattle.first_fittings_rules.specs.Answers.{number}
use Rattle.first_fittings_rules.specs.Conversions.{Way, to24, to20, answer, given}
use Rattle.first_fittings_rules.specs.ThereAndBack.{Made, Accepted, wrote}

-- ---- the sample
-- A new order, kind 3: detail 4, day 258, F 16909060, P of eight different bytes, retailer 67305985; a read, kind 7.
abbrev pub old_tape : List ℕ
old_tape =
    (3 ∷ 4 ∷ 1 ∷ 2 ∷ 1 ∷ 2 ∷ 3 ∷ 4 ∷ 11 ∷ 12 ∷ 13 ∷ 14 ∷ 15 ∷ 16 ∷ 17 ∷ 18 ∷ 4 ∷ 3 ∷ 2 ∷ 1 ∷ [])
    ++ (7 ∷ 0 ∷ 15 ∷ 254 ∷ 128 ∷ 0 ∷ 0 ∷ 1 ∷ 200 ∷ 201 ∷ 202 ∷ 203 ∷ 204 ∷ 205 ∷ 206 ∷ 207 ∷ 0 ∷ 0 ∷ 0 ∷ 101 ∷ [])

abbrev pub our_tape : List ℕ
our_tape =
    (3 ∷ 4 ∷ 2 ∷ 1 ∷ 4 ∷ 3 ∷ 2 ∷ 1 ∷ 18 ∷ 17 ∷ 16 ∷ 15 ∷ 14 ∷ 13 ∷ 12 ∷ 11 ∷ 1 ∷ 2 ∷ 3 ∷ 4 ∷ 0 ∷ 0 ∷ 0 ∷ 0 ∷ [])
    ++ (7 ∷ 0 ∷ 254 ∷ 15 ∷ 1 ∷ 0 ∷ 0 ∷ 128 ∷ 207 ∷ 206 ∷ 205 ∷ 204 ∷ 203 ∷ 202 ∷ 201 ∷ 200 ∷ 101 ∷ 0 ∷ 0 ∷ 0 ∷ 0 ∷ 0 ∷ 0 ∷ 0 ∷ [])

-- a buffer of so many bytes
abbrev pub buffer : ℕ → List ℕ
buffer many = replicate many 170

-- The calls each way: with two bytes more than are needed, and with just enough.
abbrev pub to_ours : Made
to_ours = record { lent = buffer 50; reply = Ok 48; after = our_tape ++ (170 ∷ 170 ∷ []) }

abbrev pub to_old : Made
to_old = record { lent = buffer 40; reply = Ok 40; after = old_tape }

-- what is asked of two calls by the theorem
pub record Shown (way other : Way) (tape : List ℕ) (first second : Made) : Type 0 where
  pub there : Accepted way tape first
  pub back : Accepted other (wrote first) second

-- the sample's calls are such, either way
pub record SampleHolds : Type 0 where
  pub old : Shown to24 to20 old_tape to_ours to_old
  pub ours : Shown to20 to24 our_tape to_old to_ours
  -- the first record's numbers, as each side reads them
  pub old_numbers : numbers high_first widths (take old_length old_tape) ≡ 3 ∷ 4 ∷ 258 ∷ 16909060 ∷ 796025588171149586 ∷ 67305985 ∷ []
  pub our_numbers : numbers low_first widths (take old_length our_tape) ≡ 3 ∷ 4 ∷ 258 ∷ 16909060 ∷ 796025588171149586 ∷ 67305985 ∷ []

-- ---- the answers
-- a case: a way, a tape and how many bytes of room; what is answered, and what is written
pub record Piece : Type 0 where
  pub way : Way
  pub tape : List ℕ
  pub room : ℕ
  pub answered : ℕ
  pub bytes : List ℕ

abbrev pub piece : Way → List ℕ → ℕ → ℕ → List ℕ → Piece
piece way tape room answered bytes = record { way = way; tape = tape; room = room; answered = answered; bytes = bytes }

abbrev pub same_bytes : List ℕ → List ℕ → Bool
same_bytes [] [] = true
same_bytes [] (b ∷ bs) = false
same_bytes (a ∷ others) [] = false
same_bytes (a ∷ others) (b ∷ bs) = eqb a b && same_bytes others bs

abbrev pub holds : Piece → Bool
holds p =
    eqb (number (answer p.way p.tape (buffer p.room))) p.answered
    && same_bytes (given p.way p.tape (buffer p.room)) p.bytes

abbrev pub all_hold : List Piece → Bool
all_hold [] = true
all_hold (p ∷ ps) = holds p && all_hold ps

-- our tape with the last bytes of its second record used
abbrev pub damaged : List ℕ → List ℕ
damaged last = take 44 our_tape ++ last

abbrev pub pieces : List Piece
pieces =
    -- "any number of them": none too, with no buffer
    piece to24 [] 0 0 []
    ∷ piece to20 [] 0 0 []
    -- "Only lengths and the last four bytes are judged here": a kind that there is not, fields past every range
    ∷ piece to24 (replicate 20 255) 24 0 (replicate 20 255 ++ replicate 4 0)
    ∷ piece to20 (replicate 20 255 ++ replicate 4 0) 20 0 (replicate 20 255)
    -- 23 by the record size of the tape that comes in, before 24
    ∷ piece to24 (replicate 41 0) 0 23 []
    ∷ piece to24 (replicate 24 0) 100 23 []
    ∷ piece to20 (replicate 49 1) 0 23 []
    ∷ piece to20 (replicate 20 0) 100 23 []
    -- 24 with one byte too few, before 25
    ∷ piece to24 old_tape 47 24 []
    ∷ piece to20 our_tape 39 24 []
    ∷ piece to20 (damaged (0 ∷ 0 ∷ 0 ∷ 1 ∷ [])) 39 24 []
    -- 25 for each of the last bytes, where only the last record is bad
    ∷ piece to20 (damaged (1 ∷ 0 ∷ 0 ∷ 0 ∷ [])) 40 25 []
    ∷ piece to20 (damaged (0 ∷ 1 ∷ 0 ∷ 0 ∷ [])) 40 25 []
    ∷ piece to20 (damaged (0 ∷ 0 ∷ 1 ∷ 0 ∷ [])) 40 25 []
    ∷ piece to20 (damaged (0 ∷ 0 ∷ 0 ∷ 1 ∷ [])) 40 25 []
    ∷ []
