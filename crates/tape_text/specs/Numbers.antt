-- Document 01, "The tape program": "Lines, base ten": numbers, and the lines that they stand in, as bytes.
use Rattle.std.specs.Prelude.{ℕ, zero, suc, ◌+◌, ◌*◌, ◌/◌, ◌%◌, ◌≤◌, ◌≡◌, List, [], ◌∷◌, ◌++◌, cond, ltb, length, take, drop}

-- a digit's byte, a space, and the end of a line
abbrev pub digit : ℕ → ℕ
digit n = 48 + n

abbrev pub space : ℕ
space = 32

abbrev pub newline : ℕ
newline = 10

-- a number's digits, the last of them the number's last, with at most so many
abbrev pub digits : ℕ → ℕ → List ℕ
digits zero n = []
digits (suc most) n = cond (ltb n 10) (digit n ∷ []) (digits most (n / 10) ++ (digit (n % 10) ∷ []))

-- a number of at most 64 bits has at most 20 digits
abbrev pub most_digits : ℕ
most_digits = 20

unfoldable pub decimal : ℕ → List ℕ
decimal n = digits most_digits n

-- numbers with a space before each, to the end of a line
abbrev pub spaced : List ℕ → List ℕ
spaced [] = newline ∷ []
spaced (n ∷ ns) = space ∷ decimal n ++ spaced ns

-- a line that begins with a letter
abbrev pub lettered : ℕ → List ℕ → List ℕ
lettered letter ns = letter ∷ spaced ns

-- its length, for any numbers: the letter, for each number a space and 20 digits, the end; proofs/Lengths.antt proves it
abbrev pub lettered_most : ℕ → ℕ
lettered_most count = 2 + 21 * count

abbrev pub AnyLettered : Type 0
AnyLettered = (letter : ℕ) (ns : List ℕ) → length (lettered letter ns) ≤ lettered_most (length ns)

-- What a writer leaves: the text behind what stands in the buffer, and the rest as it was; it returns where the text ends.
pub record Puts (start : ℕ) (before after : List ℕ) (stop : ℕ) (text : List ℕ) : Type 0 where
  pub end : stop ≡ start + length text
  pub bytes : after ≡ take start before ++ text ++ drop (start + length text) before
