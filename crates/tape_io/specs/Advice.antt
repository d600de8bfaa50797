-- Which tape is told to be a text. That it is told is no matter of a contract, which can't say what is written.
use Rattle.std.specs.Prelude.{ℕ, List, Bool, ◌&&◌, ◌||◌, leb, get_or, length}

-- A character of a text: a printable one of ASCII, 32 to 126, or a tab or a line's end, 9 to 13.
abbrev pub is_character : ℕ → Bool
is_character byte = leb 32 byte && leb byte 126 || leb 9 byte && leb byte 13

abbrev pub character_at : List ℕ → ℕ → Bool
character_at tape place = is_character (get_or tape place 0)

-- A tape begins as a text where its first four bytes are characters. No record begins so: the second byte would be its detail.
unfoldable pub begins_as_text : List ℕ → Bool
begins_as_text tape = leb 4 (length tape) && (character_at tape 0 && character_at tape 1 && character_at tape 2 && character_at tape 3)
