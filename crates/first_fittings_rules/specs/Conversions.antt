-- Document 02, change 9: a converter each way, and what a call of it promises.
use Rattle.std.specs.Prelude.{ℕ, ◌%◌, ◌≡◌, List, [], ◌∷◌, ◌++◌, map, Bool, false, cond, not, eqb, ltb, length, drop, replicate}
use Rattle.lists.specs.Search.{any_of}
use Rattle.first_fittings_rules.specs.declared.Refusal.TheVariants.{NotWhole, ShortBuffer, LastBytesUsed}
use Rattle.first_fittings_rules.specs.Layout.{old_length, our_length, turned_record, records_of, joined}
use Rattle.first_fittings_rules.specs.Answers.{Answer, Row, row, first_row, number, written}

-- a way to convert: how long the records are that come in, what becomes of one, and whether it keeps the tape from being converted
pub record Way : Type 0 where
  pub size : ℕ
  pub becomes : List ℕ → List ℕ
  pub barred : List ℕ → Bool

-- To 24: bytes 0 to 19, each field turned, then bytes 20 to 23, which are zero.
abbrev pub to24 : Way
to24 = record { size = old_length; becomes = λ bytes. turned_record bytes ++ replicate 4 0; barred = λ bytes. false }

-- "one of our records has a non-zero byte in 20 to 23"
abbrev pub last_bytes_used : List ℕ → Bool
last_bytes_used bytes = any_of (λ (byte : ℕ). not (eqb byte 0)) (drop old_length bytes)

-- To 20: bytes 0 to 19, each field turned.
abbrev pub to20 : Way
to20 = record { size = our_length; becomes = turned_record; barred = last_bytes_used }

-- the whole converted tape
unfoldable pub converted : Way → List ℕ → List ℕ
converted way tape = joined (map way.becomes (records_of way.size tape))

-- 23, 24 and 25, "tested in this order". "Only lengths and the last four bytes are judged here".
unfoldable pub rows : Way → List ℕ → List ℕ → List Row
rows way tape lent =
    row NotWhole (not (eqb (length tape % way.size) 0))
    ∷ row ShortBuffer (ltb (length lent) (length (converted way tape)))
    ∷ row LastBytesUsed (any_of way.barred (records_of way.size tape))
    ∷ []

-- a refusal by the first row that holds; else the count of the converted tape's bytes
unfoldable pub answer : Way → List ℕ → List ℕ → Answer
answer way tape lent = first_row (rows way tape lent) (length (converted way tape))

-- what is written: the converted tape; nothing where it is refused
unfoldable pub given : Way → List ℕ → List ℕ → List ℕ
given way tape lent = cond (eqb (number (answer way tape lent)) 0) (converted way tape) []

-- What a call promises for every tape and every buffer that it is lent: its answer; how many bytes it wrote; and each byte of the buffer on
-- return, "with zero bytes written and the output buffer untouched; otherwise the bytes past the converted tape stay".
pub record Promised (way : Way) (tape before : List ℕ) (r : Answer) (after : List ℕ) : Type 0 where
  pub answered : r ≡ answer way tape before
  pub count : written r ≡ length (given way tape before)
  pub bytes : after ≡ given way tape before ++ drop (length (given way tape before)) before
