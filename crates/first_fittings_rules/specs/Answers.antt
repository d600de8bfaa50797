-- Document 02, change 9: the answers 0, 23, 24 and 25, and "tested in this order".
use Rattle.std.specs.Prelude.{ℕ, List, [], ◌∷◌, Bool, cond, Result, Ok, Err}
use Rattle.first_fittings_rules.specs.declared.Refusal.{Refusal}
use Rattle.first_fittings_rules.specs.declared.Refusal.TheVariants.{NotWhole, ShortBuffer, LastBytesUsed}

-- What a call returns: converted, and how many bytes it wrote; or why it refused the tape.
abbrev pub Answer : Type 0
Answer = Result ℕ Refusal

-- The number returned, for every answer.
unfoldable pub number : Answer → ℕ
number (Ok count) = 0
number (Err NotWhole) = 23
number (Err ShortBuffer) = 24
number (Err LastBytesUsed) = 25

-- How many bytes were written, by an answer: "with zero bytes written" where it is a refusal.
abbrev pub written : Answer → ℕ
written (Ok count) = count
written (Err refusal) = 0

-- a row: why a tape is refused, and when
pub record Row : Type 0 where
  pub refusal : Refusal
  pub when : Bool

abbrev pub row : Refusal → Bool → Row
row refusal when = record { refusal = refusal; when = when }

-- the first row whose condition holds; converted, with so many bytes, if none does
abbrev pub first_row : List Row → ℕ → Answer
first_row [] count = Ok count
first_row (r ∷ rs) count = cond r.when (Err r.refusal) (first_row rs count)
