-- Record calls made one after the other, as a promise about what came back of each: the record call's own promise ties each call to the
-- next, so that demand 3 speaks of them.
use Rattle.std.specs.Prelude.{ℕ, ◌+◌, ◌*◌, ◌-◌, ◌≤◌, ◌<◌, ◌≡◌, ◌⊎◌, List, [], ◌∷◌, ◌++◌, map, length, take, drop}
use Rattle.records.specs.Layout.{record_length}
use Rattle.std.specs.Prelude.{Ok}
use Rattle.premise.specs.Refusals.{Answer}
use Rattle.premise.specs.Refusals.{number}
use Rattle.book.specs.declared.Book.{Book}
use Rattle.book.specs.declared.Playback.{Playback}
use Rattle.book.specs.Calls.{notice_bytes}
use Rattle.book.specs.CallsInRow.{Noted}
use Rattle.demands.specs.Demand3.{Made, Played, last_book}
use Rattle.demands.specs.Tapes.{tape_of}

-- ---- what some calls returned
abbrev pub numbers_given : List Made → List ℕ
numbers_given ms = map (λ (m : Made). number m.reply.answer) ms

abbrev pub counts_given : List Made → List ℕ
counts_given ms = map (λ (m : Made). m.reply.sent) ms

-- how many notices they gave together
abbrev pub sent_by : List Made → ℕ
sent_by [] = 0
sent_by (m ∷ ms) = m.reply.sent + sent_by ms

-- the bytes of these, call after call: the first 24 × n in each call's buffer on return
abbrev pub bytes_sent : List Made → List ℕ
bytes_sent [] = []
bytes_sent (m ∷ ms) = take (record_length * m.reply.sent) m.after ++ bytes_sent ms

-- the answer of the last; acceptance where there was none
abbrev pub last_given : Answer → List Made → Answer
last_given answer [] = answer
last_given answer (m ∷ ms) = last_given m.reply.answer ms

-- ---- what they were lent
-- each the bytes behind the notices of those before it, and 24,576 at least
abbrev pub Lent : List ℕ → List Made → Type 0
Lent free [] = Unit {0}
Lent free (m ∷ ms) = (m.lent ≡ free) × (notice_bytes ≤ length m.lent) × Lent (drop (record_length * m.reply.sent) free) ms

-- ---- what is promised of the calls that were made of some records. Each buffer is named as it was lent, and then as it was left.
pub record CallsMade (calendar : List ℕ) (b : Book) (records : List (List ℕ)) (r : Playback)
    (answers₀ answers₁ counts₀ counts₁ notices₀ notices₁ : List ℕ) (made : List Made) : Type 0 where
  -- each call keeps the record call's promise, and gets the book that the one before it returned
  pub calls : Played calendar b made
  pub lent : Lent notices₀ made
  -- they are the calls of the first records, in order; it stops where none is left, or the next would find fewer than 24,576 bytes free
  pub fed : tape_of made ≡ take r.played records
  pub played : r.played ≡ length made
  pub stops : (r.played ≡ length records) ⊎ (length notices₀ - record_length * r.sent < notice_bytes)
  -- what they returned is noted, and the rest of each buffer stays
  pub answers : Noted (numbers_given made) answers₀ answers₁
  pub counts : Noted (counts_given made) counts₀ counts₁
  pub sent : r.sent ≡ sent_by made
  pub notices : Noted (bytes_sent made) notices₀ notices₁
  pub last : r.last ≡ last_given (Ok tt) made
  pub book : r.book ≡ last_book b made
