-- Document 02, change 5, as a theorem over record calls that were made: "Book, answers and notices equal those of the single calls, refused
-- records included." proofs/SingleCalls.antt proves it (`stretch_is_single_calls`, `single_calls_can_be_made`), and proofs/AsManyAsFindRoom.antt
-- how many are played (`as_many_as_find_room`).
use Rattle.std.specs.Prelude.{ℕ, ◌*◌, ◌≤◌, ◌<◌, ◌≡◌, ◌⊎◌, List, [], ◌∷◌, ◌++◌, length, take, drop}
use Rattle.records.specs.Layout.{record_length}
use Rattle.book.specs.declared.Book.{Book}
use Rattle.book.specs.Calls.{notice_bytes}
use Rattle.book.specs.CallsInRow.{Noted}
use Rattle.demands.specs.Demand3.{Made, Played, last_book}
use Rattle.demands.specs.Tapes.{tape_of}
use Rattle.call_row_rules.specs.CallsMade.{numbers_given, sent_by}
use Rattle.stretch_rules.specs.declared.Replies.{Replies}
use Rattle.stretch_rules.specs.Stretch.{number, whole_records, StretchPromised}

-- ---- the buffer of some calls
-- what a call left behind its own notices
abbrev pub behind_own : Made → List ℕ
behind_own m = drop (record_length * m.reply.sent) m.after

-- "each into the notice bytes still free": the first is lent these bytes, each next one what the one before left behind its own notices,
-- and every one at least 24,576
abbrev pub EachLentRest : List ℕ → List Made → Type 0
EachLentRest free [] = Unit {0}
EachLentRest free (m ∷ ms) = (m.lent ≡ free) × (notice_bytes ≤ length m.lent) × EachLentRest (behind_own m) ms

-- what one more call would be lent
abbrev pub still_free : List ℕ → List Made → List ℕ
still_free free [] = free
still_free free (m ∷ ms) = still_free (behind_own m) ms

-- what they left, piece by piece: the notices of each as they stand in its own buffer on return, and what the last left behind its own
abbrev pub pieces_left : List ℕ → List Made → List ℕ
pieces_left free [] = free
pieces_left free (m ∷ ms) = take (record_length * m.reply.sent) m.after ++ pieces_left (behind_own m) ms

-- ---- single calls of a stretch: each keeps the record call's promise and gets the book that the one before it returned, from the
-- stretch's own; their records are the first of its whole records
pub record MadeOf (calendar : List ℕ) (b : Book) (tape notices₀ : List ℕ) (ms : List Made) : Type 0 where
  pub calls : Played calendar b ms
  pub fed : tape_of ms ≡ take (length ms) (whole_records tape)
  pub lent : EachLentRest notices₀ ms

-- as many as were played
pub record SingleCalls (calendar : List ℕ) (b : Book) (tape notices₀ : List ℕ) (played : ℕ) (ms : List Made) : Type 0 where
  pub made : MadeOf calendar b tape notices₀ ms
  pub many : length ms ≡ played

-- What the call of many records gave is what they gave: the last one's book; how many notices; their numbers as answer bytes, and the
-- notice buffer as they left it, with every byte behind.
pub record AsSingleCalls (b : Book) (tape : List ℕ) (r : Replies) (answers₀ answers₁ notices₀ notices₁ : List ℕ)
    (ms : List Made) : Type 0 where
  pub book : r.book ≡ last_book b ms
  pub sent : r.sent ≡ sent_by ms
  pub answers : Noted (numbers_given ms) answers₀ answers₁
  pub notices : notices₁ ≡ pieces_left notices₀ ms
  -- If fewer were played than the stretch has, and the answer is 0, the next would have found fewer than 24,576 bytes.
  pub stops : number r.answer ≡ 0 → length ms < length (whole_records tape) → length (still_free notices₀ ms) < notice_bytes

abbrev pub StretchIsSingleCalls : Type 0
StretchIsSingleCalls =
    (calendar : List ℕ) (b : Book) (tape : List ℕ) (r : Replies) (answers₀ answers₁ notices₀ notices₁ : List ℕ) (ms : List Made)
    → StretchPromised calendar b tape r answers₀ answers₁ notices₀ notices₁
    → SingleCalls calendar b tape notices₀ r.played ms
    → AsSingleCalls b tape r answers₀ answers₁ notices₀ notices₁ ms

-- And such calls can be made, whatever the book, the stretch and the buffers: as many as were played, each with its 24,576 bytes.
abbrev pub SingleCallsCanBeMade : Type 0
SingleCallsCanBeMade =
    (calendar : List ℕ) (b : Book) (tape : List ℕ) (r : Replies) (answers₀ answers₁ notices₀ notices₁ : List ℕ)
    → StretchPromised calendar b tape r answers₀ answers₁ notices₀ notices₁
    → (ms : List Made) × SingleCalls calendar b tape notices₀ r.played ms

-- How many are played: single calls that were made as far as they go, to the last whole record or until the next would find fewer than
-- 24,576 bytes, are as many as were played, if the answer is 0.
pub record AsFarAsTheyGo (calendar : List ℕ) (b : Book) (tape notices₀ : List ℕ) (ms : List Made) : Type 0 where
  pub made : MadeOf calendar b tape notices₀ ms
  pub ends : (length ms ≡ length (whole_records tape)) ⊎ (length (still_free notices₀ ms) < notice_bytes)

abbrev pub AsManyAsFindRoom : Type 0
AsManyAsFindRoom =
    (calendar : List ℕ) (b : Book) (tape : List ℕ) (r : Replies) (answers₀ answers₁ notices₀ notices₁ : List ℕ) (ms : List Made)
    → StretchPromised calendar b tape r answers₀ answers₁ notices₀ notices₁ → number r.answer ≡ 0
    → AsFarAsTheyGo calendar b tape notices₀ ms
    → r.played ≡ length ms
