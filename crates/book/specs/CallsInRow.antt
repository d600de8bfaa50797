-- Record calls in a row: the records of a stretch of tape, one call each, each on the book that the one before returned and each into the
-- notice bytes still free.
use Rattle.std.specs.Prelude.{ℕ, zero, suc, ◌*◌, ◌-◌, ◌≡◌, List, [], ◌∷◌, ◌++◌, map, cond, ltb, length, take, drop, replicate}
use Rattle.records.specs.declared.Notice.{Notice}
use Rattle.records.specs.Layout.{record_length}
use Rattle.records.specs.Notices.{Emits}
use Rattle.std.specs.Prelude.{Ok}
use Rattle.premise.specs.Refusals.{Answer}
use Rattle.premise.specs.Refusals.{number}
use Rattle.book.specs.declared.Book.{Book}
use Rattle.book.specs.declared.Playback.{Playback}
use Rattle.book.specs.Calls.{notice_bytes, Result, call}

-- The records of a stretch, 24 bytes each, at most so many; the last may be short.
abbrev pub records_of : ℕ → List ℕ → List (List ℕ)
records_of zero tape = []
records_of (suc most) [] = []
records_of (suc most) (byte ∷ tape) = take record_length (byte ∷ tape) ∷ records_of most (drop record_length (byte ∷ tape))

-- the single call of a record: its buffer is long enough, and of a long enough one a call sees no more
abbrev pub called : List ℕ → Book → List ℕ → Result
called calendar b bytes = call calendar b bytes (replicate notice_bytes 0)

-- what calls in a row give: what each gave, in order, the book that the last returned, and the records that were not played
pub record Course : Type 0 where
  pub results : List Result
  pub book : Book
  pub left : List (List ℕ)

abbrev pub stopped : Book → List (List ℕ) → Course
stopped b records = record { results = []; book = b; left = records }

abbrev pub and_then : Result → Course → Course
and_then first others = record { results = first ∷ others.results; book = others.book; left = others.left }

-- It stops before the first record that would find fewer than 24,576 bytes free.
unfoldable pub calls_in_row : List ℕ → ℕ → Book → List (List ℕ) → Course
calls_in_row calendar free b [] = stopped b []
calls_in_row calendar free b (bytes ∷ rest) =
    cond (ltb free notice_bytes) (stopped b (bytes ∷ rest))
    (and_then (called calendar b bytes)
    (calls_in_row calendar (free - record_length * length (called calendar b bytes).notices) (called calendar b bytes).book rest))

-- ---- what is noted of each call: the number of its answer, how many notices it gave, and these behind those of the calls before it
abbrev pub answers_of : List Result → List ℕ
answers_of results = map (λ (x : Result). number x.answer) results

abbrev pub counts_of : List Result → List ℕ
counts_of results = map (λ (x : Result). length x.notices) results

abbrev pub notices_of : List Result → List Notice
notices_of [] = []
notices_of (x ∷ xs) = x.notices ++ notices_of xs

-- the answer of the last call; acceptance where there was none
abbrev pub last_answer : Answer → List Result → Answer
last_answer answer [] = answer
last_answer answer (x ∷ xs) = last_answer x.answer xs

-- numbers noted at the front of a list, the rest of which stays
abbrev pub Noted : List ℕ → List ℕ → List ℕ → Type 0
Noted numbers before after = after ≡ numbers ++ drop (length numbers) before

-- What the code promises: everything that comes out, by equation. Each buffer is named as it was lent, and then as it was left.
pub record Plays (course : Course) (r : Playback) (answers₀ answers₁ counts₀ counts₁ notices₀ notices₁ : List ℕ) : Type 0 where
  pub book : r.book ≡ course.book
  pub played : r.played ≡ length course.results
  pub last : r.last ≡ last_answer (Ok tt) course.results
  pub answers : Noted (answers_of course.results) answers₀ answers₁
  pub counts : Noted (counts_of course.results) counts₀ counts₁
  pub notices : Emits notices₀ notices₁ r.sent (notices_of course.results)
