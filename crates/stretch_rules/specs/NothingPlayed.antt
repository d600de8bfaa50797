-- Document 02, change 5, where nothing is played or nothing is changed, written out: 19, too few notice bytes, a book that is not well
-- kept. proofs/NothingPlayed.antt proves each from the promise.
use Rattle.std.specs.Prelude.{ℕ, ◌≤◌, ◌<◌, ◌≡◌, ◌↔◌, List, ◌++◌, false, length, drop, replicate}
use Rattle.book.specs.declared.Book.{Book}
use Rattle.book.specs.Book.{book_kept}
use Rattle.book.specs.Calls.{notice_bytes}
use Rattle.stretch_rules.specs.declared.Replies.{Replies}
use Rattle.stretch_rules.specs.Stretch.{number, whole_count, StretchPromised}

-- what a call returned: its number, how many records and how many notices, and the book
pub record Came (r : Replies) (answer records notices : ℕ) (b : Book) : Type 0 where
  pub answered : number r.answer ≡ answer
  pub played : r.played ≡ records
  pub sent : r.sent ≡ notices
  pub book : r.book ≡ b

-- "19 when the answer buffer is shorter than the number of whole records in the stretch, before anything is played; both counts are then
-- zero, and book and buffers are untouched": whatever the book and the notice buffer.
pub record Nineteen (b : Book) (tape : List ℕ) (r : Replies) (answers₀ answers₁ notices₀ notices₁ : List ℕ) : Type 0 where
  pub exactly : (number r.answer ≡ 19) ↔ (length answers₀ < whole_count tape)
  pub came : number r.answer ≡ 19 → Came r 19 0 0 b
  pub answers : number r.answer ≡ 19 → answers₁ ≡ answers₀
  pub notices : number r.answer ≡ 19 → notices₁ ≡ notices₀

abbrev pub FewAnswersFirst : Type 0
FewAnswersFirst =
    (calendar : List ℕ) (b : Book) (tape : List ℕ) (r : Replies) (answers₀ answers₁ notices₀ notices₁ : List ℕ)
    → StretchPromised calendar b tape r answers₀ answers₁ notices₀ notices₁
    → Nineteen b tape r answers₀ answers₁ notices₀ notices₁

-- "the call returns 0, even where a single call would get 1": under 24,576 notice bytes nothing is played, whatever the book
pub record NoRoom (b : Book) (r : Replies) (answers₀ answers₁ notices₀ notices₁ : List ℕ) : Type 0 where
  pub came : Came r 0 0 0 b
  pub answers : answers₁ ≡ answers₀
  pub notices : notices₁ ≡ notices₀

abbrev pub ZeroWithoutRoom : Type 0
ZeroWithoutRoom =
    (calendar : List ℕ) (b : Book) (tape : List ℕ) (r : Replies) (answers₀ answers₁ notices₀ notices₁ : List ℕ)
    → StretchPromised calendar b tape r answers₀ answers₁ notices₀ notices₁
    → whole_count tape ≤ length answers₀ → length notices₀ < notice_bytes
    → NoRoom b r answers₀ answers₁ notices₀ notices₁

-- ".. or 2": on a book that is not well kept every whole record is played and answered 2, with no notice, and leaves it as it was
pub record AllTwo (b : Book) (tape : List ℕ) (r : Replies) (answers₀ answers₁ notices₀ notices₁ : List ℕ) : Type 0 where
  pub came : Came r 0 (whole_count tape) 0 b
  pub answers : answers₁ ≡ replicate (whole_count tape) 2 ++ drop (whole_count tape) answers₀
  pub notices : notices₁ ≡ notices₀

abbrev pub TwoForEachRecord : Type 0
TwoForEachRecord =
    (calendar : List ℕ) (b : Book) (tape : List ℕ) (r : Replies) (answers₀ answers₁ notices₀ notices₁ : List ℕ)
    → StretchPromised calendar b tape r answers₀ answers₁ notices₀ notices₁
    → whole_count tape ≤ length answers₀ → notice_bytes ≤ length notices₀ → book_kept b ≡ false
    → AllTwo b tape r answers₀ answers₁ notices₀ notices₁
