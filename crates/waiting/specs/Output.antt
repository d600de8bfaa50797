-- What the program prints: `q` and the four totals that the book after the tape keeps, In Review, Permit Pending, Scheduled and Cancel
-- Pending.
use Rattle.std.specs.Prelude.{ℕ, List, [], ◌∷◌, length}
use Rattle.tape_text.specs.Numbers.{lettered, lettered_most}
use Rattle.book.specs.declared.Waiting.{Waiting}
use Rattle.book.specs.Book.{fresh_book}
use Rattle.book.specs.CallsInRow.{records_of}
use Rattle.tape_book.specs.Played.{book_after}

-- the letter `q`
abbrev pub question_letter : ℕ
question_letter = 113

unfoldable pub waiting_line : Waiting → List ℕ
waiting_line w = lettered question_letter (w.review ∷ w.permit ∷ w.scheduled ∷ w.cancel ∷ [])

-- the most bytes that it takes
abbrev pub waiting_line_most : ℕ
waiting_line_most = lettered_most 4

-- the whole output, from a calendar and a tape
abbrev pub waiting_output : List ℕ → List ℕ → List ℕ
waiting_output calendar tape = waiting_line (book_after calendar (fresh_book 0) (records_of (length tape) tape)).waiting
