-- The book after the records of a tape, a record call each.
use Rattle.std.specs.Prelude.{ℕ, List, [], ◌∷◌}
use Rattle.book.specs.declared.Book.{Book}
use Rattle.book.specs.CallsInRow.{called}

abbrev pub book_after : List ℕ → Book → List (List ℕ) → Book
book_after calendar b [] = b
book_after calendar b (bytes ∷ rest) = book_after calendar (called calendar b bytes).book rest
