-- Record calls that were made one after the other are record calls in a row as the definition has them, whatever the book: what
-- `book_player::play` promises of one that is well kept holds of them too; proofs/CallsAreRow.antt proves it (`calls_are_row`).
use Rattle.std.specs.Prelude.{ℕ, List, length}
use Rattle.book.specs.declared.Book.{Book}
use Rattle.book.specs.declared.Playback.{Playback}
use Rattle.book.specs.CallsInRow.{calls_in_row, Plays}
use Rattle.demands.specs.Demand3.{Made}
use Rattle.call_row_rules.specs.CallsMade.{CallsMade}

abbrev pub CallsAreRow : Type 0
CallsAreRow =
    (calendar : List ℕ) (b : Book) (records : List (List ℕ)) (r : Playback)
    (answers₀ answers₁ counts₀ counts₁ notices₀ notices₁ : List ℕ) (made : List Made)
    → CallsMade calendar b records r answers₀ answers₁ counts₀ counts₁ notices₀ notices₁ made
    → Plays (calls_in_row calendar (length notices₀) b records) r answers₀ answers₁ counts₀ counts₁ notices₀ notices₁
