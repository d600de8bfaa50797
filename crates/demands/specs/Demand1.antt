-- Demand 1, over the record call's promise; proofs/Demand1.antt proves it.
use Rattle.std.specs.Prelude.{ℕ, ◌≡◌, ◌↔◌, List, false}
use Rattle.lists.specs.Search.{any_of}
use Rattle.premise.specs.Refusals.{Row, first_row, number}
use Rattle.book.specs.declared.Book.{Book}
use Rattle.book.specs.declared.Reply.{Reply}
use Rattle.book.specs.Calls.{call_rows}
use Rattle.book.specs.Promise.{Promised}

-- A call that meets a row of the table gets the number of the first such row ..
abbrev pub FirstRowAnswers : Type 0
FirstRowAnswers =
    (calendar : List ℕ) (b : Book) (bytes before : List ℕ) (r : Reply) (after : List ℕ)
    → Promised calendar b bytes before r after
    → r.answer ≡ first_row (call_rows calendar b bytes before)

-- .. and changes neither book nor notice bytes.
pub record Unchanged (b : Book) (before : List ℕ) (r : Reply) (after : List ℕ) : Type 0 where
  pub book : r.book ≡ b
  pub bytes : after ≡ before
  pub none : r.sent ≡ 0

abbrev pub RefusalChangesNothing : Type 0
RefusalChangesNothing =
    (calendar : List ℕ) (b : Book) (bytes before : List ℕ) (r : Reply) (after : List ℕ)
    → Promised calendar b bytes before r after → (number r.answer ≡ 0 → ⊥) → Unchanged b before r after

-- Everything else is accepted: 0 if and only if no row holds.
abbrev pub ZeroWhereNoRow : Type 0
ZeroWhereNoRow =
    (calendar : List ℕ) (b : Book) (bytes before : List ℕ) (r : Reply) (after : List ℕ)
    → Promised calendar b bytes before r after
    → (number r.answer ≡ 0) ↔ (any_of (λ (x : Row). x.when) (call_rows calendar b bytes before) ≡ false)
