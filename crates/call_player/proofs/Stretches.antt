-- A row that is played by record calls is played as by the one loop over its records. Assumes nothing.
use Prim.Native.Nat.{ℕ, ◌≤◌, min}
use mathlib.Core.Path.{◌≡◌, subst}
use mathlib.Core.List.{List}
use native.Mathlib.Omega.{arith}
use lib.ListN.{length}
use Rattle.book.specs.declared.Book.{Book}
use Rattle.book.specs.declared.Playback.{Playback}
use Rattle.book.specs.CallsInRow.{records_of, calls_in_row, Plays}
use Rattle.demands.specs.Demand3.{Made}
use Rattle.call_row_rules.specs.CallsMade.{CallsMade}
use Rattle.call_row_rules.proofs.CallsAreRow.{calls_are_row}

-- Where there are as many counts as answers, as many records are played as there are answers.
pub as_one_loop : (calendar : List ℕ) (b : Book) (tape answers counts notices : List ℕ) → length answers ≤ length counts
    → (r : Playback) (answers' counts' notices' : List ℕ)
    → ((made : List Made)
    × CallsMade calendar b (records_of (min (length answers) (length counts)) tape) r
    answers answers' counts counts' notices notices' made)
    → Plays (calls_in_row calendar (length notices) b (records_of (length answers) tape)) r
    answers answers' counts counts' notices notices'
as_one_loop calendar b tape answers counts notices enough r answers' counts' notices' calls =
    let many : min (length answers) (length counts) ≡ length answers = omega arith in
    subst
    (λ (n : ℕ). Plays (calls_in_row calendar (length notices) b (records_of n tape)) r
    answers answers' counts counts' notices notices')
    many
    (calls_are_row calendar b _ r answers answers' counts counts' notices notices' calls.0 calls.1)
