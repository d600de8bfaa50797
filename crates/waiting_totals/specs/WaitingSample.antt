-- Lists of calls that are computed: document 01's tape up to its third record and whole, and one that leaves orders in each open status.
use Rattle.std.specs.Prelude.{ℕ, ◌≡◌, List, [], ◌∷◌, ◌++◌}
use Rattle.book.specs.declared.Waiting.{Waiting}
use Rattle.book.specs.Book.{fresh_book}
use Rattle.demands.specs.Demand3.{Made, last_book}
use Rattle.demands.specs.Sample.{plays, plain, calendar, create7, order7}

-- In Review, Permit Pending, Scheduled, Cancel Pending
abbrev pub four : ℕ → ℕ → ℕ → ℕ → Waiting
four review permit dated cancel = record { review = review; permit = permit; scheduled = dated; cancel = cancel }

-- ---- document 01's tape: create 7; a standard switch; it is scheduled for day 0; it is read
unfoldable pub first_three : List (List ℕ)
first_three = create7 ∷ order7 ∷ plain 4 0 0 0 1 7 0 ∷ []

unfoldable pub tape : List (List ℕ)
tape = first_three ++ (plain 7 0 0 0 1 7 0 ∷ [])

unfoldable pub scheduled_one : List Made
scheduled_one = plays calendar (fresh_book 0) first_three

unfoldable pub complete_one : List Made
complete_one = plays calendar (fresh_book 0) tape

-- ---- on premises 7 and 5 drops for day 5: two stay In Review, the third is scheduled for day 12, the fourth cancelled by its retailer; a
-- move in awaits its permit; a byte that is no record is refused; and the next day is marked
unfoldable pub drop_on : ℕ → ℕ → List ℕ
drop_on premise reference = plain 3 5 5 0 reference premise 202

unfoldable pub each : List (List ℕ)
each =
    plain 1 0 0 0 0 7 101 ∷ plain 1 0 0 0 0 5 102 ∷ drop_on 7 1 ∷ drop_on 5 2 ∷ drop_on 7 3 ∷ plain 4 0 12 0 3 7 0 ∷ drop_on 5 4
    ∷ plain 8 0 0 0 4 5 202 ∷ plain 3 1 5 0 6 7 203 ∷ plain 5 0 0 0 6 7 0 ∷ (3 ∷ []) ∷ plain 10 0 11 0 0 0 0 ∷ []

-- from day 10 on, with an empty calendar
unfoldable pub sample : List Made
sample = plays [] (fresh_book 10) each

-- ---- what the books keep
pub record Comes : Type 0 where
  pub third : (last_book (fresh_book 0) scheduled_one).waiting ≡ four 0 0 1 0
  pub whole : (last_book (fresh_book 0) complete_one).waiting ≡ four 0 0 0 0
  pub all : (last_book (fresh_book 10) sample).waiting ≡ four 2 1 1 1
