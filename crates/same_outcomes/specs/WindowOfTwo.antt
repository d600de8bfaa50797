-- Document 02, change 2, its last sentence: "From a fresh book, tapes whose creates all have detail 0 give the answers, notices and files,
-- the kept width aside, that the same rules give with a window of 2 throughout." proofs/WindowOfTwo.antt proves it. The two even keep the
-- same widths, so that the books are equal as values.
use Rattle.std.specs.Prelude.{ℕ, ◌≡◌, List, true}
use Rattle.lists.specs.Search.{Each}
use Rattle.days.specs.Window.{window_width}
use Rattle.std.specs.Prelude.{Option, Some, None}
use Rattle.records.specs.declared.Record.{Record}
use Rattle.records.specs.Layout.{wide}
use Rattle.records.specs.Records.{reading, kind_create}
use Rattle.premise.specs.declared.File.{File}
use Rattle.premise.specs.Orders.{kept_width, always}
use Rattle.premise.specs.Steps.{is}
use Rattle.book.specs.declared.Book.{Book}
use Rattle.book.specs.Book.{fresh_book}
use Rattle.demands.specs.Demand3.{Made, Played}
use Rattle.same_outcomes.specs.Outcomes.{Outcome, ToMake, outcome_by, outcomes_by, all_returned, asked}

-- what comes of calls by the rules with a width for every file, and the layout in force
abbrev pub outcome_with : (File → ℕ) → List ℕ → Book → List ℕ → List ℕ → Outcome
outcome_with = outcome_by wide

abbrev pub outcomes_with : (File → ℕ) → List ℕ → Book → List ToMake → List Outcome
outcomes_with = outcomes_by wide

-- what bytes say, if it is a create, has detail 0
abbrev pub NoDetail : Option Record → Type 0
NoDetail None = Unit {0}
NoDetail (Some r) = is kind_create r ≡ true → r.detail ≡ 0

abbrev pub NoCreateHasDetail : List ToMake → Type 0
NoCreateHasDetail cs = Each (λ (c : ToMake). NoDetail (reading c.bytes)) cs

-- ---- the theorem
abbrev pub WindowOfTwo : Type 0
WindowOfTwo =
    (calendar : List ℕ) (start : ℕ) (cs : List ToMake) → NoCreateHasDetail cs
    → outcomes_with kept_width calendar (fresh_book start) cs ≡ outcomes_with (always window_width) calendar (fresh_book start) cs

-- ---- of calls that were made
-- calls that were made from a fresh book, whose creates all have detail 0, returned what the rules give with a window of 2
abbrev pub MadeAsOfTwo : Type 0
MadeAsOfTwo =
    (calendar : List ℕ) (start : ℕ) (ms : List Made)
    → Played calendar (fresh_book start) ms → NoCreateHasDetail (asked ms)
    → all_returned ms ≡ outcomes_with (always window_width) calendar (fresh_book start) (asked ms)
