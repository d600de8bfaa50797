-- A window of 2 throughout, of calls that were made.
use mathlib.Core.Path.{◌∙◌}
use Rattle.records.specs.Layout.{wide}
use Rattle.book.specs.Book.{fresh_book}
use Rattle.same_outcomes.specs.Outcomes.{asked}
use Rattle.same_outcomes.specs.WindowOfTwo.{MadeAsOfTwo}
use Rattle.same_outcomes.proofs.Outcomes.{played_is_outcomes}
use Rattle.same_outcomes.proofs.WindowOfTwo.{window_of_two}

pub made_as_of_two : MadeAsOfTwo
made_as_of_two calendar start ms p n = played_is_outcomes wide calendar (fresh_book start) ms p ∙ window_of_two calendar start (asked ms) n
