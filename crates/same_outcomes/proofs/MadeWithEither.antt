-- Either field width, of calls that were made.
use mathlib.Core.Path.{ap, sym, ◌∙◌}
use Rattle.records.specs.Layout.{wide, narrow}
use Rattle.premise.specs.Orders.{kept_width}
use Rattle.book.specs.Book.{fresh_book}
use Rattle.same_outcomes.specs.Outcomes.{outcomes_by, asked}
use Rattle.same_outcomes.specs.EitherWidth.{MadeAsNarrow, MadeWithEither}
use Rattle.same_outcomes.proofs.Outcomes.{played_is_outcomes}
use Rattle.same_outcomes.proofs.EitherWidth.{either_width}

pub made_as_narrow : MadeAsNarrow
made_as_narrow calendar start ms p n =
    played_is_outcomes wide calendar (fresh_book start) ms p ∙ sym (either_width calendar start (asked ms) n)

pub made_with_either : MadeWithEither
made_with_either calendar start old new p q same n =
    played_is_outcomes narrow calendar (fresh_book start) old p
    ∙ ap (outcomes_by narrow kept_width calendar (fresh_book start)) same
    ∙ sym (made_as_narrow calendar start new q n)
