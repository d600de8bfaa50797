-- The samples hold: computed. Assumes nothing.
use mathlib.Core.Path.{◌≡◌, refl}
use mathlib.Core.Bool.{true}
use Rattle.premise.specs.WellKept.{order_kept_by, is_blank, file_kept_by, file_blank}
use Rattle.book.specs.Totals.{waiting_in}
use Rattle.book.specs.Book.{book_of, book_kept_by}
use Rattle.sheet_rules.specs.Sheet.{number, tally_of, counted, row_sound, sheet_answer, rows_after}
use Rattle.sheet_rules.specs.Samples.{all_hold}

pub samples : all_hold ≡ true
unfolding order_kept_by is_blank file_kept_by file_blank waiting_in book_of book_kept_by number tally_of counted row_sound sheet_answer rows_after
samples = refl
