-- `nothing` meets its contract: no file, no order.
use mathlib.Core.Path.{refl}
use Rattle.book.specs.Totals.{waiting_in}
use Rattle.book_files.proofs.waiting.nothing.Goals as goal

pub returns : goal.returns
unfolding waiting_in
returns c = refl
