-- A call by what its record says, without a look into the files: malformed bytes, a record of a premise that is not held, a day mark.
-- Assumes nothing.
use mathlib.Core.Path.{◌≡◌, refl, ap, ◌∙◌}
use mathlib.Core.List.{List, ◌∷◌, ◌++◌}
use Rattle.std.specs.Prelude.{Option, Some, None}
use Rattle.records.specs.declared.Record.{Record}
use mathlib.Core.Bool.{Bool, false, cond, not, ◌&&◌}
use native.Mathlib.Omega.{arith}
use lib.Dec.{eqb}
use lib.ListN.{length}
use borrow.Author.Tests.{eqb-true, ne_eqb}
use Rattle.records.specs.Layout.{wide}
use Rattle.records.specs.Records.{reading, kind_create, kind_day_mark}
use Rattle.premise.specs.declared.File.{File}
use Rattle.std.specs.Prelude.{Err}
use Rattle.premise.specs.Refusals.{Answer}
use Rattle.premise.specs.declared.Refusal.TheVariants.{NoSuchPremise, BookFull}
use Rattle.premise.specs.Steps.{is}
use Rattle.premise.specs.Refusals.{Row, row, first_row, is_held, premise_rows, file_rows}
use Rattle.premise.proofs.Table.{needs_file}
use Rattle.book.specs.Book.{most_files, files_of, file_for}
use Rattle.book.specs.Calls.{record_rows, meets_row6, on_day_mark, as_one, call_by}
use Rattle.book.specs.Laws.{CallMalformed, CallNotHeld, CallOnMark}
use Rattle.book.proofs.Kept.{book_kept_means}
use Rattle.book.proofs.Rows.{refusing, record_decides}
use Rattle.book.proofs.RowsInOrder.{malformed_by}
use Rattle.book.proofs.Acts.{decided, refuses, acted, call_acts}

pub call_malformed : CallMalformed
call_malformed calendar b bytes lent well room e = malformed_by wide calendar b bytes lent room well e

-- ---- a premise that is not held
pub call_not_held : CallNotHeld
unfolding call_by
call_not_held calendar b bytes lent r well room e needs absent =
    let full : Row = row BookFull (is kind_create r && eqb (length (files_of b)) most_files) in
    let later : Option File → List Row = (λ file. full ∷ file_rows calendar b.today file r) in
    ap (λ (first : Answer). decided calendar b first (reading bytes))
    (record_decides calendar b bytes lent room well ∙ ap (λ (d : Option Record). first_row (record_rows calendar b d)) e
    ∙ ap (λ (file : Option File). first_row (premise_rows file r ++ later file)) absent ∙ needs_file r (later None) needs)
    ∙ refuses calendar b (Err NoSuchPremise) (reading bytes) (refusing NoSuchPremise)

-- ---- a day mark
pub call_on_mark : CallOnMark
call_on_mark calendar b bytes lent r well room e mark =
    let other : is kind_create r ≡ false = ne_eqb r.kind kind_create (λ q. omega (arith, q, eqb-true r.kind kind_day_mark mark)) in
    let not_new : meets_row6 b (Some r) ≡ false =
    ap (λ (a : Bool). a && not (is_held (file_for r.premise (files_of b))) && eqb (length (files_of b)) most_files) other in
    call_acts calendar b bytes lent ((book_kept_means b).0 well) room (ap (meets_row6 b) e ∙ not_new) ∙ ap (acted calendar b) e
    ∙ ap (λ (a : Bool). cond a (on_day_mark calendar b r) (as_one calendar b r)) mark
