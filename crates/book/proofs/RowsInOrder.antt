-- The table of a call in its order: the rows' numbers, rows 1 and 2 before all that come after them, rows 2 and 3 by any layout, and
-- what the rows see of the buffer. Assumes nothing.
use Prim.Native.Nat.{ℕ}
use mathlib.Core.Path.{◌≡◌, refl, sym, ap, ap₂, ◌∙◌}
use mathlib.Core.List.{List, [], ◌∷◌, ◌++◌, map-append}
use mathlib.Core.Bool.{Bool, true, false, cond, not, ◌&&◌}
use lib.Dec.{eqb, ltb}
use lib.ListN.{length, get_or}
use borrow.Author.Tests.{ne_eqb, lt-ltb, le-ltb}
use Rattle.std.specs.Prelude.{Option}
use Rattle.records.specs.declared.Record.{Record}
use Rattle.records.specs.Layout.{wide}
use Rattle.records.specs.Records.{reading_by, reading, kind_create}
use Rattle.std.specs.Prelude.{Err}
use Rattle.premise.specs.Refusals.{Answer}
use Rattle.premise.specs.declared.Refusal.TheVariants.{ShortBuffer, NotWellKept, MalformedRecord, BookFull}
use Rattle.premise.specs.Steps.{is}
use Rattle.premise.specs.Orders.{kept_width}
use Rattle.premise.specs.Refusals.{Row, row, first_row, number, orders_of, premise_rows, file_rows, width_in}
use Rattle.premise.specs.Laws.{row_numbers}
use Rattle.premise.proofs.Table.{premise_row_numbers, order_row_numbers, book_answers}
use Rattle.book.specs.declared.Book.{Book}
use Rattle.book.specs.Book.{most_files, files_of, book_kept, file_for}
use Rattle.book.specs.Calls.{notice_bytes, record_rows, call_rows_by, call_rows, Result, on_reading, refusal, call_by, call}
use Rattle.book.specs.Laws.{RowsOfRecord, RowsOfMalformed, CallShort, CallNotKept, NotKeptBy, MalformedBy, CallByEither}
use Rattle.book.specs.Laws.{CallSeesRoom}
use Rattle.book.proofs.Rows.{refusing}
use Rattle.book.proofs.CallAnswer.{call_refused}

-- ---- the numbers
short_is_1 : number (Err ShortBuffer) ≡ 1
short_is_1 = ap (λ (ns : List ℕ). get_or ns 0 0) book_answers

unkept_is_2 : number (Err NotWellKept) ≡ 2
unkept_is_2 = ap (λ (ns : List ℕ). get_or ns 1 0) book_answers

malformed_is_3 : number (Err MalformedRecord) ≡ 3
malformed_is_3 = ap (λ (ns : List ℕ). get_or ns 2 0) book_answers

full_is_6 : number (Err BookFull) ≡ 6
full_is_6 = ap (λ (ns : List ℕ). get_or ns 3 0) book_answers

module _ (calendar : List ℕ) (b : Book) (bytes lent : List ℕ) where
  -- rows 1 and 2, and then the record's
  first_two : row_numbers (call_rows calendar b bytes lent) ≡ 1 ∷ 2 ∷ row_numbers (record_rows calendar b (reading bytes))
  unfolding call_rows_by
  first_two = ap₂ (λ (n m : ℕ). n ∷ m ∷ row_numbers (record_rows calendar b (reading bytes))) short_is_1 unkept_is_2

pub rows_of_malformed : RowsOfMalformed
rows_of_malformed calendar b bytes lent e =
    first_two calendar b bytes lent ∙ ap (λ (d : Option Record). 1 ∷ 2 ∷ row_numbers (record_rows calendar b d)) e
    ∙ ap (λ (n : ℕ). 1 ∷ 2 ∷ n ∷ []) malformed_is_3

pub rows_of_record : RowsOfRecord
rows_of_record calendar b bytes lent r e =
    let file = file_for r.premise (files_of b) in
    let full : Row = row BookFull (is kind_create r && eqb (length (files_of b)) most_files) in
    let later : List Row = file_rows calendar b.today file r in
    first_two calendar b bytes lent ∙ ap (λ (d : Option Record). 1 ∷ 2 ∷ row_numbers (record_rows calendar b d)) e
    ∙ ap₂ (λ (n : ℕ) (ns : List ℕ). 1 ∷ 2 ∷ n ∷ ns) malformed_is_3
    (map-append (λ (x : Row). number x.answer) (premise_rows file r) (full ∷ later)
    ∙ ap₂ ◌++◌ (premise_row_numbers file r) (ap₂ ◌∷◌ full_is_6 (order_row_numbers (width_in kept_width file) calendar b.today
    (orders_of file) r)))

-- ---- rows 1 and 2 come first
module _ (calendar : List ℕ) (b : Book) (bytes lent : List ℕ) where
  -- a call whose first row is one that refuses
  refused_by : (answer : Answer) → (number answer ≡ 0 → ⊥) → first_row (call_rows calendar b bytes lent) ≡ answer
      → call calendar b bytes lent ≡ refusal answer b
  refused_by answer n e =
      call_refused calendar b bytes lent (λ z. n (sym (ap number e) ∙ z)) ∙ ap (λ (first : Answer). refusal first b) e

pub call_short : CallShort
unfolding call_rows_by
call_short calendar b bytes lent h =
    refused_by calendar b bytes lent (Err ShortBuffer) (refusing ShortBuffer)
    (ap (λ (short : Bool). first_row (row ShortBuffer short ∷ row NotWellKept (not (book_kept b)) ∷ record_rows calendar b (reading bytes)))
    (lt-ltb (length lent) notice_bytes h))

-- ---- rows 2 and 3, by any layout
-- a call by what rows 1 and 2 ask and what its bytes say
by_rows : List ℕ → Book → Bool → Bool → Option Record → Result
by_rows calendar b short kept d =
    let rows : List Row = row ShortBuffer short ∷ row NotWellKept (not kept) ∷ record_rows calendar b d in
    cond (eqb (number (first_row rows)) 0) (on_reading calendar b d) (refusal (first_row rows) b)

pub not_kept_by : NotKeptBy
unfolding call_by call_rows_by by_rows
not_kept_by layout calendar b bytes lent h k =
    ap₂ (λ (short kept : Bool). by_rows calendar b short kept (reading_by layout bytes)) (le-ltb (length lent) notice_bytes h) k
    ∙ rw (ne_eqb (number (Err NotWellKept)) 0 (refusing NotWellKept)) refl

pub malformed_by : MalformedBy
unfolding call_by call_rows_by by_rows
malformed_by layout calendar b bytes lent h k e =
    ap₂ (λ (short kept : Bool). by_rows calendar b short kept (reading_by layout bytes)) (le-ltb (length lent) notice_bytes h) k
    ∙ ap (by_rows calendar b false true) e
    ∙ rw (ne_eqb (number (Err MalformedRecord)) 0 (refusing MalformedRecord)) refl

pub call_by_either : CallByEither
unfolding call_by call_rows_by by_rows
call_by_either one other calendar b bytes lent kept says = ap₂ (by_rows calendar b (ltb (length lent) notice_bytes)) kept says

pub call_not_kept : CallNotKept
call_not_kept calendar b bytes lent h k = not_kept_by wide calendar b bytes lent h k

-- ---- and of its buffer row 1 sees the length alone, and no other row anything
pub call_sees_room : CallSeesRoom
unfolding call_by call_rows_by
call_sees_room calendar b bytes lent other same = rw same
