-- The table of a call: its first row is acceptance exactly where none holds, and with rows 1, 2 and 6 out of the way it is the table
-- of the one-premise rules. Assumes nothing.
use Prim.Native.Nat.{ℕ, ◌≤◌}
use mathlib.Core.Path.{◌≡◌, refl, sym, ◌∙◌, ap, ap₂}
use mathlib.Core.Logic.{◌↔◌}
use mathlib.Core.List.{List, [], ◌∷◌, ◌++◌}
use Rattle.std.specs.Prelude.{Option, Some, None}
use mathlib.Core.Bool.{Bool, true, false, cond, not, ◌&&◌, ◌||◌, false≢true, and-false}
use lib.Dec.{eqb, ltb}
use lib.ListN.{length}
use borrow.Author.Tests.{le-ltb, ltb-false, not-false}
use denote.Enum.Declared.{tag_of}
use Rattle.lists.specs.Search.{any_of}
use Rattle.lists.proofs.TestLaws.{or_left, or_right}
use Rattle.records.specs.declared.Record.{Record}
use Rattle.records.specs.Records.{reading, kind_create}
use Rattle.premise.specs.declared.File.{File}
use Rattle.std.specs.Prelude.{Ok, Err, is_ok}
use Rattle.premise.specs.Refusals.{Answer}
use Rattle.premise.specs.declared.Refusal.TheVariants.{ShortBuffer, NotWellKept, MalformedRecord, BookFull}
use Rattle.premise.specs.Steps.{is}
use Rattle.premise.specs.Refusals.{Row, row, first_row, number, is_held, premise_rows, file_rows, rows}
use Rattle.premise.proofs.Answers.{first_row_skips, answer_is_first_row, zero_where_no_row, holds}
use Rattle.premise.proofs.Table.{accepted_is_zero, create_held}
use Rattle.premise.specs.declared.Refusal.{Refusal}
use Rattle.book.specs.declared.Book.{Book}
use Rattle.book.specs.Book.{most_files, files_of, book_kept, file_for}
use Rattle.book.specs.Calls.{notice_bytes, record_rows, call_rows, premise_state, meets_row6, call_rows_by}

-- ---- which answers refuse
abbrev pub Refuses : Answer → Type 0
Refuses answer = number answer ≡ 0 → ⊥

-- every row does
pub refusing : (why : Refusal) → Refuses (Err why)
refusing why e = absurd (false≢true (ap is_ok ((accepted_is_zero (Err why)).0 e)))

-- ---- a table whose first row is acceptance exactly where none holds
abbrev ExactIf : Bool → Answer → List Row → Type 0
ExactIf when answer rs = (number (cond when answer (first_row rs)) ≡ 0) ↔ ((when || any_of holds rs) ≡ false)

abbrev pub Exact : List Row → Type 0
Exact rs = (number (first_row rs) ≡ 0) ↔ (any_of holds rs ≡ false)

exact_cons : (why : Refusal) (when : Bool) (rs : List Row) → Exact rs → Exact (row why when ∷ rs)
exact_cons why true rs h = ((λ e. absurd (refusing why e)), (λ e. absurd (false≢true (sym e))))
exact_cons why false rs h = h

exact_insert : (a b : List Row) (why : Refusal) (when : Bool) → Exact (a ++ b) → Exact (a ++ (row why when ∷ b))
exact_insert [] b why when h = exact_cons why when b h
exact_insert (x ∷ a) b why when h = go x.when h (exact_insert a b why when)
  where
    go : (w : Bool) → ExactIf w x.answer (a ++ b) → (Exact (a ++ b) → Exact (a ++ (row why when ∷ b)))
        → ExactIf w x.answer (a ++ (row why when ∷ b))
    go true h ih = h
    go false h ih = ih h

-- none holds: not this one
none_holds : (a : List Row) (x : Row) (b : List Row) → any_of holds (a ++ (x ∷ b)) ≡ false → x.when ≡ false
none_holds [] x b e = or_left x.when (any_of holds b) e
none_holds (y ∷ a) x b e = none_holds a x b (or_right y.when (any_of holds (a ++ (x ∷ b))) e)

-- ---- the call's table
-- what is known of a call that is accepted: its buffer is long enough, its book well kept, and no row of its record holds
pub record FileAfter (calendar : List ℕ) (b : Book) (bytes lent : List ℕ) : Type 0 where
  pub room : notice_bytes ≤ length lent
  pub kept : book_kept b ≡ true
  pub none : any_of holds (record_rows calendar b (reading bytes)) ≡ false

-- a record of a premise that is held does not meet row 6
pub not_new : (b : Book) (r : Record) (f : File) → file_for r.premise (files_of b) ≡ Some f → meets_row6 b (Some r) ≡ false
not_new b r f found =
    ap (λ (x : Option File). is kind_create r && not (is_held x) && eqb (length (files_of b)) most_files) found
    ∙ ap (λ (a : Bool). a && eqb (length (files_of b)) most_files) (and-false (is kind_create r))

module _ (calendar : List ℕ) (b : Book) where
  -- a record that does not meet row 6 meets the rows of the one-premise rules
  pub rows_of_one : (r : Record) → meets_row6 b (Some r) ≡ false
      → first_row (record_rows calendar b (Some r)) ≡ first_row (rows calendar b.today (file_for r.premise (files_of b)) r)
  rows_of_one r e = go (is kind_create r) (eqb (length (files_of b)) most_files) (file_for r.premise (files_of b)) refl e
    where
      go : (creates full : Bool) (file : Option File) → is kind_create r ≡ creates → (creates && not (is_held file) && full) ≡ false
          → first_row (premise_rows file r ++ (row BookFull (creates && full) ∷ file_rows calendar b.today file r))
          ≡ first_row (rows calendar b.today file r)
      go false full file t e =
          first_row_skips (premise_rows file r) (row BookFull false) (file_rows calendar b.today file r) refl
      go true false file t e =
          first_row_skips (premise_rows file r) (row BookFull false) (file_rows calendar b.today file r) refl
      go true true None t e = absurd (false≢true (sym e))
      go true true (Some f) t e =
          create_held f r (row BookFull true ∷ file_rows calendar b.today (Some f) r) t
          ∙ sym (create_held f r (file_rows calendar b.today (Some f) r) t)

  -- row 3 holds of malformed bytes
  pub not_malformed : any_of holds (record_rows calendar b None) ≡ false → ⊥
  not_malformed e = false≢true (sym e)

  -- where no row holds, row 6 does not
  pub not_full : (r : Record) → any_of holds (record_rows calendar b (Some r)) ≡ false
      → (is kind_create r && eqb (length (files_of b)) most_files) ≡ false
  not_full r e =
      let file : Option File = file_for r.premise (files_of b) in
      let full : Bool = is kind_create r && eqb (length (files_of b)) most_files in
      none_holds (row MalformedRecord false ∷ premise_rows file r) (row BookFull full) (file_rows calendar b.today file r) e

  record_exact : (d : Option Record) → Exact (record_rows calendar b d)
  record_exact None =
      exact_cons MalformedRecord true [] ((λ e. refl), (λ e. (accepted_is_zero (Ok tt)).1 refl))
  record_exact (Some r) =
      let file : Option File = file_for r.premise (files_of b) in
      let law = zero_where_no_row calendar (premise_state b r.premise) r in
      let exact : Exact (rows calendar b.today file r) = rw (answer_is_first_row calendar (premise_state b r.premise) r) at law in
      exact_insert (premise_rows file r) (file_rows calendar b.today file r) BookFull
      (is kind_create r && eqb (length (files_of b)) most_files) exact

module _ (calendar : List ℕ) (b : Book) (bytes lent : List ℕ) where
  -- with a long enough buffer and a well_kept book the first row is one of the record's
  pub record_decides : notice_bytes ≤ length lent → book_kept b ≡ true
      → first_row (call_rows calendar b bytes lent) ≡ first_row (record_rows calendar b (reading bytes))
  unfolding call_rows_by
  record_decides h k =
      ap₂ (λ (short kept : Bool). first_row (row ShortBuffer short ∷ row NotWellKept (not kept) ∷ record_rows calendar b (reading bytes)))
      (le-ltb (length lent) notice_bytes h) k

  pub call_exact : Exact (call_rows calendar b bytes lent)
  unfolding call_rows_by
  call_exact =
      let rest : List Row = record_rows calendar b (reading bytes) in
      exact_cons ShortBuffer (ltb (length lent) notice_bytes) (row NotWellKept (not (book_kept b)) ∷ rest)
      (exact_cons NotWellKept (not (book_kept b)) rest (record_exact calendar b (reading bytes)))

  pub passed : number (first_row (call_rows calendar b bytes lent)) ≡ 0 → FileAfter calendar b bytes lent
  unfolding call_rows_by
  passed e =
      let short : Bool = ltb (length lent) notice_bytes in
      let unkept : Bool = not (book_kept b) in
      let rest : Bool = any_of holds (record_rows calendar b (reading bytes)) in
      let t : (short || (unkept || rest)) ≡ false = call_exact.0 e in
      let u : (unkept || rest) ≡ false = or_right short (unkept || rest) t in
      record {
        room = ltb-false (length lent) notice_bytes (or_left short (unkept || rest) t);
        kept = not-false (book_kept b) (or_left unkept rest u);
        none = or_right unkept rest u;
      }
