-- Row 6: a record that meets it is answered 6, and no other is. Assumes nothing.
use Prim.Native.Nat.{ℕ}
use mathlib.Core.Path.{◌≡◌, refl, sym, ◌∙◌}
use mathlib.Core.Logic.{◌↔◌}
use mathlib.Core.List.{List, ◌∷◌, ◌++◌}
use Rattle.std.specs.Prelude.{Option, Some, None}
use mathlib.Core.Bool.{Bool, true, false, not, ◌&&◌, false≢true}
use native.Mathlib.Omega.{arith}
use lib.Dec.{eqb}
use lib.ListN.{length}
use Rattle.lists.proofs.TestLaws.{and_left, and_right}
use Rattle.records.specs.declared.Record.{Record}
use Rattle.records.specs.Records.{reading, kind_create}
use Rattle.premise.specs.declared.File.{File}
use Rattle.std.specs.Prelude.{Err}
use Rattle.premise.specs.declared.Refusal.TheVariants.{BookFull}
use Rattle.premise.specs.Steps.{is}
use Rattle.premise.specs.Refusals.{row, first_row, is_held, premise_rows, file_rows}
use Rattle.premise.proofs.Answers.{create_passes}
use Rattle.premise.proofs.Table.{full_is_six, no_row_6}
use Rattle.book.specs.declared.Book.{Book}
use Rattle.book.specs.Book.{most_files, files_of, file_for}
use Rattle.book.specs.Calls.{record_rows, meets_row6}
use Rattle.book.specs.Laws.{AnsweredFull}
use Rattle.book.proofs.Rows.{rows_of_one, record_decides}
use Rattle.book.proofs.CallAnswer.{call_answer}

module _ (calendar : List ℕ) (b : Book) where
  -- a create that meets row 6 meets none before it
  pub first_full : (r : Record) → meets_row6 b (Some r) ≡ true → first_row (record_rows calendar b (Some r)) ≡ Err BookFull
  first_full r e = go (file_for r.premise (files_of b)) e
    where
      go : (file : Option File) → (is kind_create r && not (is_held file) && eqb (length (files_of b)) most_files) ≡ true
          → first_row (premise_rows file r
          ++ (row BookFull (is kind_create r && eqb (length (files_of b)) most_files) ∷ file_rows calendar b.today file r))
          ≡ Err BookFull
      go None q =
          let creates = and_left (is kind_create r) true (and_left (is kind_create r && true) (eqb (length (files_of b)) most_files) q) in
          let full = and_right (is kind_create r && true) (eqb (length (files_of b)) most_files) q in
          create_passes r (row BookFull (is kind_create r && eqb (length (files_of b)) most_files) ∷ file_rows calendar b.today None r)
          creates
          ∙ rw (creates, full) refl
      go (Some f) q = absurd
          (false≢true (and_right (is kind_create r) false (and_left (is kind_create r && false) (eqb (length (files_of b)) most_files) q)))

  full_exactly : (d : Option Record) → (first_row (record_rows calendar b d) ≡ Err BookFull) ↔ (meets_row6 b d ≡ true)
  full_exactly None = ((λ e. let z : ◌≡◌ {A = ℕ} 0 1 = cc in absurd (omega arith)), (λ e. absurd (false≢true e)))
  full_exactly (Some r) = go (meets_row6 b (Some r)) refl
    where
      go : (full : Bool) → meets_row6 b (Some r) ≡ full → (first_row (record_rows calendar b (Some r)) ≡ Err BookFull) ↔ (full ≡ true)
      go true q = ((λ e. refl), (λ e. first_full r q))
      go false q = (
        (λ e. absurd (no_row_6 calendar b.today (file_for r.premise (files_of b)) r (sym (rows_of_one calendar b r q) ∙ e))),
        (λ e. absurd (false≢true e)),
      )

pub answered_full : AnsweredFull
answered_full calendar b bytes lent well room =
    let d = reading bytes in
    let six = full_is_six (first_row (record_rows calendar b d)) in
    let full = full_exactly calendar b d in
    rw (call_answer calendar b bytes lent, record_decides calendar b bytes lent room well)
    ((λ e. full.0 (six.0 e)), (λ e. six.1 (full.1 e)))
