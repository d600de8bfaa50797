-- The answer of a call is that of the first row that holds, and a refusal is all that comes of it. Assumes nothing.
use Prim.Native.Nat.{ℕ}
use mathlib.Core.Path.{◌≡◌, refl, sym, ◌∙◌}
use mathlib.Core.List.{List}
use mathlib.Core.Bool.{false}
use lib.Dec.{eqb}
use borrow.Author.Tests.{eqb-true, ne_eqb}
use Rattle.lists.specs.Search.{any_of}
use Rattle.lists.proofs.TestLaws.{by_test}
use Rattle.std.specs.Prelude.{Option, Some, None}
use Rattle.records.specs.declared.Record.{Record}
use Rattle.records.specs.Records.{reading, kind_day_mark}
use Rattle.std.specs.Prelude.{Ok}
use Rattle.premise.specs.Steps.{is}
use Rattle.premise.specs.Refusals.{first_row, number}
use Rattle.premise.proofs.Table.{accepted_is_zero}
use Rattle.premise.proofs.Answers.{holds}
use Rattle.book.specs.declared.Book.{Book}
use Rattle.book.specs.Calls.{record_rows, call_rows, Result, on_premise, on_reading, refusal, call, marked_book, call_by}
use Rattle.book.proofs.Rows.{passed, not_malformed}

module _ (calendar : List ℕ) (b : Book) (bytes lent : List ℕ) where
  accepts : (d : Option Record) → any_of holds (record_rows calendar b d) ≡ false → (on_reading calendar b d).answer ≡ Ok tt
  accepts None n = absurd (not_malformed calendar b n)
  accepts (Some r) n = by_test (λ (x : Result). x.answer ≡ Ok tt) (is kind_day_mark r) (marked_book calendar b r.day)
      (on_premise calendar b r) (λ t. refl) (λ t. refl)

  pub call_answer : (call calendar b bytes lent).answer ≡ first_row (call_rows calendar b bytes lent)
  unfolding call_by
  call_answer =
      by_test (λ (x : Result). x.answer ≡ first_row (call_rows calendar b bytes lent))
      (eqb (number (first_row (call_rows calendar b bytes lent))) 0)
      (on_reading calendar b (reading bytes)) (refusal (first_row (call_rows calendar b bytes lent)) b)
      (λ t.
      let zero = eqb-true (number (first_row (call_rows calendar b bytes lent))) 0 t in
      accepts (reading bytes) (passed calendar b bytes lent zero).none
      ∙ sym ((accepted_is_zero (first_row (call_rows calendar b bytes lent))).0 zero))
      (λ t. refl)

  pub call_refused : (number (first_row (call_rows calendar b bytes lent)) ≡ 0 → ⊥)
      → call calendar b bytes lent ≡ refusal (first_row (call_rows calendar b bytes lent)) b
  unfolding call_by
  call_refused n = rw (ne_eqb (number (first_row (call_rows calendar b bytes lent))) 0 n)
