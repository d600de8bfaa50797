-- Rows 1 and 2 of the table, and row 3 by the record's length; a refusal as the code gives it. Assumes nothing.
use Prim.Native.Nat.{ℕ, ◌≤◌, ◌<◌}
use mathlib.Core.Path.{◌≡◌, refl, sym, ap, subst⁻¹}
use mathlib.Core.List.{List}
use mathlib.Core.Bool.{true, false}
use lib.ListN.{length}
use borrow.Author.Tests.{lt-ltb, le-ltb, ne_eqb}
use Rattle.records.specs.Layout.{record_length}
use Rattle.records.proofs.Emits.{emits_as}
use Rattle.records.proofs.Readings.{reading-length}
use Rattle.std.specs.Prelude.{Err}
use Rattle.premise.specs.Refusals.{Answer}
use Rattle.premise.specs.declared.Refusal.TheVariants.{ShortBuffer, NotWellKept, MalformedRecord}
use Rattle.premise.specs.Refusals.{number}
use Rattle.book.specs.declared.Book.{Book}
use Rattle.book.specs.declared.Reply.{Reply}
use Rattle.book.specs.Book.{book_kept}
use Rattle.book.specs.Calls.{notice_bytes, Result, refusal, call, call_rows_by, call_by}
use Rattle.book.specs.Promise.{Promised}
use Rattle.book.proofs.ByReading.{call_malformed}
use Rattle.book.proofs.Rows.{refusing}

module _ (calendar : List ℕ) (b : Book) (bytes lent : List ℕ) where
  -- row 1
  pub call_short : length lent < notice_bytes → call calendar b bytes lent ≡ refusal (Err ShortBuffer) b
  unfolding call_by call_rows_by
  call_short h = rw (lt-ltb (length lent) notice_bytes h, ne_eqb (number (Err ShortBuffer)) 0 (refusing ShortBuffer))

  -- row 2
  pub call_unkept : notice_bytes ≤ length lent → book_kept b ≡ false → call calendar b bytes lent ≡ refusal (Err NotWellKept) b
  unfolding call_by call_rows_by
  call_unkept h k = rw (le-ltb (length lent) notice_bytes h, k, ne_eqb (number (Err NotWellKept)) 0 (refusing NotWellKept))

  -- row 3, by the length
  pub call_other_length : notice_bytes ≤ length lent → book_kept b ≡ true → (length bytes ≡ record_length → ⊥)
      → call calendar b bytes lent ≡ refusal (Err MalformedRecord) b
  call_other_length h k other = call_malformed calendar b bytes lent k h (reading-length bytes other)

  -- a refusal as the code gives it
  pub refused : {answer : Answer} {p : Reply} → call calendar b bytes lent ≡ refusal answer b
      → p ≡ record { answer = answer; sent = 0; book = b } → Promised calendar b bytes lent p lent
  refused {answer} e is =
      subst⁻¹ (λ (x : Reply). Promised calendar b bytes lent x lent) is
      (record {
        answer = sym (ap (λ (x : Result). x.answer) e);
        book = sym (ap (λ (x : Result). x.book) e);
        notices = emits_as (sym (ap (λ (x : Result). x.notices) e)) (record { count = refl; bytes = refl });
      })
