-- A call of a record that is no day mark: row 6, what the one-premise rules give, and their refusal, which leaves the book. Assumes
-- nothing.
use Prim.Native.Nat.{ℕ, ◌≤◌}
use mathlib.Core.Path.{◌≡◌, refl, ap, ◌∙◌}
use mathlib.Core.List.{List, []}
use mathlib.Core.Bool.{Bool, true, false, cond}
use lib.ListN.{length}
use Rattle.records.specs.declared.Record.{Record}
use Rattle.std.specs.Prelude.{Option, Some}
use Rattle.records.specs.Records.{reading, kind_day_mark}
use Rattle.records.proofs.Readings.{says}
use Rattle.std.specs.Prelude.{Err}
use Rattle.premise.specs.Refusals.{Answer}
use Rattle.premise.specs.declared.Refusal.TheVariants.{BookFull}
use Rattle.premise.specs.Steps.{is}
use Rattle.premise.specs.Refusals.{first_row}
use Rattle.premise.specs.OnePremise.{step, refused}
use Rattle.book.specs.declared.Book.{Book}
use Rattle.book.specs.Calls.{notice_bytes, record_rows, premise_state, Result, refusal, call, meets_row6, on_day_mark, in_book, as_one}
use Rattle.book.specs.Calls.{call_by}
use Rattle.book.specs.Laws.{BookKept}
use Rattle.book.proofs.Kept.{book_kept_means}
use Rattle.book.proofs.Rows.{record_decides, refusing}
use Rattle.book.proofs.Row6.{first_full}
use Rattle.book.proofs.Acts.{acted, call_acts, decided, refuses, put_back}

module _ (calendar : List ℕ) (b : Book) (bytes lent : List ℕ) (r : Record) (k : BookKept b) (room : notice_bytes ≤ length lent)
    (e : reading bytes ≡ Some r) where
  pub call_full : meets_row6 b (Some r) ≡ true → call calendar b bytes lent ≡ refusal (Err BookFull) b
  unfolding call_by
  call_full full =
      ap (λ (first : Answer). decided calendar b first (reading bytes))
      (record_decides calendar b bytes lent room ((book_kept_means b).1 k) ∙ ap (λ (d : Option Record). first_row (record_rows calendar b d)) e
      ∙ first_full calendar b r full)
      ∙ refuses calendar b (Err BookFull) (reading bytes) (refusing BookFull)

  module _ (other : is kind_day_mark r ≡ false) (places : meets_row6 b (Some r) ≡ false) where
    pub call_one : call calendar b bytes lent ≡ as_one calendar b r
    call_one = call_acts calendar b bytes lent k room (ap (meets_row6 b) e ∙ places) ∙ ap (acted calendar b) e
        ∙ ap (λ (a : Bool). cond a (on_day_mark calendar b r) (as_one calendar b r)) other

    pub call_one_refused : (answer : Answer)
        → step calendar (premise_state b r.premise) r ≡ refused answer (premise_state b r.premise)
        → call calendar b bytes lent ≡ refusal answer b
    call_one_refused answer s = call_one ∙ ap (in_book b r.premise) s
        ∙ ap {B = Result} (λ (c : Book). record { answer = answer; notices = []; book = c })
        (put_back calendar b k r (says bytes r e).formed other)
