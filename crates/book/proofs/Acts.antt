-- What a call does on a well_kept book, with a long enough buffer and row 6 out of the way: on a record of one premise it is the step of
-- the one-premise rules, and on a day mark their step on every file. Assumes nothing.
use Prim.Native.Nat.{ℕ, ◌+◌, ◌≤◌}
use mathlib.Core.Path.{◌≡◌, refl, ap, sym, ◌∙◌}
use mathlib.Core.List.{List, []}
use Rattle.std.specs.Prelude.{Option, Some, None}
use mathlib.Core.Bool.{Bool, true, false, cond}
use lib.Dec.{eqb}
use lib.ListN.{length}
use borrow.Author.Tests.{eqb-true, eqb-false, eq-eqb, ne_eqb}
use Rattle.records.specs.declared.Record.{Record}
use Rattle.records.specs.Records.{reading, kind_day_mark, well_formed}
use Rattle.records.proofs.Readings.{says}
use Rattle.premise.specs.declared.File.{File}
use Rattle.std.specs.Prelude.{Ok, Err}
use Rattle.premise.specs.Refusals.{Answer}
use Rattle.premise.specs.declared.Refusal.TheVariants.{MalformedRecord, NotNextDay}
use Rattle.premise.specs.Steps.{is}
use Rattle.premise.specs.Refusals.{number, first_row}
use Rattle.premise.specs.OnePremise.{Given, refused, step}
use Rattle.premise.specs.Laws.{marked_or}
use Rattle.premise.proofs.Answers.{answer_is_first_row, refusal_is, mark_step}
use Rattle.premise.proofs.Table.{accepted_is_zero}
use Rattle.book.specs.declared.Book.{Book}
use Rattle.book.specs.Book.{files_of, book_of, file_for, with_file}
use Rattle.book.specs.Calls.{notice_bytes, record_rows, premise_state, Result, on_premise, on_reading, refusal, call, meets_row6, call_by}
use Rattle.book.specs.Calls.{marked_book, on_day_mark, as_one, in_book}
use Rattle.book.specs.Laws.{BookKept}
use Rattle.book.proofs.Files.{rises_rising}
use Rattle.book.proofs.SameFiles.{with_same}
use Rattle.book.proofs.Kept.{book_kept_means}
use Rattle.book.proofs.Rows.{Refuses, refusing, rows_of_one, record_decides}
use Rattle.book.proofs.Keeps.{has_premise}

abbrev pub acted : List ℕ → Book → Option Record → Result
acted calendar b None = refusal (Err MalformedRecord) b
acted calendar b (Some r) = cond (is kind_day_mark r) (on_day_mark calendar b r) (as_one calendar b r)

pub marked_accepted : (calendar : List ℕ) (day : ℕ) (file : Option File) → (marked_or calendar day file).answer ≡ Ok tt
marked_accepted calendar day None = refl
marked_accepted calendar day (Some f) = refl

module _ (calendar : List ℕ) (b : Book) where
  -- by the first row
  abbrev pub decided : Answer → Option Record → Result
  decided first d = cond (eqb (number first) 0) (on_reading calendar b d) (refusal first b)

  pub refuses : (first : Answer) (d : Option Record) → Refuses first → decided first d ≡ refusal first b
  refuses first d n = rw (ne_eqb (number first) 0 n)

  accepts : (first : Answer) (d : Option Record) → first ≡ Ok tt → decided first d ≡ on_reading calendar b d
  accepts first d e = rw (eq-eqb (number first) 0 ((accepted_is_zero first).1 e))

  module _ (k : BookKept b) (r : Record) (w : well_formed r ≡ true) where
    decided_mark : is kind_day_mark r ≡ true
        → decided (step calendar (premise_state b r.premise) r).answer (Some r) ≡ on_day_mark calendar b r
    decided_mark t =
        let e = mark_step calendar (premise_state b r.premise) r t in
        ap (λ (g : Given). decided g.answer (Some r)) e ∙ go (eqb r.day (b.today + 1))
      where
        go : (next : Bool)
            → decided (cond next (marked_or calendar r.day (file_for r.premise (files_of b)))
            (refused (Err NotNextDay) (premise_state b r.premise))).answer (Some r)
            ≡ cond next (marked_book calendar b r.day) (refusal (Err NotNextDay) b)
        go true =
            accepts (marked_or calendar r.day (file_for r.premise (files_of b))).answer (Some r)
            (marked_accepted calendar r.day (file_for r.premise (files_of b)))
            ∙ rw t refl
        go false = refuses (Err NotNextDay) (Some r) (refusing NotNextDay)

    -- a refusal leaves the file where it is
    pub put_back : is kind_day_mark r ≡ false → book_of b.today (with_file r.premise (file_for r.premise (files_of b)) (files_of b)) ≡ b
    put_back t = ap (book_of b.today) (with_same r.premise (files_of b) (has_premise r w t) (rises_rising 0 (files_of b) k.rising))
        ∙ sym k.tidy.whole

    decided_one : is kind_day_mark r ≡ false → decided (step calendar (premise_state b r.premise) r).answer (Some r) ≡ as_one calendar b r
    decided_one t = go (eqb (number (step calendar (premise_state b r.premise) r).answer) 0) refl
      where
        go : (zero : Bool) → eqb (number (step calendar (premise_state b r.premise) r).answer) 0 ≡ zero
            → decided (step calendar (premise_state b r.premise) r).answer (Some r) ≡ as_one calendar b r
        go true z =
            let given = step calendar (premise_state b r.premise) r in
            let e : given.answer ≡ Ok tt = (accepted_is_zero given.answer).0 (eqb-true (number given.answer) 0 z) in
            accepts given.answer (Some r) e ∙ ap (λ c. cond c (marked_book calendar b r.day) (on_premise calendar b r)) t
            ∙ (λ i. record {
              answer = sym e i;
              notices = given.notices;
              book = book_of b.today (with_file r.premise given.state.file (files_of b));
            })
        go false z =
            let given = step calendar (premise_state b r.premise) r in
            refuses given.answer (Some r) (eqb-false (number given.answer) 0 z)
            ∙ (λ i. record { answer = given.answer; notices = []; book = sym (put_back t) i })
            ∙ sym (ap (in_book b r.premise) (refusal_is calendar (premise_state b r.premise) r z))

  -- What a call does.
  pub call_acts : (bytes lent : List ℕ) → BookKept b → notice_bytes ≤ length lent → meets_row6 b (reading bytes) ≡ false
      → call calendar b bytes lent ≡ acted calendar b (reading bytes)
  unfolding call_by
  call_acts bytes lent k room places =
      ap (λ first. decided first (reading bytes)) (record_decides calendar b bytes lent room ((book_kept_means b).1 k))
      ∙ go (reading bytes) refl places
    where
      go : (d : Option Record) → reading bytes ≡ d → meets_row6 b d ≡ false → decided (first_row (record_rows calendar b d)) d ≡ acted calendar b d
      go None e n = refuses (Err MalformedRecord) None (refusing MalformedRecord)
      go (Some r) e n =
          let w = (says bytes r e).formed in
          ap (λ first. decided first (Some r))
          (rows_of_one calendar b r n ∙ sym (answer_is_first_row calendar (premise_state b r.premise) r))
          ∙ by (is kind_day_mark r) refl w
        where
          by : (mark : Bool) → is kind_day_mark r ≡ mark → well_formed r ≡ true
              → decided (step calendar (premise_state b r.premise) r).answer (Some r) ≡ acted calendar b (Some r)
          by true t w = decided_mark k r w t ∙ ap (λ c. cond c (on_day_mark calendar b r) (as_one calendar b r)) (sym t)
          by false t w = decided_one k r w t ∙ ap (λ c. cond c (on_day_mark calendar b r) (as_one calendar b r)) (sym t)
