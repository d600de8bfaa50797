-- A call as one premise sees it: T and its file or none become what the one-premise rules give for the record, or are what they were.
-- Assumes nothing.
use Prim.Native.Nat.{ℕ, ◌+◌}
use mathlib.Core.Path.{◌≡◌, refl, sym, ap, subst, ◌∙◌}
use mathlib.Core.Logic.{◌⊎◌, inl, inr}
use mathlib.Core.List.{List}
use mathlib.Core.Bool.{Bool, true, false, cond, not, ◌&&◌, false≢true}
use lib.Dec.{eqb}
use lib.ListN.{length}
use borrow.Author.Tests.{eqb-true, eqb-false}
use Rattle.lists.specs.Search.{any_of}
use Rattle.records.specs.declared.Record.{Record}
use Rattle.std.specs.Prelude.{Option, Some, None}
use Rattle.records.specs.Records.{reading, kind_create, kind_day_mark, well_formed}
use Rattle.records.proofs.Readings.{says}
use Rattle.premise.specs.declared.File.{File}
use Rattle.std.specs.Prelude.{Ok, Err}
use Rattle.premise.specs.declared.Refusal.TheVariants.{NotNextDay}
use Rattle.premise.specs.Steps.{is}
use Rattle.premise.specs.Refusals.{number, first_row, is_held}
use Rattle.premise.specs.OnePremise.{Given, refused, step}
use Rattle.premise.specs.Laws.{marked_or}
use Rattle.premise.proofs.Answers.{answer_is_first_row, mark_step, only_marks_move, holds}
use Rattle.premise.proofs.Table.{accepted_is_zero}
use Rattle.book.specs.declared.Book.{Book}
use Rattle.book.specs.Book.{most_files, files_of, book_of, file_for, with_file}
use Rattle.book.specs.Calls.{record_rows, call_rows, meets_row6, marked_files, premise_state, Result, refusal, call, on_day_mark, as_one}
use Rattle.book.specs.Calls.{marked_book}
use Rattle.book.specs.Laws.{BookKept, Heard, Unheard, CallOnPremise}
use Rattle.book.proofs.Files.{rises_rising}
use Rattle.book.proofs.SameFiles.{Numbered, with_found, with_others}
use Rattle.book.proofs.Kept.{holds_its_files, book_kept_means}
use Rattle.book.proofs.Keeps.{numbers, step_kept_file}
use Rattle.book.proofs.Rows.{FileAfter, refusing, passed, not_malformed, not_full, rows_of_one, record_decides}
use Rattle.book.proofs.CallAnswer.{call_refused}
use Rattle.book.proofs.Marks.{marked_state}
use Rattle.book.proofs.Acts.{marked_accepted}
use Rattle.book.proofs.ByReading.{call_on_mark}
use Rattle.book.proofs.ByPremise.{call_one}

-- what a premise has in a book that is made of files
pub state_of : (today premise : ℕ) (fs : List File)
    → premise_state (book_of today fs) premise ≡ record { today = today; file = file_for premise fs }
unfolding book_of
state_of today premise fs = ap (λ l. record { today = today; file = file_for premise l }) (holds_its_files today fs)

abbrev Either : List ℕ → Book → List ℕ → ℕ → Result → Type 0
Either calendar b bytes premise x = Heard calendar b bytes premise x ⊎ Unheard b bytes premise x

module _ (calendar : List ℕ) (b : Book) (bytes lent : List ℕ) (premise : ℕ) (k : BookKept b) where
  refused_unheard : (number (first_row (call_rows calendar b bytes lent)) ≡ 0 → ⊥) → Unheard b bytes premise (call calendar b bytes lent)
  refused_unheard n =
      subst (Unheard b bytes premise) (sym (call_refused calendar b bytes lent n)) (record { why = λ z. absurd (n z); state = refl })

  module _ (r : Record) (e : reading bytes ≡ Some r) (p : FileAfter calendar b bytes lent)
      (zero : number (first_row (call_rows calendar b bytes lent)) ≡ 0) where
    formed : well_formed r ≡ true
    formed = (says bytes r e).formed

    places : meets_row6 b (Some r) ≡ false
    places = go (is kind_create r) (eqb (length (files_of b)) most_files) (is_held (file_for r.premise (files_of b)))
        (not_full calendar b r (ap (λ (d : Option Record). any_of holds (record_rows calendar b d)) (sym e) ∙ p.none))
      where
        go : (creates full held : Bool) → (creates && full) ≡ false → (creates && not held && full) ≡ false
        go false full held h = refl
        go true full true h = refl
        go true full false h = h

    -- the one-premise rules accept the record of its premise
    ruled_zero : number (step calendar (premise_state b r.premise) r).answer ≡ 0
    ruled_zero =
        ap number
        (answer_is_first_row calendar (premise_state b r.premise) r ∙ sym (rows_of_one calendar b r places)
        ∙ ap (λ (d : Option Record). first_row (record_rows calendar b d)) (sym e)
        ∙ sym (record_decides calendar b bytes lent p.room p.kept))
        ∙ zero

    -- ---- a day mark
    heard_mark : is kind_day_mark r ≡ true → Heard calendar b bytes premise (on_day_mark calendar b r)
    heard_mark t = go (eqb r.day (b.today + 1)) refl
      where
        marks : (other : ℕ) (next : Bool) → eqb r.day (b.today + 1) ≡ next
            → step calendar (premise_state b other) r
            ≡ cond next (marked_or calendar r.day (file_for other (files_of b))) (refused (Err NotNextDay) (premise_state b other))
        marks other next q =
            mark_step calendar (premise_state b other) r t
            ∙ ap (λ (c : Bool). cond c (marked_or calendar r.day (file_for other (files_of b)))
            (refused (Err NotNextDay) (premise_state b other))) q

        go : (next : Bool) → eqb r.day (b.today + 1) ≡ next
            → Heard calendar b bytes premise (cond next (marked_book calendar b r.day) (refusal (Err NotNextDay) b))
        go true q =
            let given = marks premise true q in
            record {
              said = r;
              says = e;
              own = λ other. absurd (false≢true (sym other ∙ t));
              answered = (accepted_is_zero (Ok tt)).1 refl;
              accepted = (accepted_is_zero (step calendar (premise_state b premise) r).answer).1
                  (ap (λ (x : Given). x.answer) given ∙ marked_accepted calendar r.day (file_for premise (files_of b)));
              state = state_of r.day premise (marked_files calendar r.day (files_of b))
                  ∙ marked_state calendar r.day premise (files_of b) k.files ∙ sym (ap (λ (x : Given). x.state) given);
            }
        go false q = absurd
            (refusing NotNextDay (sym (ap (λ (x : Given). number x.answer) (marks r.premise false q)) ∙ ruled_zero))

    -- ---- any other record
    module _ (t : is kind_day_mark r ≡ false) where
      after : Numbered r.premise (step calendar (premise_state b r.premise) r).state.file
      after = numbers r.premise (step calendar (premise_state b r.premise) r).state.file (step_kept_file b k calendar r formed)

      heard_own : Heard calendar b bytes r.premise (as_one calendar b r)
      heard_own =
          let given : Given = step calendar (premise_state b r.premise) r in
          let day = only_marks_move calendar (premise_state b r.premise) r t in
          let found = with_found r.premise 0 given.state.file (files_of b) (rises_rising 0 (files_of b) k.rising) after in
          record {
            said = r;
            says = e;
            own = λ other. refl;
            answered = ruled_zero;
            accepted = ruled_zero;
            state = state_of b.today r.premise (with_file r.premise given.state.file (files_of b))
                ∙ (λ i. record { today = sym day i; file = found i });
          }

      unheard_other : (r.premise ≡ premise → ⊥) → Unheard b bytes premise (as_one calendar b r)
      unheard_other n =
          let given : Given = step calendar (premise_state b r.premise) r in
          let found = with_others premise r.premise given.state.file (files_of b) n after in
          record {
            why = λ z s q.
                let same : r ≡ s = cc in
                (ap (is kind_day_mark) (sym same) ∙ t, (λ u. n (ap (λ (x : Record). x.premise) same ∙ u)));
            state = state_of b.today premise (with_file r.premise given.state.file (files_of b))
                ∙ (λ i. record { today = b.today; file = found i });
          }

      heard_one : Either calendar b bytes premise (as_one calendar b r)
      heard_one = go (eqb r.premise premise) refl
        where
          go : (own : Bool) → eqb r.premise premise ≡ own → Either calendar b bytes premise (as_one calendar b r)
          go true q = inl (subst (λ (n : ℕ). Heard calendar b bytes n (as_one calendar b r)) (eqb-true r.premise premise q) heard_own)
          go false q = inr (unheard_other (eqb-false r.premise premise q))

    heard : Either calendar b bytes premise (call calendar b bytes lent)
    heard = go (is kind_day_mark r) refl
      where
        go : (mark : Bool) → is kind_day_mark r ≡ mark → Either calendar b bytes premise (call calendar b bytes lent)
        go true t =
            inl (subst (Heard calendar b bytes premise) (sym (call_on_mark calendar b bytes lent r p.kept p.room e t)) (heard_mark t))
        go false t =
            subst (Either calendar b bytes premise) (sym (call_one calendar b bytes lent r k p.room e t places)) (heard_one t)

  by_first_row : (zero : Bool) → eqb (number (first_row (call_rows calendar b bytes lent))) 0 ≡ zero
      → Either calendar b bytes premise (call calendar b bytes lent)
  by_first_row false q = inr (refused_unheard (eqb-false (number (first_row (call_rows calendar b bytes lent))) 0 q))
  by_first_row true q =
      let zero = eqb-true (number (first_row (call_rows calendar b bytes lent))) 0 q in
      let p = passed calendar b bytes lent zero in
      go (reading bytes) refl p zero
    where
      go : (d : Option Record) → reading bytes ≡ d → FileAfter calendar b bytes lent → number (first_row (call_rows calendar b bytes lent)) ≡ 0
          → Either calendar b bytes premise (call calendar b bytes lent)
      go None e p z = absurd (not_malformed calendar b (ap (λ (d : Option Record). any_of holds (record_rows calendar b d)) (sym e) ∙ p.none))
      go (Some r) e p z = heard r e p z

pub call_on_premise : CallOnPremise
call_on_premise calendar b bytes lent premise well =
    by_first_row calendar b bytes lent premise ((book_kept_means b).0 well) (eqb (number (first_row (call_rows calendar b bytes lent))) 0) refl
