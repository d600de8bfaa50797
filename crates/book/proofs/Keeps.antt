-- From a well_kept book every call leaves a well_kept book. Assumes nothing.
use Prim.Native.Nat.{ℕ, ◌≤◌, ◌<◌}
use mathlib.Core.Path.{◌≡◌, refl}
use mathlib.Core.List.{List, []}
use Rattle.std.specs.Prelude.{Option, Some, None}
use mathlib.Core.Bool.{Bool, true, false, ◌&&◌}
use native.Mathlib.Omega.{arith}
use lib.Dec.{eqb}
use lib.ListN.{length, length-map}
use borrow.Author.Tests.{eqb-true, eqb-false}
use Rattle.lists.specs.Search.{any_of}
use Rattle.lists.proofs.TestLaws.{by_test, and_other}
use Rattle.days.specs.Days.{last_day}
use Rattle.records.specs.declared.Record.{Record}
use Rattle.records.specs.Records.{reading, kind_create, kind_day_mark, well_formed}
use Rattle.records.proofs.Formed.{formed}
use Rattle.records.proofs.Readings.{says}
use Rattle.premise.specs.declared.File.{File}
use Rattle.premise.specs.WellKept.{FileKept}
use Rattle.premise.specs.Steps.{is}
use Rattle.premise.specs.Refusals.{number, first_row}
use Rattle.premise.specs.OnePremise.{step, marked}
use Rattle.premise_laws.specs.Laws.{Held, KeptFor}
use Rattle.premise_laws.proofs.KeptSteps.{step_keeps}
use Rattle.premise.proofs.Answers.{only_create_makes, holds}
use Rattle.book.specs.declared.Book.{Book}
use Rattle.book.specs.Book.{most_files, files_of, book_kept, file_for, put_in, with_file}
use Rattle.book.specs.Calls.{record_rows, call_rows, marked_files, premise_state, Result, on_premise, on_reading, call, marked_book}
use Rattle.book.specs.Calls.{call_by}
use Rattle.book.specs.Laws.{BookKept, CallKeeps}
use Rattle.book.proofs.Files.{found_has, rises_rising, rising_rises}
use Rattle.book.proofs.FilesPut.{put_length, put_held}
use Rattle.book.proofs.FilesTaken.{taken-length}
use Rattle.book.proofs.SameFiles.{Numbered, with_rising, with_each}
use Rattle.book.proofs.Kept.{kept_of_lem, count_is, book_kept_means}
use Rattle.book.proofs.Rows.{FileAfter, passed, not_malformed, not_full}
use Rattle.book.proofs.Marks.{marked_each, marked_rising}

-- a record of another kind than 10 has a premise's number
pub has_premise : (r : Record) → well_formed r ≡ true → is kind_day_mark r ≡ false → 0 < r.premise
has_premise r w e =
    (formed r w).premise (eqb-false r.kind kind_day_mark e)

-- of a file or none
pub numbers : (premise : ℕ) (file : Option File) → Held (KeptFor premise) file → Numbered premise file
numbers premise None h = tt
numbers premise (Some f) h = h.number

pub kept_ones : (premise : ℕ) (file : Option File) → Held (KeptFor premise) file → Held FileKept file
kept_ones premise None h = tt
kept_ones premise (Some f) h = h.kept

module _ (b : Book) (k : BookKept b) where
  -- the file that a book has for a premise
  pub found_kept : (premise : ℕ) → Held (KeptFor premise) (file_for premise (files_of b))
  found_kept premise = go (file_for premise (files_of b)) (found_has FileKept premise (files_of b) k.files)
    where
      go : (file : Option File) → Held (λ f. (f.premise ≡ premise) × FileKept f) file → Held (KeptFor premise) file
      go None h = tt
      go (Some f) h = record { number = h.0; kept = h.1 }

  few : length (files_of b) ≤ most_files
  few = omega (arith, k.tidy.few, count_is b k.tidy)

  module _ (calendar : List ℕ) (r : Record) where
    -- ---- a day mark
    pub mark_kept : r.day ≤ last_day → book_kept (marked_book calendar b r.day).book ≡ true
    mark_kept day =
        kept_of_lem r.day (marked_files calendar r.day (files_of b)) day
        (rw (length-map (files_of b) (λ (f : File). (marked calendar r.day f).file)) few)
        (marked_each calendar r.day (files_of b) k.files)
        (rising_rises 0 (marked_files calendar r.day (files_of b))
        (marked_rising calendar r.day 0 (files_of b) k.files (rises_rising 0 (files_of b) k.rising)))

    -- ---- any other record
    pub step_kept_file : well_formed r ≡ true → Held (KeptFor r.premise) (step calendar (premise_state b r.premise) r).state.file
    step_kept_file w = step_keeps calendar (premise_state b r.premise) r r.premise w (λ e. refl) (found_kept r.premise)

    -- a new file finds a place
    fits : (is kind_create r && eqb (length (files_of b)) most_files) ≡ false → (file : Option File)
        → (step calendar (premise_state b r.premise) r).state.file ≡ file
        → Numbered r.premise file → length (with_file r.premise file (files_of b)) ≤ most_files
    fits full None e n = omega (arith, few, taken-length r.premise (files_of b))
    fits full (Some g) e n = go (file_for r.premise (files_of b)) (is kind_create r) refl refl
      where
        go : (file : Option File) (creates : Bool) → file_for r.premise (files_of b) ≡ file → is kind_create r ≡ creates
            → length (put_in g (files_of b)) ≤ most_files
        go (Some h) creates q c = omega (arith, few, put_held 0 g h (files_of b) (rises_rising 0 (files_of b) k.rising) (rw n q))
        go None true q c =
            let t = and_other (is kind_create r) (eqb (length (files_of b)) most_files) full c in
            omega (arith, few, put_length g (files_of b), eqb-false (length (files_of b)) most_files t)
        go None false q c =
            let s : (step calendar (record { today = b.today; file = None }) r).state.file ≡ Some g = rw q at e in
            let m = only_create_makes calendar b.today r c in
            let z : ◌≡◌ {A = ℕ} 0 1 = cc in absurd (omega arith)

    pub step_kept : well_formed r ≡ true → is kind_day_mark r ≡ false → (is kind_create r && eqb (length (files_of b)) most_files) ≡ false
        → book_kept (on_premise calendar b r).book ≡ true
    step_kept w other full =
        let file : Option File = (step calendar (premise_state b r.premise) r).state.file in
        let h = step_kept_file w in
        let n = numbers r.premise file h in
        kept_of_lem b.today (with_file r.premise file (files_of b)) k.today (fits full file refl n)
        (with_each FileKept r.premise file (files_of b) (kept_ones r.premise file h) k.files)
        (rising_rises 0 (with_file r.premise file (files_of b))
        (with_rising r.premise file (files_of b) (has_premise r w other) (rises_rising 0 (files_of b) k.rising) n))

-- ---- a call
-- What holds of the book as it was, and of what each kind of record that is accepted does, holds of what a call does.
pub by_call : (P : Result → Type 0) (calendar : List ℕ) (b : Book) (bytes lent : List ℕ)
    → P (record { answer = first_row (call_rows calendar b bytes lent); notices = []; book = b })
    → ((r : Record) → FileAfter calendar b bytes lent → well_formed r ≡ true → is kind_day_mark r ≡ true → P (marked_book calendar b r.day))
    → ((r : Record) → FileAfter calendar b bytes lent → well_formed r ≡ true → is kind_day_mark r ≡ false
    → (is kind_create r && eqb (length (files_of b)) most_files) ≡ false → P (on_premise calendar b r))
    → P (call calendar b bytes lent)
unfolding call_by
by_call P calendar b bytes lent refused mark other =
    by_test P (eqb (number (first_row (call_rows calendar b bytes lent))) 0) (on_reading calendar b (reading bytes)) _
    (λ t. let p = passed calendar b bytes lent (eqb-true _ 0 t) in go p (reading bytes) refl p.none)
    (λ t. refused)
  where
    go : FileAfter calendar b bytes lent → (d : Option Record) → reading bytes ≡ d → any_of holds (record_rows calendar b d) ≡ false
        → P (on_reading calendar b d)
    go p None e n = absurd (not_malformed calendar b n)
    go p (Some r) e n =
        let w = (says bytes r e).formed in
        by_test P (is kind_day_mark r) (marked_book calendar b r.day) (on_premise calendar b r) (λ t. mark r p w t)
        (λ t. other r p w t (not_full calendar b r n))

pub call_keeps : CallKeeps
call_keeps calendar b bytes lent e =
    let k = (book_kept_means b).0 e in
    by_call (λ x. book_kept x.book ≡ true) calendar b bytes lent e
    (λ r p w t. mark_kept b k calendar r (formed r w).day)
    (λ r p w t full. step_kept b k calendar r w t full)
