-- Demand 2: from the record call's promise, what every record gives is what the rules give. Assumes nothing.
use Prim.Native.Nat.{ℕ, ◌+◌}
use mathlib.Core.Path.{◌≡◌, refl, ap, ◌∙◌}
use mathlib.Core.List.{List}
use mathlib.Core.Bool.{Bool, true, false, cond}
use lib.Dec.{eqb}
use lib.ListN.{length}
use borrow.Author.Tests.{eq-eqb, ne_eqb, lt-ltb, le-ltb}
use Rattle.records.specs.declared.Record.{Record}
use Rattle.std.specs.Prelude.{Some}
use Rattle.records.specs.Records.{reading, kind_day_mark}
use Rattle.records.proofs.Emits.{emits_as}
use Rattle.records.proofs.Readings.{says}
use Rattle.premise.specs.declared.File.{File}
use Rattle.std.specs.Prelude.{Ok, Err}
use Rattle.premise.specs.declared.Refusal.TheVariants.{NotNextDay}
use Rattle.premise.specs.Steps.{is}
use Rattle.premise.specs.Refusals.{number}
use Rattle.premise.specs.OnePremise.{State, Given, step}
use Rattle.book.specs.declared.Book.{Book}
use Rattle.book.specs.Book.{files_of, book_of, file_for, with_file}
use Rattle.book.specs.Calls.{notice_bytes, premise_state, marked_files, marked_book, Result, refusal, call, meets_row6, call_rows_by}
use Rattle.book.specs.Calls.{on_day_mark, as_one}
use Rattle.book.specs.Laws.{BookKept}
use Rattle.demands.specs.Demand2.{PastRows1And2, OfAPremise, OfTheNextDay, OfAnotherDay, ShortBufferGets1, DamagedBookGets2}
use Rattle.demands.specs.Demand2.{MalformedGets3, NoPlaceGets6, Demand2}
use Rattle.book.proofs.Files.{rises_rising}
use Rattle.book.proofs.SameFiles.{with_found, with_others}
use Rattle.book.proofs.Kept.{book_kept_means, holds_its_files}
use Rattle.book.proofs.Marks.{marked_state}
use Rattle.book.proofs.Keeps.{numbers, step_kept_file}
use Rattle.book.proofs.Acts.{acted, call_acts}
use Rattle.book.proofs.ByReading.{call_malformed, call_on_mark}
use Rattle.book.proofs.Row6.{answered_full}
use Rattle.demands.proofs.Demand1.{first_row_answers}

-- ---- rows 1, 2, 3 and 6
pub short_buffer_gets_1 : ShortBufferGets1
unfolding call_rows_by number
short_buffer_gets_1 calendar b bytes before reply after p short =
    rw (first_row_answers calendar b bytes before reply after p, lt-ltb (length before) notice_bytes short) refl

pub damaged_book_gets_2 : DamagedBookGets2
unfolding call_rows_by number
damaged_book_gets_2 calendar b bytes before reply after p room damaged =
    rw (first_row_answers calendar b bytes before reply after p, le-ltb (length before) notice_bytes room, damaged) refl

pub malformed_gets_3 : MalformedGets3
unfolding number
malformed_gets_3 calendar b bytes before reply after p past e =
    ap number p.answer ∙ ap (λ (x : Result). number x.answer) (call_malformed calendar b bytes before past.kept past.room e)

pub no_place_gets_6 : NoPlaceGets6
no_place_gets_6 calendar b bytes before reply after p past e =
    ap number p.answer ∙ (answered_full calendar b bytes before past.kept past.room).1 e

-- the day of a book that is made of files
day_of : (today : ℕ) (fs : List File) → (book_of today fs).today ≡ today
unfolding book_of
day_of today fs = refl

accepted_zero : number (Ok tt) ≡ 0
unfolding number
accepted_zero = refl

-- ---- a record of one premise
pub of_a_premise : OfAPremise
of_a_premise calendar b bytes before reply after p past r e other places =
    let given : Given = step calendar (premise_state b r.premise) r in
    let files : List File = with_file r.premise given.state.file (files_of b) in
    let k : BookKept b = (book_kept_means b).0 past.kept in
    let did : call calendar b bytes before ≡ as_one calendar b r =
    call_acts calendar b bytes before k past.room (ap (meets_row6 b) e ∙ places) ∙ ap (acted calendar b) e
    ∙ ap (λ c. cond c (on_day_mark calendar b r) (as_one calendar b r)) other in
    let left : reply.book ≡ book_of b.today files = p.book ∙ ap (λ (x : Result). x.book) did in
    let held : files_of reply.book ≡ files = ap files_of left ∙ holds_its_files b.today files in
    let own = numbers r.premise given.state.file (step_kept_file b k calendar r (says bytes r e).formed) in
    record {
      answer = p.answer ∙ ap (λ (x : Result). x.answer) did;
      notices = emits_as (ap (λ (x : Result). x.notices) did) p.notices;
      file = ap (file_for r.premise) held
          ∙ with_found r.premise 0 given.state.file (files_of b) (rises_rising 0 (files_of b) k.rising) own;
      today = ap (λ (x : Book). x.today) left ∙ day_of b.today files;
      others = λ premise n. ap (file_for premise) held ∙ with_others premise r.premise given.state.file (files_of b) n own;
    }

-- ---- a day mark
module _ (calendar : List ℕ) (b : Book) (bytes before : List ℕ) (past : PastRows1And2 b before) (r : Record) (e : reading bytes ≡ Some r)
    (mark : is kind_day_mark r ≡ true) where
  marks : (next : Bool) → eqb r.day (b.today + 1) ≡ next
      → call calendar b bytes before ≡ cond next (marked_book calendar b r.day) (refusal (Err NotNextDay) b)
  marks next t = call_on_mark calendar b bytes before r past.kept past.room e mark
      ∙ ap (λ (c : Bool). cond c (marked_book calendar b r.day) (refusal (Err NotNextDay) b)) t

pub of_the_next_day : OfTheNextDay
of_the_next_day calendar b bytes before reply after p past r e mark next =
    let files : List File = marked_files calendar r.day (files_of b) in
    let k : BookKept b = (book_kept_means b).0 past.kept in
    let did : call calendar b bytes before ≡ marked_book calendar b r.day =
    marks calendar b bytes before past r e mark true (eq-eqb r.day (b.today + 1) next) in
    let left : reply.book ≡ book_of r.day files = p.book ∙ ap (λ (x : Result). x.book) did in
    let held : files_of reply.book ≡ files = ap files_of left ∙ holds_its_files r.day files in
    record {
      answer = ap number p.answer ∙ ap (λ (x : Result). number x.answer) did ∙ accepted_zero;
      notices = emits_as (ap (λ (x : Result). x.notices) did) p.notices;
      rising = k.rising;
      today = ap (λ (x : Book). x.today) left ∙ day_of r.day files;
      files = held;
      each = λ premise.
          ap (file_for premise) held ∙ ap (λ (s : State). s.file) (marked_state calendar r.day premise (files_of b) k.files);
    }

pub of_another_day : OfAnotherDay
unfolding number
of_another_day calendar b bytes before reply after p past r e mark n =
    ap number p.answer
    ∙ ap (λ (x : Result). number x.answer)
    (marks calendar b bytes before past r e mark false (ne_eqb r.day (b.today + 1) n))

pub demand_2 : Demand2
demand_2 = record {
  short = short_buffer_gets_1;
  damaged = damaged_book_gets_2;
  malformed = malformed_gets_3;
  full = no_place_gets_6;
  premise = of_a_premise;
  mark = of_the_next_day;
  another = of_another_day;
}
