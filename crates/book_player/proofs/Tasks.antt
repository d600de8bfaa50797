-- What is known of a record by what is to be done with it. Assumes nothing.
use Prim.Native.Nat.{ℕ, ◌+◌, ◌<◌}
use mathlib.Core.Path.{◌≡◌, refl, sym, ap, ap₂, subst, subst⁻¹, ◌∙◌}
use mathlib.Core.List.{List, []}
use Rattle.std.specs.Prelude.{Option, Some, None}
use mathlib.Core.Bool.{Bool, true, false, cond, not, ◌&&◌}
use native.Mathlib.Omega.{arith}
use lib.Dec.{eqb}
use lib.ListN.{length, get_or, replicate}
use lib.Seq.{get_or-take}
use borrow.Author.Tests.{eqb-true, eqb-false, eq-eqb, ne_eqb}
use Rattle.lists.specs.Search.{any_of}
use Rattle.lists.specs.Shift.{inserted, removed}
use Rattle.lists.proofs.TestLaws.{by_test}
use Rattle.records.specs.declared.Record.{Record}
use Rattle.records.specs.Records.{reading, kind_create, kind_retire, kind_day_mark}
use Rattle.records.proofs.Readings.{says}
use Rattle.premise.specs.declared.File.{File}
use Rattle.std.specs.Prelude.{Ok, Err}
use Rattle.premise.specs.Refusals.{Answer}
use Rattle.premise.specs.declared.Refusal.TheVariants.{NoSuchPremise, PremiseHeld, BookFull, OrderOpen, NotNextDay}
use Rattle.premise.specs.Orders.{is_open, held}
use Rattle.premise.specs.Steps.{is, new_file}
use Rattle.premise.specs.Refusals.{is_held, needs_premise}
use Rattle.premise.specs.OnePremise.{Given, refused, step, given_on}
use Rattle.premise.proofs.KindsOf.{else_mark, needs_no_mark}
use Rattle.premise_steps.proofs.CreateRetire.{create_held, create_done, retire_open, retire_done}
use Rattle.book.specs.declared.Book.{Book}
use Rattle.book.specs.Book.{most_files, files_of, book_of, file_for, with_file, book_kept}
use Rattle.book.specs.Calls.{notice_bytes, premise_state, Result, refusal, meets_row6, marked_book, in_book}
use Rattle.book.specs.CallsInRow.{called}
use Rattle.book.specs.Laws.{BookKept}
use Rattle.book.proofs.Files.{Rising, rises_rising}
use Rattle.book.proofs.FilesPut.{found_at}
use Rattle.book.proofs.Keeps.{has_premise}
use Rattle.book.proofs.Kept.{count_is, book_kept_means}
use Rattle.book.proofs.Rows.{not_new}
use Rattle.book.proofs.ByReading.{call_malformed, call_not_held, call_on_mark}
use Rattle.book.proofs.ByPremise.{call_full, call_one, call_one_refused}
use Rattle.book.proofs.CallsInRow.{called_room}
use Rattle.book_files.specs.Places.{before}
use Rattle.book_files.proofs.Before.{Here, Elsewhere, before_within, file_elsewhere}
use Rattle.book_files.proofs.PutIn.{put_elsewhere}
use Rattle.book_files.proofs.TakenOut.{taken_here}
use Rattle.book_files.proofs.Tidy.{past}
use Rattle.book_player.specs.declared.dispatch.Task.{Task}
use Rattle.book_player.specs.declared.dispatch.Task.TheVariants.{Refused, Opens, Closes, OnFile, NextDay}
use Rattle.book_player.specs.Tasks.{premise_in, on_new, on_held, on_mark, task_of, Known, KnownHeld, KnownCloses}
use Rattle.book_player.proofs.Seeking.{Sought}

abbrev lent : List ℕ
lent = replicate notice_bytes 0

module _ (bytes : List ℕ) (b : Book) (well : book_kept b ≡ true) where
  kept : BookKept b
  kept = (book_kept_means b).0 well

  rising : Rising 0 (files_of b)
  rising = rises_rising 0 (files_of b) kept.rising

  counted : length (files_of b) ≡ b.count
  counted = count_is b kept.tidy

  module _ (r : Record) (e : reading bytes ≡ Some r) where
    -- ---- a premise whose file stands at the place
    module _ (at : ℕ) (place : at ≡ before r.premise (files_of b)) (here : Here past r.premise (files_of b)) where
      within : at < b.count
      within = omega (arith, place, here.0, counted)

      own : (get_or (files_of b) at past).premise ≡ r.premise
      own = ap (λ (i : ℕ). (get_or (files_of b) i past).premise) place ∙ here.1

      file_is : get_or (files_of b) at past ≡ get_or b.files at past
      file_is = get_or-take b.count b.files at past within

      found : file_for r.premise (files_of b) ≡ Some (get_or b.files at past)
      found = found_at past r.premise 0 (files_of b) rising at (omega (arith, within, counted)) own ∙ ap Some file_is

      abbrev file : File
      file = get_or b.files at past

      -- what the one-premise rules give on it
      on_it_lem : (calendar : List ℕ) {given : Given} → given_on calendar b.today (Some file) r ≡ given
          → step calendar (premise_state b r.premise) r ≡ given
      on_it_lem calendar s = ap (λ (x : Option File). given_on calendar b.today x r) found ∙ s

      -- where they refuse
      refused_there : (answer : Answer) → is kind_day_mark r ≡ false
          → ((calendar : List ℕ) → given_on calendar b.today (Some file) r
          ≡ refused answer (record { today = b.today; file = Some file }))
          → (calendar : List ℕ) → called calendar b bytes ≡ refusal answer b
      refused_there answer other s calendar =
          call_one_refused calendar b bytes lent r kept called_room e other (not_new b r file found) answer
          (on_it_lem calendar (s calendar)
          ∙ ap (λ (x : Option File). refused answer (record { today = b.today; file = x })) (sym found))

      pub create_refused : is kind_create r ≡ true → Known bytes b past (Refused PremiseHeld)
      create_refused create =
          let kind = eqb-true r.kind kind_create create in
          record {
            result = refused_there (Err PremiseHeld) (ne_eqb r.kind kind_day_mark (λ q. omega (arith, q, kind)))
                (λ calendar. create_held calendar b.today r file kind);
          }

      -- a retire
      module _ (retire : r.kind ≡ kind_retire) where
        not_mark : is kind_day_mark r ≡ false
        not_mark = ne_eqb r.kind kind_day_mark (λ q. omega (arith, q, retire))

        taken : book_of b.today (with_file r.premise None (files_of b)) ≡ book_of b.today (removed at (files_of b))
        taken = ap (book_of b.today) (taken_here past r.premise (files_of b) here.0 here.1
            ∙ ap (λ (i : ℕ). removed i (files_of b)) (sym place))

        retired : (calendar : List ℕ) (one : Bool) → any_of is_open (held file) ≡ one
            → called calendar b bytes ≡ cond one (refusal (Err OrderOpen) b)
            (record { answer = Ok tt; notices = []; book = book_of b.today (removed at (files_of b)) })
        retired calendar true t = refused_there (Err OrderOpen) not_mark
            (λ calendar'. retire_open calendar' b.today file r retire t) calendar
        retired calendar false t =
            call_one calendar b bytes lent r kept called_room e not_mark (not_new b r file found)
            ∙ ap (in_book b r.premise) (on_it_lem calendar (retire_done calendar b.today file r retire t))
            ∙ ap {B = Result} (λ (c : Book). record { answer = Ok tt; notices = []; book = c }) taken

        pub closes : KnownCloses bytes b past at
        closes = record { within = within; result = λ calendar. retired calendar (any_of is_open (held file)) refl }

      pub stands : needs_premise r ≡ true → is kind_retire r ≡ false → KnownHeld bytes b past at r
      stands needs stays =
          record {
            says = e;
            held = record {
              within = within;
              own = ap (λ (f : File). f.premise) (sym file_is) ∙ own;
              kind = record { needs = needs; stays = stays };
            };
          }

    -- ---- a premise that is not held
    module _ (at : ℕ) (place : at ≡ before r.premise (files_of b)) (out : Elsewhere past r.premise (files_of b)) where
      absent : file_for r.premise (files_of b) ≡ None
      absent = file_elsewhere past r.premise 0 (files_of b) rising out

      pub needs_refused : needs_premise r ≡ true → Known bytes b past (Refused NoSuchPremise)
      needs_refused needs = record { result = λ calendar. call_not_held calendar b bytes lent r well called_room e needs absent }

      module _ (create : r.kind ≡ kind_create) where
        not_a_mark : is kind_day_mark r ≡ false
        not_a_mark = ne_eqb r.kind kind_day_mark (λ q. omega (arith, q, create))

        -- row 6, by the count
        full_is : meets_row6 b (Some r) ≡ eqb b.count most_files
        full_is =
            ap₂ (λ (x : Option File) (n : ℕ). is kind_create r && not (is_held x) && eqb n most_files) absent counted
            ∙ ap (λ (a : Bool). a && true && eqb b.count most_files) (eq-eqb r.kind kind_create create)

        pub full : eqb b.count most_files ≡ true → Known bytes b past (Refused BookFull)
        full t = record { result = λ calendar. call_full calendar b bytes lent r kept called_room e (full_is ∙ t) }

        put_there : book_of b.today (with_file r.premise (Some (new_file r)) (files_of b))
            ≡ book_of b.today (inserted at (new_file r) (files_of b))
        put_there = ap (book_of b.today) (put_elsewhere past (new_file r) (files_of b) absent
            ∙ ap (λ (i : ℕ). inserted i (new_file r) (files_of b)) (sym place))

        pub opens : eqb b.count most_files ≡ false → Known bytes b past (Opens at r)
        opens t =
            record {
              within = omega (arith, place, before_within r.premise (files_of b), counted);
              free = omega (arith, kept.tidy.few, eqb-false b.count most_files t);
              result = λ calendar.
                  call_one calendar b bytes lent r kept called_room e not_a_mark (full_is ∙ t)
                  ∙ ap (in_book b r.premise)
                  (ap (λ (x : Option File). given_on calendar b.today x r) absent ∙ create_done calendar b.today r create)
                  ∙ ap {B = Result} (λ (c : Book). record { answer = Ok tt; notices = []; book = c }) put_there;
            }

    -- ---- by what is found: the premise is held exactly if the number at its place is its own
    module _ {at there : ℕ} (sought : Sought r.premise b at there) where
      here : is kind_day_mark r ≡ false → eqb there r.premise ≡ true → Here past r.premise (files_of b)
      here other own = sought.held (has_premise r (says bytes r e).formed other) (eqb-true there r.premise own)

      out : eqb there r.premise ≡ false → Elsewhere past r.premise (files_of b)
      out other = sought.free (eqb-false there r.premise other)

      of_new : is kind_create r ≡ true → Known bytes b past (on_new r b.count at there)
      of_new create =
          let kind = eqb-true r.kind kind_create create in
          by_test (Known bytes b past) (eqb there r.premise) (Refused PremiseHeld)
          (cond (eqb b.count most_files) (Refused BookFull) (Opens at r))
          (λ own. create_refused at sought.place (here (ne_eqb r.kind kind_day_mark (λ q. omega (arith, q, kind))) own) create)
          (λ other. by_test (Known bytes b past) (eqb b.count most_files) (Refused BookFull) (Opens at r)
          (full at sought.place (out other) kind) (opens at sought.place (out other) kind))

      of_held : needs_premise r ≡ true → Known bytes b past (on_held r at there)
      of_held needs =
          by_test (Known bytes b past) (eqb there r.premise) (cond (is kind_retire r) (Closes at) (OnFile at r)) (Refused NoSuchPremise)
          (λ own. by_test (Known bytes b past) (is kind_retire r) (Closes at) (OnFile at r)
          (λ retire. closes at sought.place (here (needs_no_mark r needs) own) (eqb-true r.kind kind_retire retire))
          (stands at sought.place (here (needs_no_mark r needs) own) needs))
          (λ other. needs_refused at sought.place (out other) needs)

    -- ---- a day mark
    of_mark : is kind_day_mark r ≡ true → Known bytes b past (on_mark b.today r.day)
    of_mark mark =
        let by-day : (calendar : List ℕ) (next : Bool) → eqb r.day (b.today + 1) ≡ next
        → called calendar b bytes ≡ cond next (marked_book calendar b r.day) (refusal (Err NotNextDay) b) =
        λ calendar next t. call_on_mark calendar b bytes lent r well called_room e mark
        ∙ ap (λ (a : Bool). cond a (marked_book calendar b r.day) (refusal (Err NotNextDay) b)) t in
        by_test (Known bytes b past) (eqb r.day (b.today + 1)) (NextDay r.day) (Refused NotNextDay)
        (λ next. record { result = λ calendar. by-day calendar true next })
        (λ other. record { result = λ calendar. by-day calendar false other })

  of_reading : {at there : ℕ} (d : Option Record) → reading bytes ≡ d → Sought (premise_in d) b at there
      → Known bytes b past (task_of b.today b.count at there d)
  of_reading None e s = record { result = λ calendar. call_malformed calendar b bytes lent well called_room e }
  of_reading {at} {there} (Some r) e s =
      by_test (Known bytes b past) (is kind_create r) (on_new r b.count at there)
      (cond (needs_premise r) (on_held r at there) (on_mark b.today r.day))
      (λ create. of_new r e s create)
      (λ other. by_test (Known bytes b past) (needs_premise r) (on_held r at there) (on_mark b.today r.day)
      (λ needs. of_held r e s needs)
      (λ neither. of_mark r e (else_mark r (says bytes r e).formed other neither)))

  -- The dispatch on a well_kept book tells what is so.
  pub task_known : {d : Option Record} → d ≡ reading bytes → {premise at there : ℕ} → premise ≡ premise_in d → Sought premise b at there
      → {task : Task} → task ≡ task_of b.today b.count at there d → Known bytes b past task
  task_known {d} read {at = at} {there = there} names s done =
      subst⁻¹ (Known bytes b past) done (of_reading d (sym read) (subst (λ (n : ℕ). Sought n b at there) names s))
