-- A window of 2 throughout: on a book whose files all have it a call is the same by either width, by the laws of one premise; and it leaves
-- only such files if what its bytes say is no create with a detail. Assumes nothing.
use Prim.Native.Nat.{ℕ, min}
use mathlib.Core.Path.{◌≡◌, refl, ap, ap₂, sym, subst, ◌∙◌}
use mathlib.Core.List.{List, [], ◌∷◌, ◌++◌}
use Rattle.std.specs.Prelude.{Option, Some, None}
use mathlib.Core.Bool.{Bool, true, false, cond, not, ◌&&◌}
use lib.Dec.{eqb, ltb}
use lib.ListN.{length}
use Rattle.lists.specs.Search.{Each}
use Rattle.lists.proofs.TestLaws.{by_test}
use Rattle.days.specs.Days.{last_day}
use Rattle.days.specs.Window.{window_width}
use Rattle.records.specs.declared.Record.{Record}
use Rattle.records.specs.declared.Notice.{Notice}
use Rattle.records.specs.Layout.{wide}
use Rattle.records.specs.Records.{reading, kind_create, kind_day_mark}
use Rattle.premise.specs.declared.File.{File}
use Rattle.std.specs.Prelude.{Ok}
use Rattle.premise.specs.declared.Refusal.TheVariants.{ShortBuffer, NotWellKept, MalformedRecord, BookFull}
use Rattle.premise.specs.Orders.{kept_width, always}
use Rattle.premise.specs.Steps.{is, width_for}
use Rattle.premise.specs.Refusals.{Row, row, number, first_row, premise_rows}
use Rattle.premise.specs.OnePremise.{Given, given_on}
use Rattle.premise.proofs.Answers.{only_create_makes}
use Rattle.premise_laws.specs.Laws.{Held}
use Rattle.premise_laws.specs.Windows.{OfWidth}
use Rattle.premise_laws.proofs.Windows.{step_leaves_width, create_gives_width, mark_leaves_width, rows_of_width, step_of_width}
use Rattle.premise_laws.proofs.Windows.{mark_of_width}
use Rattle.book.specs.declared.Book.{Book}
use Rattle.book.specs.Book.{most_files, files_of, book_of, fresh_book, book_kept, file_for, with_file}
use Rattle.book.specs.Calls.{Result, record_rows_with, call_rows_by, call_rows_with, marked_files_with, marked_notices_with, premise_state}
use Rattle.book.specs.Calls.{on_reading_with, refusal}
use Rattle.book.specs.Calls.{notice_bytes, call_rows, marked_files, marked_book, on_premise, on_reading, call_by, call_with, call}
use Rattle.book.proofs.Files.{found_each}
use Rattle.book.proofs.SameFiles.{with_each}
use Rattle.book.proofs.Kept.{holds_its_files}
use Rattle.same_outcomes.specs.Outcomes.{Outcome, ToMake, outcome_of}
use Rattle.same_outcomes.specs.WindowOfTwo.{outcome_with, outcomes_with, NoDetail, NoCreateHasDetail, WindowOfTwo}

-- every file has a window of 2
abbrev AllTwo : List File → Type 0
AllTwo fs = Each (OfWidth window_width) fs

-- ---- one call is the same by either width
module _ (calendar : List ℕ) where
  files_same : (day : ℕ) (fs : List File) → AllTwo fs
      → marked_files_with kept_width calendar day fs ≡ marked_files_with (always window_width) calendar day fs
  files_same day [] u = refl
  files_same day (f ∷ fs) u =
      ap₂ (λ (g : File) (gs : List File). g ∷ gs) (ap (λ e. e.file) (mark_of_width window_width calendar day f u.0))
      (files_same day fs u.1)

  notices_same : (day : ℕ) (fs : List File) → AllTwo fs
      → marked_notices_with kept_width calendar day fs ≡ marked_notices_with (always window_width) calendar day fs
  notices_same day [] u = refl
  notices_same day (f ∷ fs) u =
      ap₂ (λ (ns ms : List Notice). ns ++ ms) (ap (λ e. e.notices) (mark_of_width window_width calendar day f u.0))
      (notices_same day fs u.1)

  module _ (b : Book) (u : AllTwo (files_of b)) where
    found : (premise : ℕ) → Held (OfWidth window_width) (file_for premise (files_of b))
    found premise = found_each (OfWidth window_width) premise (files_of b) u

    rows_same : (d : Option Record) → record_rows_with kept_width calendar b d ≡ record_rows_with (always window_width) calendar b d
    rows_same None = refl
    rows_same (Some r) =
        let file : Option File = file_for r.premise (files_of b) in
        ap (λ (rs : List Row). row MalformedRecord false
        ∷ premise_rows file r ++ (row BookFull (is kind_create r && eqb (length (files_of b)) most_files) ∷ rs))
        (rows_of_width window_width calendar b.today file r (found r.premise))

    reading_same : (d : Option Record) → on_reading_with kept_width calendar b d ≡ on_reading_with (always window_width) calendar b d
    reading_same None = refl
    reading_same (Some r) =
        ap₂ (cond (is kind_day_mark r))
        (ap₂ (λ (ns : List Notice) (fs : List File). record { answer = Ok tt; notices = ns; book = book_of r.day fs })
        (notices_same r.day (files_of b) u) (files_same r.day (files_of b) u))
        (ap (λ (given : Given). record {
          answer = Ok tt;
          notices = given.notices;
          book = book_of b.today (with_file r.premise given.state.file (files_of b));
        })
        (step_of_width window_width calendar (premise_state b r.premise) r (found r.premise)))

    table_same : (bytes lent : List ℕ)
        → call_rows_with kept_width calendar b bytes lent ≡ call_rows_with (always window_width) calendar b bytes lent
    unfolding call_rows_by
    table_same bytes lent =
        ap (λ (rs : List Row). row ShortBuffer (ltb (length lent) notice_bytes) ∷ row NotWellKept (not (book_kept b)) ∷ rs)
        (rows_same (reading bytes))

    call_same : (bytes lent : List ℕ) → call_with kept_width calendar b bytes lent ≡ call_with (always window_width) calendar b bytes lent
    unfolding call_by
    call_same bytes lent =
        ap₂ (λ (rs : List Row) (done : Result). cond (eqb (number (first_row rs)) 0) done (refusal (first_row rs) b))
        (table_same bytes lent) (reading_same (reading bytes))

  -- ---- and leaves files of a window of 2
  files_left_lem : (day : ℕ) (fs : List File) → AllTwo fs → AllTwo (marked_files_with kept_width calendar day fs)
  files_left_lem day [] u = tt
  files_left_lem day (f ∷ fs) u = (mark_leaves_width kept_width calendar day f ∙ u.0, files_left_lem day fs u.1)

  file_left : (today : ℕ) (r : Record) → NoDetail (Some r) → (file : Option File) → Held (OfWidth window_width) file
      → Held (OfWidth window_width) (given_on calendar today file r).state.file
  file_left today r n (Some f) h =
      subst (λ (width : ℕ). Held (OfWidth width) (given_on calendar today (Some f) r).state.file) h
      (step_leaves_width kept_width calendar today f r)
  file_left today r n None h = go (is kind_create r) refl
    where
      go : (create : Bool) → is kind_create r ≡ create → Held (OfWidth window_width) (given_on calendar today None r).state.file
      go true e =
          subst (λ (detail : ℕ). Held (OfWidth (width_for detail)) (given_on calendar today None r).state.file) (n e)
          (create_gives_width kept_width calendar today r)
      go false e = subst (Held (OfWidth window_width)) (sym (only_create_makes calendar today r e)) tt

  call_left : (b : Book) (bytes lent : List ℕ) → AllTwo (files_of b) → NoDetail (reading bytes)
      → AllTwo (files_of (call calendar b bytes lent).book)
  unfolding call_by
  call_left b bytes lent u n =
      by_test (λ (x : Result). AllTwo (files_of x.book)) (eqb (number (first_row (call_rows calendar b bytes lent))) 0)
      (on_reading calendar b (reading bytes)) _ (λ t. go (reading bytes) n) (λ t. u)
    where
      go : (d : Option Record) → NoDetail d → AllTwo (files_of (on_reading calendar b d).book)
      go None n = u
      go (Some r) n =
          by_test (λ (x : Result). AllTwo (files_of x.book)) (is kind_day_mark r) (marked_book calendar b r.day) (on_premise calendar b r)
          (λ t. rw (holds_its_files r.day (marked_files calendar r.day (files_of b))) (files_left_lem r.day (files_of b) u))
          (λ t. let file : Option File = (given_on calendar b.today (file_for r.premise (files_of b)) r).state.file in
          rw (holds_its_files b.today (with_file r.premise file (files_of b)))
          (with_each (OfWidth window_width) r.premise file (files_of b)
          (file_left b.today r n (file_for r.premise (files_of b)) (found b u r.premise)) u))

  -- ---- call after call
  outcomes_same : (b : Book) (cs : List ToMake) → AllTwo (files_of b) → NoCreateHasDetail cs
      → outcomes_with kept_width calendar b cs ≡ outcomes_with (always window_width) calendar b cs
  outcomes_same b [] u n = refl
  outcomes_same b (c ∷ cs) u n =
      ap (λ (os : List Outcome). outcome_with kept_width calendar b c.bytes c.lent ∷ os)
      (outcomes_same (call calendar b c.bytes c.lent).book cs (call_left b c.bytes c.lent u n.0) n.1)
      ∙ ap (λ (x : Result). outcome_of wide x c.lent ∷ outcomes_with (always window_width) calendar x.book cs)
      (call_same b u c.bytes c.lent)

pub window_of_two : WindowOfTwo
window_of_two calendar start cs n = outcomes_same calendar (fresh_book start) cs (rw (holds_its_files (min start last_day) []) tt) n
