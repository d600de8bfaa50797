-- Either field width: on a book without a retailer above the narrow limit a call by bytes without one is the same by either layout, since
-- its bytes say the same and the book is well kept by both or neither; and it leaves such a book, and notices to no other retailer. Assumes
-- nothing.
use Prim.Native.Nat.{ℕ, ◌*◌, min}
use mathlib.Core.Path.{◌≡◌, refl, ap, sym, subst, subst⁻¹, ◌∙◌}
use mathlib.Core.List.{List, [], ◌∷◌, ◌++◌}
use mathlib.Core.Bool.{Bool, true, false}
use lib.Dec.{eqb}
use lib.ListN.{length, drop}
use borrow.Author.Tests.{eqb-true, eqb-false}
use Rattle.lists.specs.Search.{Each}
use Rattle.lists.proofs.TestLaws.{by_test}
use Rattle.lists.proofs.SearchLaws.{each_append}
use Rattle.days.specs.Days.{last_day}
use Rattle.records.specs.declared.Notice.{Notice}
use Rattle.std.specs.Prelude.{Option, Some, None}
use Rattle.records.specs.declared.Record.{Record}
use Rattle.records.specs.Layout.{record_length, wide, narrow}
use Rattle.records.specs.Records.{reading_by, reading, kind_day_mark}
use Rattle.records.specs.Widths.{NamedUpTo, ToUpTo}
use Rattle.records.proofs.Readings.{other_length}
use Rattle.records.proofs.Widths.{same_reading, says_up_to, same_notices_lem}
use Rattle.premise.specs.declared.File.{File}
use Rattle.premise.specs.Orders.{kept_width}
use Rattle.premise.specs.Steps.{is}
use Rattle.premise.specs.Refusals.{number, first_row}
use Rattle.premise.specs.OnePremise.{Given, given_on, marked}
use Rattle.premise_laws.specs.Retailers.{RetailersUpTo, GivesUpTo}
use Rattle.premise_laws.proofs.Retailers.{step_makes_no_retailer, mark_makes_no_retailer}
use Rattle.book.specs.declared.Book.{Book}
use Rattle.book.specs.Book.{files_of, fresh_book, file_for, with_file}
use Rattle.book.specs.Calls.{Result, call_rows, marked_files, marked_notices, marked_book, premise_state, on_premise, on_reading, call_by, call}
use Rattle.book.proofs.Files.{found_each}
use Rattle.book.proofs.SameFiles.{with_each}
use Rattle.book.proofs.Kept.{holds_its_files, book_kept_by_either}
use Rattle.book.proofs.RowsInOrder.{call_by_either}
use Rattle.same_outcomes.specs.Outcomes.{Outcome, ToMake, outcome_of, outcome_by, outcomes_by}
use Rattle.same_outcomes.specs.EitherWidth.{NineDigits, NoLongRetailer, EitherWidth}

-- no retailer above the narrow limit, in files and in notices
abbrev last : ℕ
last = narrow.last_retailer

abbrev NoneAbove : List File → Type 0
NoneAbove fs = Each (RetailersUpTo last) fs

abbrev TellsNoneAbove : List Notice → Type 0
TellsNoneAbove ns = Each (ToUpTo last) ns

-- bytes of a record without one
abbrev Short : List ℕ → Type 0
Short bytes = length bytes ≡ record_length → NineDigits bytes

-- they say the same by either layout, and name none
record Agrees (bytes : List ℕ) : Type 0 where
  pub same : reading_by narrow bytes ≡ reading bytes
  pub names : NamedUpTo last (reading bytes)

agrees : (bytes : List ℕ) → Short bytes → Agrees bytes
agrees bytes short = go (eqb (length bytes) record_length) refl
  where
    go : (b : Bool) → eqb (length bytes) record_length ≡ b → Agrees bytes
    go true e =
        let nine = short (eqb-true (length bytes) record_length e) in
        record { same = same_reading bytes nine.rest nine.retailer; names = says_up_to bytes nine.rest nine.retailer }
    go false e =
        let other = eqb-false (length bytes) record_length e in
        record {
          same = other_length narrow bytes other ∙ sym (other_length wide bytes other);
          names = subst⁻¹ (NamedUpTo last) (other_length wide bytes other) tt;
        }

-- what comes of a call has none
record Stays (x : Result) : Type 0 where
  pub files : NoneAbove (files_of x.book)
  pub notices : TellsNoneAbove x.notices

module _ (calendar : List ℕ) where
  -- ---- a call is the same by either layout ..
  call_same : (b : Book) → NoneAbove (files_of b) → (bytes lent : List ℕ) → Short bytes
      → call_by narrow kept_width calendar b bytes lent ≡ call_by wide kept_width calendar b bytes lent
  call_same b u bytes lent nine = call_by_either narrow wide calendar b bytes lent (book_kept_by_either b u) (agrees bytes nine).same

  -- ---- .. and makes no retailer
  files_left_lem : (day : ℕ) (fs : List File) → NoneAbove fs → NoneAbove (marked_files calendar day fs)
  files_left_lem day [] u = tt
  files_left_lem day (f ∷ fs) u = ((mark_makes_no_retailer last kept_width calendar day f u.0).file, files_left_lem day fs u.1)

  notices_left : (day : ℕ) (fs : List File) → NoneAbove fs → TellsNoneAbove (marked_notices calendar day fs)
  notices_left day [] u = tt
  notices_left day (f ∷ fs) u =
      each_append (ToUpTo last) (marked calendar day f).notices (marked_notices calendar day fs)
      (mark_makes_no_retailer last kept_width calendar day f u.0).notices (notices_left day fs u.1)

  reading_left : (b : Book) → NoneAbove (files_of b) → (d : Option Record) → NamedUpTo last d → Stays (on_reading calendar b d)
  reading_left b u None n = record { files = u; notices = tt }
  reading_left b u (Some r) n =
      by_test Stays (is kind_day_mark r) (marked_book calendar b r.day) (on_premise calendar b r)
      (λ t. record {
        files =
            subst NoneAbove (sym (holds_its_files r.day (marked_files calendar r.day (files_of b))))
            (files_left_lem r.day (files_of b) u);
        notices = notices_left r.day (files_of b) u;
      })
      (λ t. let given : Given = given_on calendar b.today (file_for r.premise (files_of b)) r in
      let gives : GivesUpTo last given =
      step_makes_no_retailer last kept_width calendar (premise_state b r.premise) r n
      (found_each (RetailersUpTo last) r.premise (files_of b) u) in
      record {
        files =
            subst NoneAbove (sym (holds_its_files b.today (with_file r.premise given.state.file (files_of b))))
            (with_each (RetailersUpTo last) r.premise given.state.file (files_of b) gives.file u);
        notices = gives.notices;
      })

  call_left : (b : Book) (bytes lent : List ℕ) → NoneAbove (files_of b) → Short bytes → Stays (call calendar b bytes lent)
  unfolding call_by
  call_left b bytes lent u nine =
      by_test Stays (eqb (number (first_row (call_rows calendar b bytes lent))) 0) (on_reading calendar b (reading bytes)) _
      (λ t. reading_left b u (reading bytes) (agrees bytes nine).names) (λ t. record { files = u; notices = tt })

  -- ---- so its outcome is the same, the buffer's bytes with it
  outcome_same : (b : Book) (bytes lent : List ℕ) → NoneAbove (files_of b) → Short bytes
      → outcome_by narrow kept_width calendar b bytes lent ≡ outcome_by wide kept_width calendar b bytes lent
  outcome_same b bytes lent u nine =
      let x : Result = call calendar b bytes lent in
      ap (λ (y : Result). outcome_of narrow y lent) (call_same b u bytes lent nine)
      ∙ ap (λ (told : List ℕ). record {
        answer = number x.answer;
        sent = length x.notices;
        book = x.book;
        after = told ++ drop (record_length * length x.notices) lent;
      })
      (same_notices_lem x.notices (call_left b bytes lent u nine).notices)

  -- ---- call after call
  outcomes_same : (b : Book) (cs : List ToMake) → NoneAbove (files_of b) → NoLongRetailer cs
      → outcomes_by narrow kept_width calendar b cs ≡ outcomes_by wide kept_width calendar b cs
  outcomes_same b [] u n = refl
  outcomes_same b (c ∷ cs) u n =
      ap (λ (x : Outcome). x ∷ outcomes_by narrow kept_width calendar x.book cs) (outcome_same b c.bytes c.lent u n.0)
      ∙ ap (λ (xs : List Outcome). outcome_by wide kept_width calendar b c.bytes c.lent ∷ xs)
      (outcomes_same (call calendar b c.bytes c.lent).book cs (call_left b c.bytes c.lent u n.0).files n.1)

pub either_width : EitherWidth
either_width calendar start cs n =
    outcomes_same calendar (fresh_book start) cs (subst NoneAbove (sym (holds_its_files (min start last_day) [])) tt) n
