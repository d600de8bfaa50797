-- 19, too few notice bytes and a damaged book, from the promise. Assumes nothing.
use Prim.Native.Nat.{ℕ, zero, suc, ◌*◌, ◌≤◌, ◌<◌}
use mathlib.Core.Path.{◌≡◌, refl, ap, ap₂, subst, ◌∙◌}
use mathlib.Core.List.{List, [], ◌∷◌, ◌++◌}
use mathlib.Core.Bool.{Bool, true, false}
use native.Mathlib.Omega.{arith}
use lib.Dec.{ltb}
use lib.ListN.{length, drop, replicate, length-replicate, get_or}
use borrow.Author.Tests.{ltb-true, ltb-false, lt-ltb, le-ltb}
use Rattle.records.specs.declared.Notice.{Notice}
use Rattle.records.specs.Layout.{record_length}
use Rattle.records.specs.Notices.{encode_all}
use Rattle.std.specs.Prelude.{Err}
use Rattle.premise.specs.declared.Refusal.TheVariants.{NotWellKept}
use Rattle.premise.specs.Refusals.{number}
use Rattle.premise.proofs.Table.{book_answers}
use Rattle.book.specs.declared.Book.{Book}
use Rattle.book.specs.Book.{book_kept}
use Rattle.book.specs.Calls.{notice_bytes, refusal}
use Rattle.book.specs.CallsInRow.{Course, stopped, calls_in_row, answers_of, notices_of}
use Rattle.book.proofs.CallsInRow.{row_stops, row_unkept}
use Rattle.stretch_rules.specs.declared.Replies.{Replies}
use Rattle.stretch_rules.specs.declared.StretchAnswer.TheVariants.{Taken, FewAnswers}
use Rattle.stretch_rules.specs.Stretch.{whole_count, whole_records, Outcome, stretch_call, Gives}
use Rattle.stretch_rules.specs.Stretch.{number as stretch_number}
use Rattle.stretch_rules.specs.NothingPlayed.{FewAnswersFirst, ZeroWithoutRoom, TwoForEachRecord}
use Rattle.stretch_rules.proofs.Whole.{whole_many}

-- ---- the outcome, by whether there are answers enough
module _ (calendar : List ℕ) (b : Book) (tape : List ℕ) (places free : ℕ) where
  pub few_answers : places < whole_count tape
      → stretch_call calendar b tape places free ≡ record { answer = FewAnswers; course = stopped b (whole_records tape) }
  unfolding stretch_call
  few_answers h = rw (lt-ltb places (whole_count tape) h)

  pub enough_answers : whole_count tape ≤ places
      → stretch_call calendar b tape places free ≡ record { answer = Taken; course = calls_in_row calendar free b (whole_records tape) }
  unfolding stretch_call
  enough_answers h = rw (le-ltb places (whole_count tape) h)

  pub no_room : whole_count tape ≤ places → free < notice_bytes
      → stretch_call calendar b tape places free ≡ record { answer = Taken; course = stopped b (whole_records tape) }
  no_room h short =
      enough_answers h ∙ ap (λ (c : Course). record { answer = Taken; course = c }) (row_stops calendar free b (whole_records tape) short)

  pub all_two : whole_count tape ≤ places → notice_bytes ≤ free → book_kept b ≡ false
      → stretch_call calendar b tape places free
      ≡ record {
        answer = Taken;
        course = record { results = replicate (whole_count tape) (refusal (Err NotWellKept) b); book = b; left = [] };
      }
  all_two h room damaged =
      enough_answers h
      ∙ ap (λ (c : Course). record { answer = Taken; course = c })
      (row_unkept calendar free b (whole_records tape) damaged room
      ∙ ap (λ (n : ℕ). record { results = replicate n (refusal (Err NotWellKept) b); book = b; left = [] }) (whole_many tape))

-- ---- what many refusals with 2 give
pub unkept_is_2 : number (Err NotWellKept) ≡ 2
unkept_is_2 = ap (λ (ns : List ℕ). get_or ns 1 0) book_answers

pub twos : (n : ℕ) (b : Book) → answers_of (replicate n (refusal (Err NotWellKept) b)) ≡ replicate n 2
twos zero b = refl
twos (suc n) b = ap₂ (λ (k : ℕ) (l : List ℕ). k ∷ l) unkept_is_2 (twos n b)

pub no_notices : (n : ℕ) (b : Book) → notices_of (replicate n (refusal (Err NotWellKept) b)) ≡ []
no_notices zero b = refl
no_notices (suc n) b = no_notices n b

-- ---- the three statements
-- the same outcome by another name
pub gives_as : {x y : Outcome} {r : Replies} {answers₀ answers₁ notices₀ notices₁ : List ℕ} → x ≡ y
    → Gives x r answers₀ answers₁ notices₀ notices₁ → Gives y r answers₀ answers₁ notices₀ notices₁
gives_as {x} {y} {r} {answers₀} {answers₁} {notices₀} {notices₁} e g =
    subst (λ (z : Outcome). Gives z r answers₀ answers₁ notices₀ notices₁) e g

pub few_answers_first : FewAnswersFirst
unfolding stretch_number
few_answers_first calendar b tape r answers₀ answers₁ notices₀ notices₁ p =
    let short : stretch_number r.answer ≡ 19 → length answers₀ < whole_count tape =
    λ e. go (ltb (length answers₀) (whole_count tape)) refl e in
    record {
      exactly = (
        short,
        (λ h. ap stretch_number (gives_as (few_answers calendar b tape (length answers₀) (length notices₀) h) p).answer),
      );
      came = λ e.
          let g = gives_as (few_answers calendar b tape (length answers₀) (length notices₀) (short e)) p in
          record { answered = e; played = g.played; sent = g.notices.count; book = g.book };
      answers = λ e. (gives_as (few_answers calendar b tape (length answers₀) (length notices₀) (short e)) p).answers;
      notices = λ e. (gives_as (few_answers calendar b tape (length answers₀) (length notices₀) (short e)) p).notices.bytes;
    }
  where
    go : (few : Bool) → ltb (length answers₀) (whole_count tape) ≡ few → stretch_number r.answer ≡ 19 → length answers₀ < whole_count tape
    go true t e = ltb-true (length answers₀) (whole_count tape) t
    go false t e =
        let h = ltb-false (length answers₀) (whole_count tape) t in
        let none : stretch_number r.answer ≡ 0 =
        ap stretch_number (gives_as (enough_answers calendar b tape (length answers₀) (length notices₀) h) p).answer in
        absurd (omega (arith, e, none))

pub zero_without_room : ZeroWithoutRoom
unfolding stretch_number
zero_without_room calendar b tape r answers₀ answers₁ notices₀ notices₁ p enough short =
    let g = gives_as (no_room calendar b tape (length answers₀) (length notices₀) enough short) p in
    record {
      came = record {
        answered = ap stretch_number g.answer;
        played = g.played;
        sent = g.notices.count;
        book = g.book;
      };
      answers = g.answers;
      notices = g.notices.bytes;
    }

pub two_for_each_record : TwoForEachRecord
unfolding stretch_number
two_for_each_record calendar b tape r answers₀ answers₁ notices₀ notices₁ p enough room damaged =
    let n = whole_count tape in
    let g = gives_as (all_two calendar b tape (length answers₀) (length notices₀) enough room damaged) p in
    record {
      came = record {
        answered = ap stretch_number g.answer;
        played = g.played ∙ length-replicate n (refusal (Err NotWellKept) b);
        sent = g.notices.count ∙ ap length (no_notices n b);
        book = g.book;
      };
      answers = g.answers
          ∙ ap (λ (l : List ℕ). l ++ drop (length l) answers₀) (twos n b)
          ∙ ap (λ (k : ℕ). replicate n 2 ++ drop k answers₀) (length-replicate {A = ℕ} n 2);
      notices = g.notices.bytes ∙ ap (λ (l : List Notice). encode_all l ++ drop (record_length * length l) notices₀) (no_notices n b);
    }
