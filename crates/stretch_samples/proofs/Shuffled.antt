-- The sample as one stretch and a shuffle of it as two, computed, go through demand 3 of stretches, whose premises can thus be met. Assumes
-- nothing.
use Prim.Native.Nat.{ℕ}
use mathlib.Core.Path.{◌≡◌, refl, sym, ap, subst⁻¹, ◌∙◌}
use mathlib.Core.List.{List, [], ◌∷◌, ◌++◌}
use mathlib.Core.Bool.{Bool, true, false, not, false≢true}
use native.Mathlib.Omega.{arith}
use lib.Dec.{eqb}
use borrow.Author.Tests.{eqb-true, eq-eqb}
use Rattle.lists.specs.Search.{Each, all_of}
use Rattle.lists.proofs.TestLaws.{and_left, and_right}
use Rattle.records.specs.Layout.{Bytes}
use Rattle.days.specs.Days.{kind_of_day, is_business_day, switch_date}
use Rattle.days.specs.Window.{business_days, in_window}
use Rattle.records.specs.Layout.{field_of}
use Rattle.records.specs.Records.{well_formed_by, reading_by}
use Rattle.premise.specs.Orders.{places}
use Rattle.premise.specs.Steps.{requested_day, make_room, ordered, taken, on_scheduled, on_permit, on_unexecutable, on_read, supplied, on_cancel}
use Rattle.premise.specs.Steps.{on_reply, on_order, on_date_change, on_named, changed, agreed}
use Rattle.premise.specs.Clock.{reviewed, permit_awaited, cancel_awaited, ticked}
use Rattle.premise.specs.Evaluation.{contends, switch_of_day, gives_way, same_day_switch, is_displaced, drop_on_switch_day, is_overtaken}
use Rattle.premise.specs.Evaluation.{permit_overtaken, is_due, loss_notice, evaluation}
use Rattle.premise.specs.FirstIn.{refuses, stands_in_way, not_first_in}
use Rattle.premise.specs.WellKept.{order_kept_by, is_blank, file_kept_by, file_blank}
use Rattle.premise.specs.Refusals.{number, premise_rows, order_rows}
use Rattle.premise.specs.OnePremise.{marked_with, step_with, stepped_with}
use Rattle.book.specs.Book.{book_of, book_kept_by, file_for, put_in, taken_out}
use Rattle.book.specs.Totals.{waiting_in}
use Rattle.book.specs.Calls.{call_rows_by, call_by}
use Rattle.book.specs.CallsInRow.{calls_in_row}
use Rattle.book.specs.declared.Book.{Book}
use Rattle.book.specs.Book.{fresh_book}
use Rattle.demands.specs.Tapes.{own_of}
use Rattle.demands.specs.Sample.{create7, create5, order7, order5, scheduled7, scheduled5, mark1, calendar}
use Rattle.demands.proofs.ByDefinition.{byte_test, are_bytes}
use Rattle.demands.proofs.Tapes.{Marked, kept_of, own_marked}
use Rattle.stretch_rules.specs.Stretch.{joined, whole_records, stretch_call}
use Rattle.stretch_rules.specs.Stretches.{MadeStretch, PlayedStretches, records_played, answers_given, FromFresh}
use Rattle.stretch_samples.specs.Samples.{sample, ten, notices_lent, made_stretch, stretches, first, second, whole, cut}
use Rattle.stretch_samples.specs.Samples.{whole_answers, cut_answers, Shuffled}
use Rattle.stretch_rules.proofs.Stretches.{stretches_shuffled}

-- each is made by the definition of the call
made : (b : Book) (tapes : List (List ℕ)) → PlayedStretches calendar b (stretches b tapes)
unfolding made_stretch
made b [] = tt
made b (tape ∷ tapes) = (
  record { answer = refl; played = refl; book = refl; answers = refl; notices = record { count = refl; bytes = refl } },
  made (made_stretch b tape).replies.book tapes,
)

-- their stretches are bytes, where the tapes are
all_bytes : (b : Book) (tapes : List (List ℕ)) → all_of byte_test tapes ≡ true
    → Each (λ (s : MadeStretch). Bytes s.tape) (stretches b tapes)
unfolding made_stretch
all_bytes b [] e = tt
all_bytes b (tape ∷ tapes) e = (
  are_bytes tape (and_left (byte_test tape) (all_of byte_test tapes) e),
  all_bytes (made_stretch b tape).replies.book tapes (and_right (byte_test tape) (all_of byte_test tapes) e),
)

-- what was played and answered
record Plays : Type 0 where
  fed : records_played whole ≡ sample
  fed₂ : records_played cut ≡ first ++ second
  one : answers_given whole ≡ whole_answers
  two : answers_given cut ≡ cut_answers
  bytes : all_of byte_test (ten ∷ []) ≡ true
  bytes₂ : all_of byte_test (joined first ∷ joined second ∷ []) ≡ true

plays : Plays
unfolding reviewed permit_awaited cancel_awaited ticked contends switch_of_day gives_way same_day_switch is_displaced drop_on_switch_day is_overtaken
    permit_overtaken is_due loss_notice evaluation refuses stands_in_way not_first_in marked_with stepped_with step_with places number premise_rows
    order_rows requested_day make_room ordered taken on_scheduled on_permit on_unexecutable on_read supplied on_cancel on_reply on_order on_date_change
    on_named changed agreed order_kept_by is_blank file_kept_by file_blank field_of well_formed_by reading_by kind_of_day is_business_day switch_date
    business_days in_window waiting_in book_of book_kept_by file_for put_in taken_out call_rows_by call_by calls_in_row create7 create5 order7 order5
    scheduled7 scheduled5 mark1 calendar whole_records stretch_call notices_lent made_stretch
plays = record { fed = refl; fed₂ = refl; one = refl; two = refl; bytes = refl; bytes₂ = refl }

-- no number of a list is 6
not6 : (answers : List ℕ) → all_of (λ (n : ℕ). not (eqb n 6)) answers ≡ true → Each (λ (n : ℕ). n ≡ 6 → ⊥) answers
not6 [] e = tt
not6 (n ∷ ns) e = (
  (λ six. false≢true (sym (ap not (eq-eqb n 6 six)) ∙ and_left (not (eqb n 6)) (all_of (λ (m : ℕ). not (eqb m 6)) ns) e)),
  not6 ns (and_right (not (eqb n 6)) (all_of (λ (m : ℕ). not (eqb m 6)) ns) e),
)

-- ---- every premise has the same records in both, in the same order: which concern it, by whether it is 7 or 5
abbrev marks : Bool → Bool → List Bool
marks seven five = seven ∷ five ∷ seven ∷ seven ∷ five ∷ false ∷ five ∷ seven ∷ true ∷ true ∷ []

abbrev marks₂ : Bool → Bool → List Bool
marks₂ seven five = five ∷ five ∷ seven ∷ false ∷ seven ∷ five ∷ seven ∷ seven ∷ true ∷ true ∷ []

record BothMarked (premise : ℕ) : Type 0 where
  ours : Marked premise sample (marks (eqb 7 premise) (eqb 5 premise))
  theirs : Marked premise (first ++ second) (marks₂ (eqb 7 premise) (eqb 5 premise))

marked_both : (premise : ℕ) → BothMarked premise
unfolding reading_by well_formed_by field_of create7 create5 order7 order5 scheduled7 scheduled5 mark1
marked_both premise = record {
  ours = (refl, (refl, (refl, (refl, (refl, (refl, (refl, (refl, (refl, (refl, tt))))))))));
  theirs = (refl, (refl, (refl, (refl, (refl, (refl, (refl, (refl, (refl, (refl, tt))))))))));
}

kept_same : (premise : ℕ)
    → kept_of (marks (eqb 7 premise) (eqb 5 premise)) sample ≡ kept_of (marks₂ (eqb 7 premise) (eqb 5 premise)) (first ++ second)
kept_same premise = go (eqb 7 premise) (eqb 5 premise) refl refl
  where
    go : (seven five : Bool) → eqb 7 premise ≡ seven → eqb 5 premise ≡ five
        → kept_of (marks seven five) sample ≡ kept_of (marks₂ seven five) (first ++ second)
    go true true a b = absurd (omega (arith, eqb-true 7 premise a, eqb-true 5 premise b))
    go true false a b = refl
    go false true a b = refl
    go false false a b = refl

agree : (premise : ℕ) → own_of premise sample ≡ own_of premise (first ++ second)
agree premise =
    own_marked premise sample (marks (eqb 7 premise) (eqb 5 premise)) (marked_both premise).ours ∙ kept_same premise
    ∙ sym (own_marked premise (first ++ second) (marks₂ (eqb 7 premise) (eqb 5 premise)) (marked_both premise).theirs)

-- ---- so that both leave the same book
from_whole : FromFresh calendar 0 whole
from_whole = record {
  played = made (fresh_book 0) (ten ∷ []);
  real = all_bytes (fresh_book 0) (ten ∷ []) plays.bytes;
  places = subst⁻¹ (Each (λ (n : ℕ). n ≡ 6 → ⊥)) plays.one (not6 whole_answers refl);
}

from_cut : FromFresh calendar 0 cut
from_cut = record {
  played = made (fresh_book 0) (joined first ∷ joined second ∷ []);
  real = all_bytes (fresh_book 0) (joined first ∷ joined second ∷ []) plays.bytes₂;
  places = subst⁻¹ (Each (λ (n : ℕ). n ≡ 6 → ⊥)) plays.two (not6 cut_answers refl);
}

pub shuffled : Shuffled
shuffled = record {
  one = plays.one;
  two = plays.two;
  same = stretches_shuffled calendar 0 whole cut from_whole from_cut
      (λ premise i. ap (own_of premise) plays.fed ∙ agree premise ∙ sym (ap (own_of premise) plays.fed₂));
}
