-- The sample comes out as it must, and its shuffle goes through demand 3, whose premises can thus be met. Assumes nothing.
use Prim.Native.Nat.{ℕ}
use mathlib.Core.Path.{◌≡◌, refl, ap, sym, ◌∙◌}
use mathlib.Core.List.{List, [], ◌∷◌}
use mathlib.Core.Bool.{Bool, true, false}
use native.Mathlib.Omega.{arith}
use lib.Dec.{eqb}
use borrow.Author.Tests.{eqb-true}
use Rattle.days.specs.Days.{kind_of_day, is_business_day, switch_date}
use Rattle.days.specs.Window.{business_days, in_window}
use Rattle.records.specs.Layout.{field_of}
use Rattle.records.specs.Records.{well_formed_by, reading_by}
use Rattle.records.specs.Notices.{encode_by}
use Rattle.premise.specs.Orders.{places}
use Rattle.premise.specs.Steps.{requested_day, make_room, ordered, taken, on_scheduled, on_permit, on_unexecutable, on_read, supplied, on_cancel}
use Rattle.premise.specs.Steps.{on_reply, on_order, on_date_change, on_named, changed, agreed}
use Rattle.premise.specs.Clock.{reviewed, permit_awaited, cancel_awaited, ticked}
use Rattle.premise.specs.Evaluation.{contends, switch_of_day, gives_way, same_day_switch, is_displaced, drop_on_switch_day, is_overtaken}
use Rattle.premise.specs.Evaluation.{permit_overtaken, is_due, loss_notice, evaluation}
use Rattle.premise.specs.FirstIn.{refuses, stands_in_way, not_first_in}
use Rattle.premise.specs.WellKept.{order_kept_by, is_blank, file_kept_by, file_blank}
use Rattle.premise.specs.Refusals.{number, premise_rows, order_rows}
use Rattle.premise.specs.OnePremise.{marked_with, step_with, stepped_with}
use Rattle.book.specs.Totals.{waiting_in}
use Rattle.book.specs.Book.{book_of, book_kept_by, file_for, put_in, taken_out}
use Rattle.book.specs.Calls.{call_rows_by, call_by}
use Rattle.demands.specs.Demand3.{Premise, own_bytes, SameBooks}
use Rattle.demands.specs.Tapes.{own_of}
use Rattle.demands.proofs.Demand3.{demand_3}
use Rattle.demands.proofs.Tapes.{own_of_made, Marked, kept_of, own_marked}
use Rattle.demands.proofs.ByDefinition.{Short, by_definition}
use Rattle.demands.specs.Sample.{lent, made, plays, create7, create5, order7, order5, change5, establish7, scheduled7, scheduled5}
use Rattle.demands.specs.Sample.{mark1, malformed, calendar, tape, sample, shuffled, again, ordered7, agreed7, dated7, losing7}
use Rattle.demands.specs.Sample.{ordered5, changed5, dated5, losing5, buffers, Comes}

-- ---- the sample
pub comes : Comes
unfolding reviewed permit_awaited cancel_awaited ticked contends switch_of_day gives_way same_day_switch is_displaced drop_on_switch_day is_overtaken
    permit_overtaken is_due loss_notice evaluation refuses stands_in_way not_first_in marked_with stepped_with step_with places number premise_rows
    order_rows requested_day make_room ordered taken on_scheduled on_permit on_unexecutable on_read supplied on_cancel on_reply on_order on_date_change
    on_named changed agreed order_kept_by is_blank file_kept_by file_blank field_of encode_by well_formed_by reading_by kind_of_day is_business_day
    switch_date business_days in_window waiting_in book_of book_kept_by file_for put_in taken_out call_rows_by call_by lent made plays create7 create5
    order7 order5 change5 establish7 scheduled7 scheduled5 mark1 malformed calendar tape sample shuffled again ordered7 agreed7 dated7
    losing7 ordered5 changed5 dated5 losing5 buffers
comes = record {
  answers7 = refl;
  answers5 = refl;
  answers6 = refl;
  notices7 = refl;
  notices5 = refl;
  notices6 = refl;
  all = refl;
}

-- ---- every premise has the same records in both lists, in the same order
-- which records concern a premise, by whether it is 7 or 5
abbrev marks : Bool → Bool → List Bool
marks seven five = seven ∷ five ∷ seven ∷ seven ∷ seven ∷ five ∷ false ∷ five ∷ five ∷ five ∷ seven ∷ true ∷ true ∷ []

abbrev marks₂ : Bool → Bool → List Bool
marks₂ seven five = five ∷ five ∷ seven ∷ false ∷ false ∷ five ∷ seven ∷ five ∷ five ∷ seven ∷ seven ∷ seven ∷ true ∷ true ∷ []

record BothMarked (premise : ℕ) : Type 0 where
  first : Marked premise tape (marks (eqb 7 premise) (eqb 5 premise))
  second : Marked premise shuffled (marks₂ (eqb 7 premise) (eqb 5 premise))

marked_both : (premise : ℕ) → BothMarked premise
unfolding reading_by well_formed_by field_of create7 create5 order7 order5 change5 establish7 scheduled7 scheduled5 mark1 malformed tape
    shuffled
marked_both premise = record {
  first = (refl, (refl, (refl, (refl, (refl, (refl, (refl, (refl, (refl, (refl, (refl, (refl, (refl, tt)))))))))))));
  second = (refl, (refl, (refl, (refl, (refl, (refl, (refl, (refl, (refl, (refl, (refl, (refl, (refl, (refl, tt))))))))))))));
}

kept_same : (premise : ℕ) → kept_of (marks (eqb 7 premise) (eqb 5 premise)) tape ≡ kept_of (marks₂ (eqb 7 premise) (eqb 5 premise)) shuffled
unfolding tape shuffled
kept_same premise = go (eqb 7 premise) (eqb 5 premise) refl refl
  where
    go : (seven five : Bool) → eqb 7 premise ≡ seven → eqb 5 premise ≡ five
        → kept_of (marks seven five) tape ≡ kept_of (marks₂ seven five) shuffled
    go true true a b = absurd (omega (arith, eqb-true 7 premise a, eqb-true 5 premise b))
    go true false a b = refl
    go false true a b = refl
    go false false a b = refl

agree : (premise : ℕ) → own_of premise tape ≡ own_of premise shuffled
agree premise =
    own_marked premise tape (marks (eqb 7 premise) (eqb 5 premise)) (marked_both premise).first ∙ kept_same premise
    ∙ sym (own_marked premise shuffled (marks₂ (eqb 7 premise) (eqb 5 premise)) (marked_both premise).second)

-- so that demand 3 says of the two that they leave the same book
pub record Shorts : Type 0 where
  pub first : Short tape
  pub second : Short shuffled

pub shorts : Shorts
unfolding create7 create5 order7 order5 change5 establish7 scheduled7 scheduled5 mark1 malformed tape shuffled
shorts = record { first = record { real = refl; few = omega arith }; second = record { real = refl; few = omega arith } }

pub agree_made : (premise : ℕ) → Premise premise → own_bytes premise sample ≡ own_bytes premise again
unfolding sample again
agree_made premise i =
    let p = by_definition calendar 0 tape shorts.first in
    let q = by_definition calendar 0 shuffled shorts.second in
    own_of_made premise sample ∙ ap (own_of premise) p.fed ∙ agree premise
    ∙ sym (own_of_made premise again ∙ ap (own_of premise) q.fed)

pub same : SameBooks 0 sample again
unfolding sample again
same =
    let p = by_definition calendar 0 tape shorts.first in
    let q = by_definition calendar 0 shuffled shorts.second in
    demand_3.shuffled calendar 0 sample again p.played p.allowed q.played q.allowed agree_made
