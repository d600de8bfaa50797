-- What comes back on the last day, from the demands: the calls that are played by definition stand for all that are made of their tape.
-- Assumes nothing.
use Prim.Native.Nat.{ℕ, ◌≤◌}
use mathlib.Core.Path.{◌≡◌, refl, ap, sym, ◌∙◌}
use mathlib.Core.List.{List, [], ◌∷◌, ◌++◌, map}
use mathlib.Core.Bool.{Bool, true, false, cond}
use native.Mathlib.Omega.{arith}
use lib.Dec.{eqb}
use lib.ListN.{length}
use borrow.Author.Tests.{eqb-true}
use Rattle.days.specs.Days.{kind_of_day, is_business_day, switch_date}
use Rattle.days.specs.Window.{business_days, in_window}
use Rattle.lists.specs.Search.{Each}
use Rattle.records.specs.Layout.{premise_field, field_of}
use Rattle.records.specs.Records.{well_formed_by, reading_by}
use Rattle.records.specs.Notices.{encode_by, rows}
use Rattle.premise.specs.Orders.{places}
use Rattle.premise.specs.Steps.{requested_day, make_room, ordered, taken, on_scheduled, on_permit, on_unexecutable, on_read, supplied, on_cancel}
use Rattle.premise.specs.Steps.{on_reply, on_order, on_date_change, on_named, changed, agreed}
use Rattle.premise.specs.Clock.{reviewed, permit_awaited, cancel_awaited, ticked}
use Rattle.premise.specs.Evaluation.{contends, switch_of_day, gives_way, same_day_switch, is_displaced, drop_on_switch_day, is_overtaken}
use Rattle.premise.specs.Evaluation.{permit_overtaken, is_due, loss_notice, evaluation}
use Rattle.premise.specs.FirstIn.{refuses, stands_in_way, not_first_in}
use Rattle.premise.specs.WellKept.{order_kept_by, is_blank, file_kept_by, file_blank}
use Rattle.premise.specs.Refusals.{number, premise_rows, order_rows}
use Rattle.premise.specs.OnePremise.{start_state, runs, marked_with, step_with, stepped_with}
use Rattle.book.specs.declared.Book.{Book}
use Rattle.book.specs.Totals.{waiting_in}
use Rattle.book.specs.Book.{fresh_book, book_of, book_kept_by, file_for, put_in, taken_out}
use Rattle.book.specs.Calls.{notice_bytes, call_rows_by, call_by}
use Rattle.demands.specs.Demand3.{Made, Played, last_book, Premise, records, with_premise, notices_for, ruled_notices}
use Rattle.demands.specs.Sample.{lent, made, plays, create7, create5}
use Rattle.demands.specs.Tapes.{Plays, tape_of, own_of}
use Rattle.demands.specs.Rearranged.{NobodySees}
use Rattle.last_day.specs.LastDay.{switch7, switch5, scheduled7, scheduled5, mark, retire6, one_byte}
use Rattle.last_day.specs.LastDay.{notices7, notices5, switch_of, file_of, Call, OneByOne, book_after, rows_of, naming, OnTheLastDay}
use Rattle.last_day.specs.LastDay.{tape, answers₁}
use Rattle.last_day.specs.LastDay.{tape₂, answers₂, tape₃, answers₃, LastDay}
use Rattle.demands.proofs.Picks.{pick_append}
use Rattle.demands.proofs.ByDefinition.{Short, short_plays, by_definition}
use Rattle.demands.proofs.Tapes.{Marked, kept_of, own_marked, plays_ruled}
use Rattle.demands.proofs.Rearranged.{nobody_sees}
use Rattle.demands.proofs.Callers.{buffers_dont_count}

-- ---- the tapes, computed: what the premises and the calls played by definition come to
record Computed (tape : List (List ℕ)) (answered : List ℕ) : Type 0 where
  short : Short tape
  numbers : map (λ (m : Made). number m.reply.answer) (plays [] (fresh_book 5000) tape) ≡ answered

record Ruled (tape : List (List ℕ)) : Type 0 where
  of7 : ruled_notices (runs [] (start_state 5000) (records (own_of 7 tape))) ≡ notices7
  of5 : ruled_notices (runs [] (start_state 5000) (records (own_of 5 tape))) ≡ notices5
  of6 : ruled_notices (runs [] (start_state 5000) (records (own_of 6 tape))) ≡ []
  book : last_book (fresh_book 5000) (plays [] (fresh_book 5000) tape)
      ≡ book_of 4095 (file_of 5 102 (switch_of 9 203) ∷ file_of 7 101 (switch_of 1 202) ∷ [])

record AllComputed : Type 0 where
  first : Computed tape answers₁
  second : Computed tape₂ answers₂
  third : Computed tape₃ answers₃
  ruled : Ruled tape

computed : AllComputed
unfolding reviewed permit_awaited cancel_awaited ticked contends switch_of_day gives_way same_day_switch is_displaced drop_on_switch_day is_overtaken
    permit_overtaken is_due loss_notice evaluation refuses stands_in_way not_first_in marked_with stepped_with step_with places number premise_rows
    order_rows requested_day make_room ordered taken on_scheduled on_permit on_unexecutable on_read supplied on_cancel on_reply on_order on_date_change
    on_named changed agreed order_kept_by is_blank file_kept_by file_blank field_of encode_by well_formed_by reading_by kind_of_day is_business_day
    switch_date business_days in_window waiting_in book_of book_kept_by file_for put_in taken_out call_rows_by call_by lent made plays create7 create5
    switch7 switch5 scheduled7 scheduled5 mark retire6 one_byte notices7 notices5 tape tape₂ tape₃
computed = record {
  first = record { short = record { real = refl; few = omega arith }; numbers = refl };
  second = record { short = record { real = refl; few = omega arith }; numbers = refl };
  third = record { short = record { real = refl; few = omega arith }; numbers = refl };
  ruled = record { of7 = refl; of5 = refl; of6 = refl; book = refl };
}

-- ---- the calls, as demand 3 has them
abbrev as_made : Call → Made
as_made c = record { bytes = c.bytes; lent = c.lent; reply = c.reply; after = c.after }

abbrev all_made : List Call → List Made
all_made cs = map as_made cs

made_played : (b : Book) (cs : List Call) → OneByOne b cs → Played [] b (all_made cs)
made_played b [] p = tt
made_played b (c ∷ cs) p = (p.0, made_played c.reply.book cs p.1)

made_room : (cs : List Call) → Each (λ (c : Call). notice_bytes ≤ length c.lent) cs
    → Each (λ (m : Made). notice_bytes ≤ length m.lent) (all_made cs)
made_room [] h = tt
made_room (c ∷ cs) h = (h.0, made_room cs h.1)

made_tape : (cs : List Call) → tape_of (all_made cs) ≡ map (λ (c : Call). c.bytes) cs
made_tape [] = refl
made_tape (c ∷ cs) = ap (λ (l : List (List ℕ)). c.bytes ∷ l) (made_tape cs)

made_answers : (cs : List Call)
    → map (λ (c : Call). number c.reply.answer) cs ≡ map (λ (m : Made). number m.reply.answer) (all_made cs)
made_answers [] = refl
made_answers (c ∷ cs) = ap (λ (l : List ℕ). number c.reply.answer ∷ l) (made_answers cs)

made_book : (b : Book) (cs : List Call) → book_after b cs ≡ last_book b (all_made cs)
made_book b [] = refl
made_book b (c ∷ cs) = made_book c.reply.book cs

-- ---- what comes back
naming_is : (premise : ℕ) (notices : List (List ℕ)) → naming premise notices ≡ with_premise premise notices
naming_is premise [] = refl
naming_is premise (row ∷ others) =
    ap (λ (l : List (List ℕ)). cond (eqb (field_of premise_field row) premise) (row ∷ l) l) (naming_is premise others)

picked : (premise : ℕ) (cs : List Call) → with_premise premise (rows_of cs) ≡ notices_for premise (all_made cs)
picked premise [] = refl
picked premise (c ∷ cs) =
    pick_append premise (rows c.reply.sent c.after) (rows_of cs)
    ∙ ap (λ (l : List (List ℕ)). with_premise premise (rows c.reply.sent c.after) ++ l) (picked premise cs)

on_the_last_day : (t : List (List ℕ)) (answered : List ℕ) → Computed t answered → ((premise : ℕ) → own_of premise t ≡ own_of premise tape)
    → OnTheLastDay t answered
on_the_last_day t answered c agree cs calls =
    record {
      answers = made_answers cs
          ∙ buffers_dont_count [] 5000 t (all_made cs) (plays [] (fresh_book 5000) t) mine (by_definition [] 5000 t c.short)
          ∙ c.numbers;
      of7 = noticed 7 (record { above = omega arith; below = omega arith }) ∙ computed.ruled.of7;
      of5 = noticed 5 (record { above = omega arith; below = omega arith }) ∙ computed.ruled.of5;
      of6 = noticed 6 (record { above = omega arith; below = omega arith }) ∙ computed.ruled.of6;
      book = made_book (fresh_book 5000) cs ∙ same.book ∙ computed.ruled.book;
    }
  where
    mine : Plays [] 5000 t (all_made cs)
    mine = short_plays [] 5000 t (all_made cs) c.short (made_tape cs ∙ calls.fed) (made_played (fresh_book 5000) cs calls.promised)
        (made_room cs calls.room)

    -- the first tape, played by definition
    first : Plays [] 5000 tape (plays [] (fresh_book 5000) tape)
    first = by_definition [] 5000 tape computed.first.short

    same : NobodySees 5000 (all_made cs) (plays [] (fresh_book 5000) tape)
    same = nobody_sees [] 5000 t tape (all_made cs) (plays [] (fresh_book 5000) tape) mine first agree

    noticed : (premise : ℕ) → Premise premise
        → naming premise (rows_of cs) ≡ ruled_notices (runs [] (start_state 5000) (records (own_of premise tape)))
    noticed premise i =
        naming_is premise (rows_of cs) ∙ picked premise cs ∙ same.notices premise i
        ∙ (plays_ruled [] 5000 premise tape tape (plays [] (fresh_book 5000) tape) first refl i).notices

-- ---- the three tapes have the same records for every premise
-- which records of a tape concern a premise, by whether it is 7, 5 or 6
abbrev marks : Bool → Bool → Bool → List Bool
marks seven five six = seven ∷ five ∷ seven ∷ seven ∷ false ∷ five ∷ seven ∷ true ∷ six ∷ five ∷ []

abbrev marks₂ : Bool → Bool → Bool → List Bool
marks₂ seven five six = five ∷ five ∷ seven ∷ seven ∷ seven ∷ seven ∷ true ∷ five ∷ false ∷ six ∷ []

abbrev marks₃ : Bool → Bool → Bool → List Bool
marks₃ seven five six = false ∷ seven ∷ seven ∷ five ∷ seven ∷ seven ∷ five ∷ true ∷ six ∷ five ∷ false ∷ []

record AllMarked (premise : ℕ) : Type 0 where
  first : Marked premise tape (marks (eqb 7 premise) (eqb 5 premise) (eqb 6 premise))
  second : Marked premise tape₂ (marks₂ (eqb 7 premise) (eqb 5 premise) (eqb 6 premise))
  third : Marked premise tape₃ (marks₃ (eqb 7 premise) (eqb 5 premise) (eqb 6 premise))

marked_all : (premise : ℕ) → AllMarked premise
unfolding reading_by well_formed_by field_of create7 create5 switch7 switch5 scheduled7 scheduled5 mark retire6 one_byte tape tape₂ tape₃
marked_all premise = record {
  first = (refl, (refl, (refl, (refl, (refl, (refl, (refl, (refl, (refl, (refl, tt))))))))));
  second = (refl, (refl, (refl, (refl, (refl, (refl, (refl, (refl, (refl, (refl, tt))))))))));
  third = (refl, (refl, (refl, (refl, (refl, (refl, (refl, (refl, (refl, (refl, (refl, tt)))))))))));
}

record Agree (seven five six : Bool) : Type 0 where
  second : kept_of (marks₂ seven five six) tape₂ ≡ kept_of (marks seven five six) tape
  third : kept_of (marks₃ seven five six) tape₃ ≡ kept_of (marks seven five six) tape

agree : (premise : ℕ) → Agree (eqb 7 premise) (eqb 5 premise) (eqb 6 premise)
unfolding tape tape₂ tape₃
agree premise = go (eqb 7 premise) (eqb 5 premise) (eqb 6 premise) refl refl refl
  where
    go : (seven five six : Bool) → eqb 7 premise ≡ seven → eqb 5 premise ≡ five → eqb 6 premise ≡ six → Agree seven five six
    go true true six a b c = absurd (omega (arith, eqb-true 7 premise a, eqb-true 5 premise b))
    go true false true a b c = absurd (omega (arith, eqb-true 7 premise a, eqb-true 6 premise c))
    go false true true a b c = absurd (omega (arith, eqb-true 5 premise b, eqb-true 6 premise c))
    go true false false a b c = record { second = refl; third = refl }
    go false true false a b c = record { second = refl; third = refl }
    go false false true a b c = record { second = refl; third = refl }
    go false false false a b c = record { second = refl; third = refl }

own : (premise : ℕ) (t : List (List ℕ)) (of_tape : Bool → Bool → Bool → List Bool)
    → Marked premise t (of_tape (eqb 7 premise) (eqb 5 premise) (eqb 6 premise))
    → kept_of (of_tape (eqb 7 premise) (eqb 5 premise) (eqb 6 premise)) t
    ≡ kept_of (marks (eqb 7 premise) (eqb 5 premise) (eqb 6 premise)) tape
    → own_of premise t ≡ own_of premise tape
own premise t of_tape m e =
    own_marked premise t (of_tape (eqb 7 premise) (eqb 5 premise) (eqb 6 premise)) m ∙ e
    ∙ sym (own_marked premise tape (marks (eqb 7 premise) (eqb 5 premise) (eqb 6 premise)) (marked_all premise).first)

pub last_day_lem : LastDay
last_day_lem = record {
  first = on_the_last_day tape answers₁ computed.first (λ premise. refl);
  second = on_the_last_day tape₂ answers₂ computed.second
      (λ premise. own premise tape₂ marks₂ (marked_all premise).second (agree premise).second);
  third = on_the_last_day tape₃ answers₃ computed.third
      (λ premise. own premise tape₃ marks₃ (marked_all premise).third (agree premise).third);
}
