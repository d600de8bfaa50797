-- A day mark gives at most two notices for each held order, and a record at most two more than that. Assumes nothing.
use Prim.Native.Nat.{ℕ, ◌*◌, ◌≤◌, ◌<◌}
use mathlib.Core.Path.{◌≡◌, sym, ap, ◌∙◌}
use mathlib.Core.List.{List, [], ◌∷◌, ◌++◌}
use Rattle.std.specs.Prelude.{Option, Some, None}
use mathlib.Core.Bool.{Bool, true, false, cond, true≢false}
use native.Mathlib.Omega.{arith}
use lib.Dec.{eqb}
use lib.ListN.{length, set, length-append, length-set}
use Rattle.days.specs.Days.{is_business_day}
use Rattle.days.specs.Window.{in_window}
use Rattle.records.specs.declared.Record.{Record}
use Rattle.records.specs.Records.{kind_create, kind_retire, kind_new_order, kind_day_mark, kind_agreement, delete}
use Rattle.premise.specs.declared.Order.{Order}
use Rattle.premise.specs.declared.File.{File}
use Rattle.premise.specs.Orders.{most_orders, held, with_orders}
use Rattle.premise.specs.Passes.{Outcome, Effect, notice_of_no_order, code_agreement_request, code_agreement_response}
use Rattle.premise.specs.Steps.{is, make_room, new_order, named, order_at, supplied, ordered, changed, on_order, on_scheduled, on_permit}
use Rattle.premise.specs.Steps.{on_unexecutable, on_read, on_cancel, on_reply, on_date_change, on_named, has_other_holder, agreed}
use Rattle.premise.specs.Clock.{clock, ticked}
use Rattle.premise.specs.Evaluation.{same_day_switches, same_day_switch, drops_on_switch_days, drop_on_switch_day, permits_overtaken, permit_overtaken}
use Rattle.premise.specs.Evaluation.{loss_notices, loss_notice, evaluation, evaluated}
use Rattle.premise.specs.WellKept.{order_kept, FileKept}
use Rattle.premise.specs.Refusals.{number, first_row, rows}
use Rattle.premise.specs.OnePremise.{Given, effect_on, at_place, stepped, marked_with, step_with, stepped_with}
use Rattle.premise_laws.specs.Laws.{Held, most_of_record, MarkFew, StepFew}
use Rattle.lists.proofs.TestLaws.{by_test}
use Rattle.premise.proofs.KeptFiles.{held_with}
use Rattle.premise_laws.proofs.Room.{held_most, accepted_room}
use Rattle.premise_laws.proofs.Sends.{Sends, few, sends_two, sends_either, total, pass_few, each_few}
use Rattle.premise_laws.proofs.Allowance.{OnlyDays, window_days, at_mark, at_settling, at_dropping, at_telling, done, settling_most}
use Rattle.premise_laws.proofs.Allowance.{ticked_few, same_day_few, drop_few, overtaken_few, loss_few}

total_most : (most : Order → ℕ) → ((o : Order) → most o ≤ 2) → (os : List Order) → total most os ≤ 2 * length os
total_most most h [] = omega arith
total_most most h (o ∷ os) = omega (arith, h o, total_most most h os)

-- ---- the evaluation
evaluation_few : (near : ℕ → Bool) → OnlyDays near → (today : ℕ) (f : File) (os : List Order)
    → length (evaluation near today f os).notices ≤ total at_settling os
unfolding evaluation
evaluation_few near only today f os =
    let premise = f.premise in
    let retailer = f.retailer in
    let agreement = f.agreement in
    let one : Outcome = same_day_switches near premise os in
    let two : Outcome = drops_on_switch_days near f one.orders in
    let three : Outcome = permits_overtaken today premise two.orders in
    let four : Outcome = loss_notices near f three.orders in
    omega (
      arith,
      each_few at_settling at_dropping (same_day_switch near premise os) (same_day_few near only today premise retailer agreement os) 0 os,
      each_few at_dropping at_dropping (λ (i : ℕ). drop_on_switch_day near premise retailer one.orders)
          (drop_few near only today premise retailer agreement one.orders) 0 one.orders,
      each_few at_dropping at_telling (λ (i : ℕ). permit_overtaken today premise two.orders)
          (overtaken_few near only today premise retailer agreement two.orders) 0 two.orders,
      each_few at_telling done (λ (i : ℕ). loss_notice near premise retailer agreement)
          (loss_few near only today premise retailer agreement three.orders) 0
          three.orders,
      length-append one.notices two.notices,
      length-append (one.notices ++ two.notices) three.notices,
      length-append ((one.notices ++ two.notices) ++ three.notices) four.notices,
    )

pub evaluated_few : (calendar : List ℕ) (today : ℕ) (f : File) → length (evaluated calendar today f).notices ≤ 2 * length (held f)
evaluated_few calendar today f =
    omega (
      arith,
      evaluation_few (in_window calendar f.window today) (window_days calendar f.window today) today f (held f),
      total_most at_settling settling_most (held f),
    )

pub mark_few : MarkFew
unfolding marked_with
mark_few calendar today f k =
    let ticks : Outcome = clock calendar today f.premise (held f) in
    omega (
      arith,
      pass_few order_kept at_mark at_settling (λ (i : ℕ). ticked (is_business_day calendar today) today f.premise)
          (λ i. ticked_few (is_business_day calendar today) today f.premise) 0 (held f) k.orders,
      total_most at_mark (λ o. omega arith) (held f),
      evaluation_few (in_window calendar f.window today) (window_days calendar f.window today) today
          (with_orders f ticks.orders) (held (with_orders f ticks.orders)),
      ap (total at_settling) (held_with f ticks.orders),
      length-append ticks.notices (evaluated calendar today (with_orders f ticks.orders)).notices,
    )

-- ---- a record's own steps
own_few : (calendar : List ℕ) (today : ℕ) (f : File) (r : Record) (o : Order) → Sends done 2 (on_named calendar today f r o)
unfolding on_named on_date_change on_order on_scheduled on_permit on_unexecutable on_read on_cancel on_reply
own_few calendar today f r o = search (few, sends_either, sends_two) depth 14

-- at most two notices, and at most eight orders afterwards
record Few (e : Effect) : Type 0 where
  notices : length e.notices ≤ 2
  orders : length (held e.file) ≤ most_orders

place_few : (calendar : List ℕ) (today : ℕ) (f : File) (r : Record) (place : Option ℕ) → f.count ≤ most_orders
    → Few (at_place calendar today f r place)
unfolding changed
place_few calendar today f r (Some i) h =
    let o : Order = order_at (held f) (Some i) in
    let after : Order = (on_named calendar today f r o).order in
    record {
      notices = omega (arith, (own_few calendar today f r o).fact);
      orders = omega (arith, ap length (held_with (supplied f r o) (set (held f) i after)), length-set (held f) i after, held_most f h);
    }
place_few calendar today f r None h = record { notices = omega arith; orders = held_most f h }

new_few : (calendar : List ℕ) (today : ℕ) (f : File) (r : Record) → length (make_room (held f)) < most_orders
    → Few (ordered calendar today f r)
unfolding ordered
new_few calendar today f r h =
    let os : List Order = make_room (held f) in
    let new : List Order = new_order calendar today r ∷ [] in
    record {
      notices = omega arith;
      orders = omega (arith, ap length (held_with f (os ++ new)), length-append os new);
    }

stepped_few : (calendar : List ℕ) (today : ℕ) (f : File) (r : Record) → f.count ≤ most_orders
    → (is kind_new_order r ≡ true → length (make_room (held f)) < most_orders)
    → length (stepped calendar today f r).notices ≤ most_of_record
unfolding stepped_with
stepped_few calendar today f r h room =
    let first : Effect = cond (is kind_new_order r) (ordered calendar today f r) (at_place calendar today f r (named r (held f))) in
    let few : Few first =
    by_test Few (is kind_new_order r) _ _ (λ e. new_few calendar today f r (room e))
    (λ e. place_few calendar today f r (named r (held f)) h) in
    omega (
      arith,
      few.notices,
      few.orders,
      evaluated_few calendar today first.file,
      length-append first.notices
          (evaluated calendar today first.file).notices,
    )

agreed_few : (f : File) (r : Record) → length (agreed f r).notices ≤ most_of_record
unfolding agreed
agreed_few f r =
    by_test (λ (e : Effect). length e.notices ≤ most_of_record) (eqb r.detail delete) _ _ (λ d. omega arith)
    (λ d. go (has_other_holder f r))
  where
    go : (other : Bool)
        → length (cond other (notice_of_no_order code_agreement_request f.premise f.agreement ∷ []) []
        ++ (notice_of_no_order code_agreement_response f.premise r.retailer ∷ [])) ≤ most_of_record
    go true = omega arith
    go false = omega arith

effect_few : (calendar : List ℕ) (today : ℕ) (file : Option File) (r : Record)
    → eqb (number (first_row (rows calendar today file r))) 0 ≡ true → is kind_day_mark r ≡ false → Held FileKept file
    → length (effect_on calendar today file r).notices ≤ most_of_record
effect_few calendar today None r e m k =
    by_test (λ (g : Given). length g.notices ≤ most_of_record) (is kind_create r) _ _ (λ t. omega arith) (λ t. omega arith)
effect_few calendar today (Some f) r e m k =
    let P : Given → Type 0 = (λ g. length g.notices ≤ most_of_record) in
    by_test P (is kind_retire r) _ _ (λ t. omega arith) (λ t.
    by_test P (is kind_day_mark r) _ _ (λ t. absurd (true≢false (sym t ∙ m))) (λ t.
    by_test (λ (a : Effect). length a.notices ≤ most_of_record) (is kind_agreement r) _ _ (λ t. agreed_few f r) (λ t.
    stepped_few calendar today f r k.tidy.few (λ new. accepted_room calendar today f r k.tidy.few e new))))

pub step_few : StepFew
unfolding step_with
step_few calendar s r formed m k =
    by_test (λ (g : Given). length g.notices ≤ most_of_record) (eqb (number (first_row (rows calendar s.today s.file r))) 0) _ _
    (λ e. effect_few calendar s.today s.file r e m k)
    (λ e. omega arith)
