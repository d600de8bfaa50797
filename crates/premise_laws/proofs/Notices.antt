-- Every notice carries the premise's number: each step makes its notices with it. Assumes nothing.
use Prim.Native.Nat.{ℕ}
use mathlib.Core.Path.{◌≡◌, refl}
use mathlib.Core.List.{List, [], ◌∷◌, ◌++◌}
use Rattle.std.specs.Prelude.{Option, Some, None}
use mathlib.Core.Bool.{Bool, true, false, cond}
use lib.Dec.{eqb}
use Rattle.lists.specs.Search.{Each}
use Rattle.days.specs.Days.{is_business_day}
use Rattle.days.specs.Window.{in_window}
use Rattle.records.specs.declared.Record.{Record}
use Rattle.records.specs.Records.{kind_create, kind_retire, kind_new_order, kind_day_mark, kind_agreement, delete}
use Rattle.premise.specs.declared.Order.{Order}
use Rattle.premise.specs.declared.File.{File}
use Rattle.premise.specs.Orders.{held}
use Rattle.premise.specs.Passes.{Outcome, Effect, and_then, on_file, notice_of_no_order, code_agreement_request, code_agreement_response}
use Rattle.premise.specs.Steps.{is, named, supplied, ordered, changed, on_order, on_scheduled, on_permit, on_unexecutable, on_read, on_cancel}
use Rattle.premise.specs.Steps.{on_reply, on_date_change, on_named, has_other_holder, agreed}
use Rattle.premise.specs.Clock.{clock, ticked, reviewed, permit_awaited, cancel_awaited}
use Rattle.premise.specs.Evaluation.{same_day_switches, same_day_switch, drops_on_switch_days, drop_on_switch_day, permits_overtaken, permit_overtaken}
use Rattle.premise.specs.Evaluation.{loss_notices, loss_notice, evaluation, evaluated}
use Rattle.premise.specs.Refusals.{first_row, rows}
use Rattle.premise.specs.OnePremise.{Given, effect_on, at_place, marked, stepped, marked_with, step_with, stepped_with}
use Rattle.premise_laws.specs.Laws.{Held, Of, StepNotices, MarkNotices}
use Rattle.lists.proofs.TestLaws.{by_test}
use Rattle.premise.proofs.Answers.{either}
use Rattle.premise_laws.proofs.Says.{each_pass, each_then, each_followed, of_same, Speaks, speaking}

-- ---- each step speaks of the premise
module _ (premise : ℕ) where
  ticked_of : (business : Bool) (today : ℕ) (o : Order) → Speaks premise (ticked business today premise o)
  unfolding ticked reviewed permit_awaited cancel_awaited
  ticked_of business today o = search speaking depth 10

  module _ (near : ℕ → Bool) (today retailer agreement : ℕ) (os : List Order) (i : ℕ) (o : Order) where
    same_day_of : Speaks premise (same_day_switch near premise os i o)
    unfolding same_day_switch
    same_day_of = search speaking

    drop_of_lem : Speaks premise (drop_on_switch_day near premise retailer os o)
    unfolding drop_on_switch_day
    drop_of_lem = search speaking depth 8

    permit_of : Speaks premise (permit_overtaken today premise os o)
    unfolding permit_overtaken
    permit_of = search speaking

    loss_of : Speaks premise (loss_notice near premise retailer agreement o)
    unfolding loss_notice
    loss_of = search speaking depth 8

evaluation_of : (near : ℕ → Bool) (today : ℕ) (f : File) (os : List Order) → Each (Of f.premise) (evaluation near today f os).notices
unfolding evaluation
evaluation_of near today f os =
    let premise = f.premise in
    let retailer = f.retailer in
    let agreement = f.agreement in
    let one : Outcome = same_day_switches near premise os in
    let two : Outcome = and_then one (drops_on_switch_days near f) in
    let three : Outcome = and_then two (permits_overtaken today premise) in
    each_then (Of premise) three (loss_notices near f)
    (each_then (Of premise) two (permits_overtaken today premise)
    (each_then (Of premise) one (drops_on_switch_days near f)
    (each_pass (Of premise) (same_day_switch near premise os) (λ i o. (same_day_of premise near today retailer agreement os i o).all) 0 os)
    (λ os. each_pass (Of premise) (λ (i : ℕ). drop_on_switch_day near premise retailer os)
    (λ i o. (drop_of_lem premise near today retailer agreement os i o).all) 0 os))
    (λ os. each_pass (Of premise) (λ (i : ℕ). permit_overtaken today premise os)
    (λ i o. (permit_of premise near today retailer agreement os i o).all) 0 os))
    (λ os. each_pass (Of premise) (λ (i : ℕ). loss_notice near premise retailer agreement)
    (λ i o. (loss_of premise near today retailer agreement os i o).all) 0 os)

pub mark_notices : MarkNotices
unfolding marked_with
mark_notices calendar today f =
    each_followed (Of f.premise) (on_file f (clock calendar today f.premise (held f))) (evaluated calendar today)
    (each_pass (Of f.premise) (λ (i : ℕ). ticked (is_business_day calendar today) today f.premise)
    (λ i o. (ticked_of f.premise (is_business_day calendar today) today o).all) 0 (held f))
    (evaluation_of (in_window calendar f.window today) today _ _)

-- ---- a record's own steps
order_of : (calendar : List ℕ) (today : ℕ) (f : File) (r : Record) (o : Order) → Speaks f.premise (on_named calendar today f r o)
unfolding on_named on_date_change on_order on_scheduled on_permit on_unexecutable on_read on_cancel on_reply
order_of calendar today f r o = search speaking depth 14

premise_either : (b : Bool) (f g : File) → (cond b f g).premise ≡ cond b f.premise g.premise
premise_either true f g = refl
premise_either false f g = refl

either_same : (b : Bool) (n : ℕ) → cond b n n ≡ n
either_same true n = refl
either_same false n = refl

supplied_premise : (f : File) (r : Record) (o : Order) → (supplied f r o).premise ≡ f.premise
unfolding supplied
supplied_premise f r o = simp (premise_either, either_same)

-- an effect on a file: its notices are the premise's, and so is the file that it leaves
record Stays (premise : ℕ) (e : Effect) : Type 0 where
  file : e.file.premise ≡ premise
  notices : Each (Of premise) e.notices

place_of : (calendar : List ℕ) (today : ℕ) (f : File) (r : Record) (place : Option ℕ) → Stays f.premise (at_place calendar today f r place)
unfolding changed
place_of calendar today f r (Some i) = record { file = supplied_premise f r _; notices = (order_of calendar today f r _).all }
place_of calendar today f r None = record { file = refl; notices = tt }

new_of : (calendar : List ℕ) (today : ℕ) (f : File) (r : Record) → Stays f.premise (ordered calendar today f r)
unfolding ordered
new_of calendar today f r = record { file = refl; notices = (refl, tt) }

evaluated_of : (calendar : List ℕ) (today premise : ℕ) (f : File) → f.premise ≡ premise
    → Each (Of premise) (evaluated calendar today f).notices
evaluated_of calendar today premise f e =
    of_same (evaluated calendar today f).notices e
    (evaluation_of (in_window calendar f.window today) today f (held f))

stepped_of : (calendar : List ℕ) (today : ℕ) (f : File) (r : Record) → Each (Of f.premise) (stepped calendar today f r).notices
unfolding stepped_with
stepped_of calendar today f r =
    let first : Effect = cond (is kind_new_order r) (ordered calendar today f r) (at_place calendar today f r (named r (held f))) in
    let stays : Stays f.premise first =
    by_test (Stays f.premise) (is kind_new_order r) _ _ (λ e. new_of calendar today f r)
    (λ e. place_of calendar today f r (named r (held f))) in
    each_followed (Of f.premise) first (evaluated calendar today) stays.notices
    (evaluated_of calendar today f.premise first.file stays.file)

-- kind 12 tells of its premise, whatever the detail and the holder
agreed_of : (f : File) (r : Record) → Each (Of f.premise) (agreed f r).notices
unfolding agreed
agreed_of f r = by_test (λ (e : Effect). Each (Of f.premise) e.notices) (eqb r.detail delete) _ _ (λ d. (refl, tt))
    (λ d. go (has_other_holder f r))
  where
    go : (other : Bool)
        → Each (Of f.premise) (cond other (notice_of_no_order code_agreement_request f.premise f.agreement ∷ []) []
        ++ (notice_of_no_order code_agreement_response f.premise r.retailer ∷ []))
    go true = (refl, (refl, tt))
    go false = (refl, tt)

effect_of : (calendar : List ℕ) (today : ℕ) (file : Option File) (r : Record) (premise : ℕ) → Held (λ f. f.premise ≡ premise) file
    → Each (Of premise) (effect_on calendar today file r).notices
effect_of calendar today None r premise h =
    by_test (λ (g : Given). Each (Of premise) g.notices) (is kind_create r) _ _ (λ e. tt) (λ e. tt)
effect_of calendar today (Some f) r premise h =
    let P : Given → Type 0 = (λ g. Each (Of premise) g.notices) in
    by_test P (is kind_retire r) _ _ (λ e. tt) (λ e.
    by_test P (is kind_day_mark r) _ _ (λ e. of_same (marked calendar r.day f).notices h (mark_notices calendar r.day f))
    (λ e. by_test (λ (a : Effect). Each (Of premise) a.notices) (is kind_agreement r) _ _
    (λ t. of_same (agreed f r).notices h (agreed_of f r))
    (λ t. of_same (stepped calendar today f r).notices h (stepped_of calendar today f r))))

pub step_notices : StepNotices
unfolding step_with
step_notices calendar s r premise h =
    either (λ g. Each (Of premise) g.notices) (first_row (rows calendar s.today s.file r)) s
    (effect_of calendar s.today s.file r premise h) tt
