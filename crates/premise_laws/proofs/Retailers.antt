-- No step makes a retailer: every Q, R, C and addressee afterwards was one of them before, or the record's own, or 0. Assumes nothing.
use Prim.Native.Nat.{ℕ, zero, suc, ◌≤◌}
use mathlib.Core.Path.{◌≡◌, refl, sym, ap₂, subst, ◌∙◌}
use mathlib.Core.List.{List, [], ◌∷◌, ◌++◌}
use Rattle.std.specs.Prelude.{Option, Some, None}
use mathlib.Core.Bool.{Bool, true, false, cond, not, ◌&&◌}
use native.Mathlib.Omega.{arith}
use lib.Dec.{eqb, leb}
use lib.ListN.{get_or, set}
use borrow.Author.Tests.{eqb-true, le-leb}
use Rattle.lists.specs.Search.{all_of, Each}
use Rattle.lists.proofs.TestLaws.{by_test}
use Rattle.lists.proofs.SearchLaws.{each_append, each_set, each_without}
use Rattle.days.specs.Days.{is_business_day}
use Rattle.days.specs.Window.{in_window}
use Rattle.records.specs.declared.Record.{Record}
use Rattle.records.specs.declared.Notice.{Notice}
use Rattle.records.specs.Layout.{wide, narrow}
use Rattle.records.specs.Records.{kind_create, kind_retire, kind_new_order, kind_read, kind_day_mark, kind_date_change, kind_agreement, delete}
use Rattle.records.specs.Records.{move_out}
use Rattle.records.specs.Widths.{NamesUpTo, ToUpTo}
use Rattle.premise.specs.declared.Order.{Order}
use Rattle.premise.specs.declared.File.{File}
use Rattle.premise.specs.Orders.{scheduled, has_status, has_kind, is_closed, blank, held, with_orders}
use Rattle.premise.specs.Passes.{Change, Outcome, Effect, pass_from, and_then, on_file, notice_of_no_order, code_agreement_request}
use Rattle.premise.specs.Passes.{code_agreement_response}
use Rattle.premise.specs.Steps.{is, new_order, named, make_room, is_held_off, supplied, ordered, changed, on_order, on_scheduled}
use Rattle.premise.specs.Steps.{on_permit, on_unexecutable, on_read, on_cancel, on_reply, on_date_change, on_named, has_other_holder, agreed}
use Rattle.premise.specs.Clock.{clock, ticked, reviewed, permit_awaited, cancel_awaited}
use Rattle.premise.specs.Evaluation.{same_day_switches, same_day_switch, drops_on_switch_days, drop_on_switch_day, permits_overtaken, permit_overtaken}
use Rattle.premise.specs.Evaluation.{loss_notices, loss_notice, evaluation, evaluated_with}
use Rattle.premise.specs.Refusals.{first_row, rows_with}
use Rattle.premise.specs.OnePremise.{followed, at_place, effect_on_with, marked_with, stepped_with, record_done_with, step_with}
use Rattle.premise.specs.WellKept.{order_kept_by, file_kept_by}
use Rattle.premise.proofs.Answers.{either}
use Rattle.premise.proofs.KeptFiles.{held_with}
use Rattle.premise_laws.specs.Laws.{Held}
use Rattle.premise_laws.specs.Retailers.{OfUpTo, RetailersUpTo, LeavesUpTo, GivesUpTo, StepMakesNoRetailer, MarkMakesNoRetailer}
use Rattle.premise_laws.specs.Retailers.{KeptByEither}
use Rattle.premise_laws.proofs.KeptNew.{room_by}

-- ---- lists of notices and changes, as records, so that a search can go by their shapes
record Tells (last : ℕ) (ns : List Notice) : Type 0 where
  pub all : Each (ToUpTo last) ns

record Changes (last : ℕ) (c : Change) : Type 0 where
  pub order : OfUpTo last c.order
  pub all : Each (ToUpTo last) c.notices

-- a retailer up to a number, or 0
record Within (last n : ℕ) : Type 0 where
  pub fact : n ≤ last

-- an order of such a retailer
record Own (last : ℕ) (o : Order) : Type 0 where
  pub fact : OfUpTo last o

module _ {last : ℕ} where
  nobody : Within last 0
  nobody = record { fact = omega arith }

  within_either : (b : Bool) {n m : ℕ} → Within last n → Within last m → Within last (cond b n m)
  within_either true h k = h
  within_either false h k = k

  own_order : {o : Order} → Within last o.submitter → Own last o
  own_order h = record { fact = h.fact }

  own_either : (b : Bool) {o p : Order} → Own last o → Own last p → Own last (cond b o p)
  own_either true h k = h
  own_either false h k = k

  tells_none : Tells last []
  tells_none = record { all = tt }

  tells_more : {n : Notice} {ns : List Notice} → Within last n.addressee → Tells last ns → Tells last (n ∷ ns)
  tells_more h k = record { all = (h.fact, k.all) }

  tells_either : (b : Bool) {xs ys : List Notice} → Tells last xs → Tells last ys → Tells last (cond b xs ys)
  tells_either true h k = h
  tells_either false h k = k

  changes_order_lem : {o : Order} {ns : List Notice} → Own last o → Tells last ns → Changes last (record { order = o; notices = ns })
  changes_order_lem h k = record { order = h.fact; all = k.all }

  changes_either : (b : Bool) {x y : Change} → Changes last x → Changes last y → Changes last (cond b x y)
  changes_either true h k = h
  changes_either false h k = k

ruleset naming = (nobody, within_either, own_order, own_either, tells_none, tells_more, tells_either, changes_order_lem, changes_either)

-- ---- each step on one order
module _ (last : ℕ) (o : Order) (own : Within last o.submitter) where
  ticked_names : (business : Bool) (today premise : ℕ) → Changes last (ticked business today premise o)
  unfolding ticked reviewed permit_awaited cancel_awaited
  ticked_names business today premise = search naming depth 10

  module _ (near : ℕ → Bool) (premise : ℕ) (os : List Order) where
    same_day_names : (i : ℕ) → Changes last (same_day_switch near premise os i o)
    unfolding same_day_switch
    same_day_names i = search naming

    drop_names : (retailer : ℕ) → Within last retailer → Changes last (drop_on_switch_day near premise retailer os o)
    unfolding drop_on_switch_day
    drop_names retailer supplies = search naming depth 8

    permit_names : (today : ℕ) → Changes last (permit_overtaken today premise os o)
    unfolding permit_overtaken
    permit_names today = search naming

    loss_names : (retailer agreement : ℕ) → Within last retailer → Within last agreement
        → Changes last (loss_notice near premise retailer agreement o)
    unfolding loss_notice
    loss_names retailer agreement supplies agrees = search naming depth 8

  order_names : (calendar : List ℕ) (today : ℕ) (f : File) (r : Record) → Within last f.retailer → Within last f.agreement
      → Changes last (on_named calendar today f r o)
  unfolding on_named on_date_change on_order on_scheduled on_permit on_unexecutable on_read on_cancel on_reply
  order_names calendar today f r supplies agrees = search naming depth 14

-- ---- passes over a file's orders
record PassesUpTo (last : ℕ) (done : Outcome) : Type 0 where
  pub orders : Each (OfUpTo last) done.orders
  pub notices : Each (ToUpTo last) done.notices

module _ (last : ℕ) where
  pass_names : (g : ℕ → Order → Change) → ((i : ℕ) (o : Order) → Within last o.submitter → Changes last (g i o))
      → (i : ℕ) (os : List Order) → Each (OfUpTo last) os → PassesUpTo last (pass_from g i os)
  pass_names g h i [] k = record { orders = tt; notices = tt }
  pass_names g h i (o ∷ os) k =
      let here = h i o (record { fact = k.0 }) in
      let rest = pass_names g h (suc i) os k.1 in
      record {
        orders = (here.order, rest.orders);
        notices = each_append (ToUpTo last) (g i o).notices (pass_from g (suc i) os).notices here.all rest.notices;
      }

  then_names : (first : Outcome) (next : List Order → Outcome) → PassesUpTo last first
      → ((os : List Order) → Each (OfUpTo last) os → PassesUpTo last (next os)) → PassesUpTo last (and_then first next)
  then_names first next h k =
      let second = k first.orders h.orders in
      record {
        orders = second.orders;
        notices = each_append (ToUpTo last) first.notices (next first.orders).notices h.notices second.notices;
      }

  -- a file whose orders something is done to
  with_orders_lem : (f : File) (os : List Order) → RetailersUpTo last f → Each (OfUpTo last) os → RetailersUpTo last (with_orders f os)
  with_orders_lem f os h k =
      record {
        retailer = h.retailer;
        agreement = h.agreement;
        submitters = subst (Each (OfUpTo last)) (sym (held_with f os)) k;
      }

  on_file_lem : (f : File) (done : Outcome) → RetailersUpTo last f → PassesUpTo last done → LeavesUpTo last (on_file f done)
  on_file_lem f done h k = record { file = with_orders_lem f done.orders h k.orders; notices = k.notices }

  followed_names : (first : Effect) (next : File → Effect) → LeavesUpTo last first
      → ((f : File) → RetailersUpTo last f → LeavesUpTo last (next f)) → LeavesUpTo last (followed first next)
  followed_names first next h k =
      let second = k first.file h.file in
      record {
        file = second.file;
        notices = each_append (ToUpTo last) first.notices (next first.file).notices h.notices second.notices;
      }

  evaluation_names : (near : ℕ → Bool) (today : ℕ) (f : File) → RetailersUpTo last f → (os : List Order) → Each (OfUpTo last) os
      → PassesUpTo last (evaluation near today f os)
  unfolding evaluation
  evaluation_names near today f h os k =
      let premise = f.premise in
      let supplies : Within last f.retailer = record { fact = h.retailer } in
      let agrees : Within last f.agreement = record { fact = h.agreement } in
      let one : Outcome = same_day_switches near premise os in
      let two : Outcome = and_then one (drops_on_switch_days near f) in
      let three : Outcome = and_then two (permits_overtaken today premise) in
      then_names three (loss_notices near f)
      (then_names two (permits_overtaken today premise)
      (then_names one (drops_on_switch_days near f)
      (pass_names (same_day_switch near premise os) (λ i o own. same_day_names last o own near premise os i) 0 os k)
      (λ os. pass_names (λ (i : ℕ). drop_on_switch_day near premise f.retailer os)
      (λ i o own. drop_names last o own near premise os f.retailer supplies) 0 os))
      (λ os. pass_names (λ (i : ℕ). permit_overtaken today premise os) (λ i o own. permit_names last o own near premise os today) 0 os))
      (λ os. pass_names (λ (i : ℕ). loss_notice near premise f.retailer f.agreement)
      (λ i o own. loss_names last o own near premise os f.retailer f.agreement supplies agrees) 0 os)

  evaluated_names : (width : File → ℕ) (calendar : List ℕ) (today : ℕ) (f : File) → RetailersUpTo last f
      → LeavesUpTo last (evaluated_with width calendar today f)
  evaluated_names width calendar today f h =
      on_file_lem f (evaluation (in_window calendar (width f) today) today f (held f)) h
      (evaluation_names (in_window calendar (width f) today) today f h (held f) h.submitters)

pub mark_makes_no_retailer : MarkMakesNoRetailer
unfolding marked_with
mark_makes_no_retailer last width calendar today f h =
    followed_names last (on_file f (clock calendar today f.premise (held f))) (evaluated_with width calendar today)
    (on_file_lem last f (clock calendar today f.premise (held f)) h
    (pass_names last (λ (i : ℕ). ticked (is_business_day calendar today) today f.premise)
    (λ i o own. ticked_names last o own (is_business_day calendar today) today f.premise) 0 (held f) h.submitters))
    (evaluated_names last width calendar today)

-- ---- a record's own steps
-- the kind of a record is no date change's, where it is another's
other_kind : (kind : ℕ) (r : Record) → (kind ≡ kind_date_change → ⊥) → is kind r ≡ true → r.kind ≡ kind_date_change → ⊥
other_kind kind r other e d = other (sym (eqb-true r.kind kind e) ∙ d)

-- the order at a place, or a blank one
at_place_lem : (last : ℕ) (os : List Order) (i : ℕ) → Each (OfUpTo last) os → OfUpTo last (get_or os i blank)
at_place_lem last [] i h = omega arith
at_place_lem last (o ∷ os) zero h = h.0
at_place_lem last (o ∷ os) (suc i) h = at_place_lem last os i h.1

module _ (last : ℕ) (calendar : List ℕ) (today : ℕ) (f : File) (r : Record) (names : NamesUpTo last r) (h : RetailersUpTo last f) where
  supplied_names : (o : Order) → OfUpTo last o → RetailersUpTo last (supplied f r o)
  unfolding supplied
  supplied_names o own =
      by_test (RetailersUpTo last) (is kind_read r && has_status scheduled o && leb f.since r.day && not (is_held_off f r o)) _ f
      (λ e. record {
        retailer = by_test (λ (q : ℕ). q ≤ last) (has_kind move_out o) f.agreement o.submitter (λ m. h.agreement) (λ m. own);
        agreement = h.agreement;
        submitters = h.submitters;
      })
      (λ e. h)

  place_names : (place : Option ℕ) → LeavesUpTo last (at_place calendar today f r place)
  unfolding changed
  place_names (Some i) =
      let o = get_or (held f) i blank in
      let own = at_place_lem last (held f) i h.submitters in
      let done = order_names last o (record { fact = own }) calendar today f r (record { fact = h.retailer })
      (record { fact = h.agreement }) in
      record {
        file = with_orders_lem last (supplied f r o) (set (held f) i (on_named calendar today f r o).order) (supplied_names o own)
            (each_set (OfUpTo last) (held f) i (on_named calendar today f r o).order h.submitters done.order);
        notices = done.all;
      }
  place_names None = record { file = h; notices = tt }

  new_names : is kind_new_order r ≡ true → LeavesUpTo last (ordered calendar today f r)
  unfolding ordered
  new_names e =
      record {
        file = with_orders_lem last f (make_room (held f) ++ (new_order calendar today r ∷ [])) h
            (each_append (OfUpTo last) (make_room (held f)) (new_order calendar today r ∷ [])
            (room_by (Each (OfUpTo last)) (held f) h.submitters (each_without (OfUpTo last) is_closed (held f) h.submitters))
            (names (other_kind kind_new_order r (λ d. omega (arith, d)) e), tt));
        notices = (omega arith, tt);
      }

  stepped_names : (width : File → ℕ) → LeavesUpTo last (stepped_with width calendar today f r)
  unfolding stepped_with
  stepped_names width =
      followed_names last _ (evaluated_with width calendar today)
      (by_test (LeavesUpTo last) (is kind_new_order r) (ordered calendar today f r) (at_place calendar today f r (named r (held f))) new_names
      (λ e. place_names (named r (held f))))
      (evaluated_names last width calendar today)

  agreed_names : is kind_agreement r ≡ true → LeavesUpTo last (agreed f r)
  unfolding agreed
  agreed_names e =
      by_test (LeavesUpTo last) (eqb r.detail delete) _ _
      (λ d. record {
        file = record { retailer = h.retailer; agreement = omega arith; submitters = h.submitters };
        notices = (named_retailer, tt);
      })
      (λ d. record {
        file = record { retailer = h.retailer; agreement = named_retailer; submitters = h.submitters };
        notices = go (has_other_holder f r);
      })
    where
      named_retailer : r.retailer ≤ last
      named_retailer = names (other_kind kind_agreement r (λ d. omega (arith, d)) e)

      go : (other : Bool)
          → Each (ToUpTo last) (cond other (notice_of_no_order code_agreement_request f.premise f.agreement ∷ []) []
          ++ (notice_of_no_order code_agreement_response f.premise r.retailer ∷ []))
      go true = (h.agreement, (named_retailer, tt))
      go false = (named_retailer, tt)

  done_names : (width : File → ℕ) → LeavesUpTo last (record_done_with width calendar today f r)
  done_names width = by_test (LeavesUpTo last) (is kind_agreement r) _ _ agreed_names (λ e. stepped_names width)

effect_names : (last : ℕ) (width : File → ℕ) (calendar : List ℕ) (today : ℕ) (file : Option File) (r : Record) → NamesUpTo last r
    → Held (RetailersUpTo last) file → GivesUpTo last (effect_on_with width calendar today file r)
effect_names last width calendar today None r n h =
    by_test (GivesUpTo last) (is kind_create r) _ _
    (λ e. record {
      file = record { retailer = n (other_kind kind_create r (λ d. omega (arith, d)) e); agreement = omega arith; submitters = tt };
      notices = tt;
    })
    (λ e. record { file = tt; notices = tt })
effect_names last width calendar today (Some f) r n h =
    by_test (GivesUpTo last) (is kind_retire r) _ _ (λ e. record { file = tt; notices = tt })
    (λ e. by_test (GivesUpTo last) (is kind_day_mark r) _ _
    (λ d. let left = mark_makes_no_retailer last width calendar r.day f h in record { file = left.file; notices = left.notices })
    (λ d. let left = done_names last calendar today f r n h width in record { file = left.file; notices = left.notices }))

pub step_makes_no_retailer : StepMakesNoRetailer
unfolding step_with
step_makes_no_retailer last width calendar s r n h =
    either (GivesUpTo last) (first_row (rows_with width calendar s.today s.file r)) s
    (effect_names last width calendar s.today s.file r n h) (record { file = h; notices = tt })

-- ---- well kept by either layout
same_limit : (n : ℕ) → n ≤ narrow.last_retailer → leb n narrow.last_retailer ≡ leb n wide.last_retailer
same_limit n h = le-leb n narrow.last_retailer h ∙ sym (le-leb n wide.last_retailer (omega (arith, h)))

order_by_either : (o : Order) → OfUpTo narrow.last_retailer o → order_kept_by narrow o ≡ order_kept_by wide o
unfolding order_kept_by
order_by_either o h = rw (same_limit o.submitter h) refl

orders_by_either : (os : List Order) → Each (OfUpTo narrow.last_retailer) os → all_of (order_kept_by narrow) os ≡ all_of (order_kept_by wide) os
orders_by_either [] h = refl
orders_by_either (o ∷ os) h = ap₂ (λ (a b : Bool). a && b) (order_by_either o h.0) (orders_by_either os h.1)

pub kept_by_either : KeptByEither
unfolding file_kept_by
kept_by_either f h =
    rw (same_limit f.retailer h.retailer, same_limit f.agreement h.agreement, orders_by_either (held f) h.submitters) refl
