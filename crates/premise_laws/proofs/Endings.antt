-- What an accepted record makes of the order with a reference, kind by kind. Assumes nothing.
use Prim.Native.Nat.{ℕ}
use mathlib.Core.Path.{◌≡◌, refl, sym, ap, subst, ◌∙◌}
use mathlib.Core.Logic.{◌⊎◌, inl, inr}
use mathlib.Core.List.{List, [], ◌∷◌, ◌++◌}
use Rattle.std.specs.Prelude.{Option, Some, None}
use mathlib.Core.Bool.{Bool, true, false, cond, not, false≢true}
use lib.Dec.{eqb}
use lib.ListN.{length, get_or, set}
use borrow.Author.Tests.{eqb-true, eq-eqb, ne_eqb}
use Rattle.lists.specs.Search.{any_of, without_first}
use Rattle.lists.proofs.TestLaws.{by_test, and_other}
use Rattle.lists.proofs.SearchLaws.{each_at, place_in, any_without}
use Rattle.days.specs.Days.{is_business_day}
use Rattle.records.specs.declared.Record.{Record}
use Rattle.records.specs.Records.{kind_create, kind_retire, kind_new_order, kind_day_mark, kind_agreement, delete, well_formed}
use Rattle.premise.specs.declared.Order.{Order}
use Rattle.premise.specs.declared.File.{File}
use Rattle.premise.specs.Orders.{most_orders, is_open, is_closed, blank, held}
use Rattle.premise.specs.Passes.{Effect}
use Rattle.premise.specs.Clock.{ticked}
use Rattle.premise.specs.Evaluation.{evaluated}
use Rattle.premise.specs.Steps.{is, new_order, make_room, ordered, named, order_at, taken, on_named, supplied, changed, agreed}
use Rattle.premise.specs.Refusals.{number, rows, first_row, orders_of}
use Rattle.premise.specs.OnePremise.{Given, marked, at_place, stepped, effect_on, stepped_with, step_with}
use Rattle.premise.proofs.Answers.{answer_is_first_row}
use Rattle.premise.proofs.KeptFiles.{held_with}
use Rattle.premise.proofs.Taken.{taken_open}
use Rattle.premise_laws.specs.Laws.{Held, KeptFor}
use Rattle.premise_laws.specs.Endings.{oldest_closed, order_in, is_there, Waits, Becomes, StepOnOrder}
use Rattle.premise_laws.proofs.KeptOrders.{OrderKept, orders_facts}
use Rattle.premise_laws.proofs.KeptPasses.{evaluated_leaves, mark_leaves}
use Rattle.premise_laws.proofs.KeptReferences.{has_reference}
use Rattle.premise_laws.proofs.KeptRecords.{NoRow, no_row}
use Rattle.premise_laws.proofs.KeptNew.{room_by, reference_free, ordered_keeps}
use Rattle.premise_laws.proofs.KeptNamed.{named_order_leaves, named_leaves}
use Rattle.premise_laws.proofs.KeptSteps.{named_taken}
use Rattle.premise_laws.proofs.OrdersFound.{not_there, found_passes, found_fails, there_any, none_passes, found_at, there_same}
use Rattle.premise_laws.proofs.OrdersFound.{found_without, found-append, found_behind, found-set}
use Rattle.premise_laws.proofs.OrdersRest.{closed_rests, waits_rests, ticked_rests, closed_unticked, window, no_day_far}
use Rattle.premise_laws.proofs.OrdersRest.{evaluated_found, marked_found}

-- ---- an order that stays there, by what is known of it
-- what one that waits becomes
abbrev waits_on : List ℕ → ℕ → Record → Order → Order
waits_on calendar premise r o = cond (is kind_day_mark r) (ticked (is_business_day calendar r.day) r.day premise o).order o

-- the record does not name the order with a reference
abbrev Unnamed : Record → ℕ → Type 0
Unnamed r reference = is kind_day_mark r ≡ false → r.reference ≡ reference → ⊥

record Follows (calendar : List ℕ) (premise : ℕ) (r : Record) (reference : ℕ) (before after : Option Order) : Type 0 where
  there : is_there after ≡ is_there before
  closed : (o : Order) → before ≡ Some o → is_closed o ≡ true → after ≡ Some o
  waits : (o : Order) → before ≡ Some o → Waits o → Unnamed r reference → after ≡ Some (waits_on calendar premise r o)

inside : (x y : Order) → ◌≡◌ {A = Option Order} (Some x) (Some y) → x ≡ y
inside x y e = cc

follows : (calendar : List ℕ) (today premise : ℕ) (r : Record) (reference : ℕ) (os : List Order) (before after : Option Order)
    → Follows calendar premise r reference before after → Becomes calendar today premise r reference os before after
follows calendar today premise r reference os None None h = tt
follows calendar today premise r reference os None (Some x) h = absurd (false≢true (sym h.there))
follows calendar today premise r reference os (Some o) None h = absurd (false≢true h.there)
follows calendar today premise r reference os (Some o) (Some x) h =
    record {
      closed = λ c. inside x o (h.closed o refl c);
      waits = λ q u. inside x (waits_on calendar premise r o) (h.waits o refl q u);
    }

module _ (calendar : List ℕ) (today : ℕ) (r : Record) (premise reference : ℕ) (w : well_formed r ≡ true) where
  -- what becomes of it, where the orders were those of a file
  abbrev Into : File → Option Order → Type 0
  Into f after = Becomes calendar today premise r reference (held f) (order_in reference (held f)) after

  -- a record that is no day mark leaves one that waits
  no_mark : is kind_day_mark r ≡ false → (o : Order) → Some o ≡ Some (waits_on calendar premise r o)
  no_mark d o = ap (λ (b : Bool). Some (cond b (ticked (is_business_day calendar r.day) r.day premise o).order o)) (sym d)

  -- ---- a file, accepted
  module _ (f : File) (n : NoRow calendar today (Some f) r) (k : KeptFor premise f) where
    -- kind 2: no order was open
    retired : is kind_retire r ≡ true → Into f None
    retired t = go (order_in reference (held f)) refl
      where
        go : (before : Option Order) → order_in reference (held f) ≡ before
            → Becomes calendar today premise r reference (held f) before None
        go None e = tt
        go (Some o) e =
            let no-open = and_other (is kind_retire r) (any_of is_open (held f)) n.order_open t in
            record { closed = ap not (found_fails (has_reference reference) is_open (held f) o e no-open); how = inl t }

    -- kind 10
    marked_into : is kind_day_mark r ≡ true → Into f (order_in reference (held (marked calendar r.day f).file))
    marked_into d =
        let business : Bool = is_business_day calendar r.day in
        let after = order_in reference (held (marked calendar r.day f).file) in
        follows calendar today premise r reference (held f) (order_in reference (held f)) after (record {
          there = there_same reference (held f) (held (marked calendar r.day f).file)
              (mark_leaves calendar r.day f premise k).references;
          closed = λ o e c.
              let still = closed_unticked business r.day premise o c in
              marked_found calendar r.day premise reference f o k (λ near m. rw still (closed_rests near o c)) e ∙ ap Some still;
          waits = λ o e q u.
              marked_found calendar r.day premise reference f o k (λ near m. ticked_rests near m business r.day premise o q) e
              ∙ ap (λ (b : Bool). Some (cond b (ticked business r.day premise o).order o)) (sym d);
        })

    -- kind 12
    agreed_into : is kind_day_mark r ≡ false → Into f (order_in reference (held (agreed f r).file))
    unfolding agreed
    agreed_into d =
        let left : Into f (order_in reference (held f)) =
        follows calendar today premise r reference (held f) (order_in reference (held f)) (order_in reference (held f))
        (record { there = refl; closed = λ o e c. e; waits = λ o e q u. e ∙ no_mark d o }) in
        by_test (λ (a : Effect). Into f (order_in reference (held a.file))) (eqb r.detail delete) _ _ (λ t. left) (λ t. left)

    -- a file that is left, with the order as it was if it is closed or not named, and then the evaluation
    evaluated_into : is kind_day_mark r ≡ false → (g : File) → KeptFor premise g
        → is_there (order_in reference (held g)) ≡ is_there (order_in reference (held f))
        → ((o : Order) → order_in reference (held f) ≡ Some o → (is_closed o ≡ true) ⊎ (r.reference ≡ reference → ⊥)
        → order_in reference (held g) ≡ Some o)
        → Into f (order_in reference (held (evaluated calendar today g).file))
    evaluated_into d g kept there found =
        let after = (evaluated calendar today g).file in
        follows calendar today premise r reference (held f) (order_in reference (held f)) (order_in reference (held after)) (record {
          there = there_same reference (held g) (held after) (evaluated_leaves calendar today g premise kept).references ∙ there;
          closed = λ o e c. evaluated_found calendar today premise reference g o kept (closed_rests (window calendar today g) o c)
              (found o e (inl c));
          waits = λ o e q u.
              evaluated_found calendar today premise reference g o kept
              (waits_rests (window calendar today g) (no_day_far calendar today g) o q) (found o e (inr (u d)))
              ∙ no_mark d o;
        })

    -- ---- kinds 4 to 9 and 11
    -- another order than the one at the place found, with its own reference, is where it was
    named_found : taken r (order_at (held f) (named r (held f))) ≡ true → (o : Order) → order_in reference (held f) ≡ Some o
        → (is_closed o ≡ true) ⊎ (r.reference ≡ reference → ⊥)
        → order_in reference (held (at_place calendar today f r (named r (held f))).file) ≡ Some o
    unfolding changed
    named_found t o e other = go (named r (held f)) refl t
      where
        go : (found : Option ℕ) → named r (held f) ≡ found → taken r (order_at (held f) found) ≡ true
            → order_in reference (held (at_place calendar today f r found).file) ≡ Some o
        go None q t = e
        go (Some i) q t =
            let old : Order = get_or (held f) i blank in
            let new : Order = (on_named calendar today f r old).order in
            let at : order_in r.reference (held f) ≡ Some old = found_at (has_reference r.reference) (held f) i blank q in
            let own = eqb-true old.reference r.reference (found_passes (has_reference r.reference) (held f) old at) in
            let kept = each_at OrderKept (held f) i blank (place_in (has_reference r.reference) (held f) i q)
            (orders_facts (held f) k.kept.orders) in
            let left = named_order_leaves calendar today f r old w t kept in
            ap (order_in reference) (held_with (supplied f r old) (set (held f) i new))
            ∙ found-set reference (held f) i new blank left.reference (λ s. unnamed old t at other (sym own ∙ s)) ∙ e
          where
            unnamed : (old : Order) → taken r old ≡ true → order_in r.reference (held f) ≡ Some old
                → (is_closed o ≡ true) ⊎ (r.reference ≡ reference → ⊥) → r.reference ≡ reference → ⊥
            unnamed old t at (inl c) s =
                let same = inside old o (sym at ∙ ap (λ (m : ℕ). order_in m (held f)) s ∙ e) in
                false≢true (ap not (sym (taken_open r old t) ∙ ap is_open same) ∙ c)
            unnamed old t at (inr u) s = u s

    named_into : is kind_retire r ≡ false → is kind_day_mark r ≡ false → is kind_agreement r ≡ false → is kind_new_order r ≡ false
        → Into f (order_in reference (held (evaluated calendar today (at_place calendar today f r (named r (held f))).file).file))
    named_into t d a e =
        let fits = named_taken calendar today r premise 0 w f n k t d a e in
        let left = named_leaves calendar today f r w fits premise k in
        let g = (at_place calendar today f r (named r (held f))).file in
        evaluated_into d g left.kept (there_same reference (held f) (held g) left.references) (named_found fits)

    -- ---- kind 3
    -- after room is made it is there, or it was the one that made room
    room_found : (o : Order) → order_in reference (held f) ≡ Some o
        → (order_in reference (make_room (held f)) ≡ Some o)
        ⊎ ((length (held f) ≡ most_orders) × ((oldest_closed (held f) ≡ Some o) × (order_in reference (make_room (held f)) ≡ None)))
    unfolding make_room
    room_found o e =
        by_test (λ (os : List Order). (order_in reference os ≡ Some o)
        ⊎ ((length (held f) ≡ most_orders) × ((oldest_closed (held f) ≡ Some o) × (order_in reference os ≡ None))))
        (eqb (length (held f)) most_orders) (without_first is_closed (held f)) (held f)
        (λ q. full (eqb-true (length (held f)) most_orders q) (found_without reference is_closed (held f) o k.kept.references e))
        (λ q. inl e)
      where
        full : length (held f) ≡ most_orders
            → (order_in reference (without_first is_closed (held f)) ≡ Some o)
            ⊎ ((oldest_closed (held f) ≡ Some o) × (order_in reference (without_first is_closed (held f)) ≡ None))
            → (order_in reference (without_first is_closed (held f)) ≡ Some o)
            ⊎ ((length (held f) ≡ most_orders)
            × ((oldest_closed (held f) ≡ Some o) × (order_in reference (without_first is_closed (held f)) ≡ None)))
        full m (inl x) = inl x
        full m (inr x) = inr (m, x)

    ordered_held : held (ordered calendar today f r).file ≡ make_room (held f) ++ (new_order calendar today r ∷ [])
    unfolding ordered
    ordered_held = held_with f (make_room (held f) ++ (new_order calendar today r ∷ []))

    -- a new order's reference is held by none
    other_reference : is kind_new_order r ≡ true → (o : Order) → order_in reference (held f) ≡ Some o → r.reference ≡ reference → ⊥
    other_reference e o q s =
        false≢true
        (sym (reference_free calendar today f r w n e) ∙ ap (λ (m : ℕ). any_of (has_reference m) (held f)) s
        ∙ sym (there_any (has_reference reference) (held f)) ∙ ap is_there q)

    new_into : is kind_new_order r ≡ true → is kind_day_mark r ≡ false
        → Into f (order_in reference (held (evaluated calendar today (ordered calendar today f r).file).file))
    new_into e d = go (order_in reference (held f)) refl
      where
        new : Order
        new = new_order calendar today r

        g : File
        g = (ordered calendar today f r).file

        kept : KeptFor premise g
        kept = ordered_keeps calendar today f r w n e premise k

        after : Option Order
        after = order_in reference (held (evaluated calendar today g).file)

        -- what is not there before the evaluation is not there after it
        away : order_in reference (held g) ≡ None → after ≡ None
        away q = not_there after
            (there_same reference (held g) (held (evaluated calendar today g).file)
            (evaluated_leaves calendar today g premise kept).references
            ∙ ap is_there q)

        behind : (own : Bool) → eqb r.reference reference ≡ own → order_in reference (make_room (held f)) ≡ None
            → order_in reference (held g) ≡ cond own (Some new) None
        behind own s q =
            ap (order_in reference) ordered_held ∙ found_behind reference (make_room (held f)) (new ∷ []) q
            ∙ ap (λ (b : Bool). cond b (Some new) None) s

        brought : (own : Bool) → eqb r.reference reference ≡ own → order_in reference (make_room (held f)) ≡ None
            → Becomes calendar today premise r reference (held f) None after
        brought true s q =
            subst (Becomes calendar today premise r reference (held f) None)
            (sym
            (evaluated_found calendar today premise reference g new kept
            (waits_rests (window calendar today g) (no_day_far calendar today g) new (record { unscheduled = refl; status = refl }))
            (behind true s q)))
            (record { kind = e; names = eqb-true r.reference reference s; new = refl })
        brought false s q = subst (Becomes calendar today premise r reference (held f) None) (sym (away (behind false s q))) tt

        left : (o : Order) → order_in reference (held f) ≡ Some o
            → (order_in reference (make_room (held f)) ≡ Some o)
            ⊎ ((length (held f) ≡ most_orders) × ((oldest_closed (held f) ≡ Some o) × (order_in reference (make_room (held f)) ≡ None)))
            → Becomes calendar today premise r reference (held f) (Some o) after
        left o q (inl x) =
            let here = ap (order_in reference) ordered_held ∙ found-append reference (make_room (held f)) (new ∷ []) o x in
            subst (λ (before : Option Order). Becomes calendar today premise r reference (held f) before after) q
            (evaluated_into d g kept (ap is_there (here ∙ sym q)) (λ p u v. here ∙ sym q ∙ u))
        left o q (inr x) =
            let s = ne_eqb r.reference reference (other_reference e o q) in
            subst (Becomes calendar today premise r reference (held f) (Some o)) (sym (away (behind false s x.1.1)))
            (record {
              closed = found_passes is_closed (held f) o x.1.0;
              how = inr (record { kind = e; full = x.0; oldest = x.1.0 });
            })

        go : (before : Option Order) → order_in reference (held f) ≡ before
            → Becomes calendar today premise r reference (held f) before after
        go None q =
            let nowhere = sym (there_any (has_reference reference) (held f)) ∙ ap is_there q in
            brought (eqb r.reference reference) refl
            (room_by (λ os. order_in reference os ≡ None) (held f) q
            (none_passes (has_reference reference) (without_first is_closed (held f))
            (any_without (has_reference reference) is_closed (held f) nowhere)))
        go (Some o) q = left o q (room_found o q)

    stepped_into : is kind_retire r ≡ false → is kind_day_mark r ≡ false → is kind_agreement r ≡ false
        → Into f (order_in reference (held (stepped calendar today f r).file))
    unfolding stepped_with
    stepped_into t d a =
        by_test (λ (x : Effect). Into f (order_in reference (held (evaluated calendar today x.file).file))) (is kind_new_order r)
        (ordered calendar today f r) (at_place calendar today f r (named r (held f)))
        (λ e. new_into e d) (λ e. named_into t d a e)

  effect_into : (file : Option File) → NoRow calendar today file r → Held (KeptFor premise) file
      → Becomes calendar today premise r reference (orders_of file) (order_in reference (orders_of file))
      (order_in reference (orders_of (effect_on calendar today file r).state.file))
  effect_into None n k =
      by_test (λ (x : Given). Becomes calendar today premise r reference [] None (order_in reference (orders_of x.state.file)))
      (is kind_create r) _ _ (λ e. tt) (λ e. tt)
  effect_into (Some f) n k =
      by_test (λ (x : Given). Into f (order_in reference (orders_of x.state.file))) (is kind_retire r) _ _ (retired f n k)
      (λ t. by_test (λ (x : Given). Into f (order_in reference (orders_of x.state.file))) (is kind_day_mark r) _ _ (marked_into f n k)
      (λ d. by_test (λ (a : Effect). Into f (order_in reference (held a.file))) (is kind_agreement r) _ _ (λ a. agreed_into f n k d)
      (stepped_into f n k t d)))

pub step_on_order : StepOnOrder
unfolding step_with
step_on_order calendar s r premise reference w k z =
    let first = first_row (rows calendar s.today s.file r) in
    let zero : eqb (number first) 0 ≡ true = eq-eqb (number first) 0 (sym (ap number (answer_is_first_row calendar s r)) ∙ z) in
    by_test (λ (x : Given). Becomes calendar s.today premise r reference (orders_of s.file) (order_in reference (orders_of s.file))
    (order_in reference (orders_of x.state.file))) (eqb (number first) 0) _ _
    (λ t. effect_into calendar s.today r premise reference w s.file (no_row calendar s.today s.file r t) k)
    (λ t. absurd (false≢true (sym t ∙ zero)))
