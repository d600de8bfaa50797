-- Which case of the definition of ousting holds, by the tests that led there. Assumes nothing.
use Prim.Native.Nat.{ℕ}
use mathlib.Core.Path.{◌≡◌, refl, ap, ◌∙◌}
use mathlib.Core.Bool.{Bool, true, false, cond, ◌&&◌, ◌||◌, false≢true, and-false}
use lib.Dec.{ltb}
use borrow.Author.Tests.{eqb-true, eq-eqb, ne_eqb}
use Rattle.lists.proofs.TestLaws.{and_left, and_right}
use Rattle.days.specs.Window.{up_to}
use Rattle.records.specs.Records.{move_in, mass_transition_drop}
use Rattle.premise.specs.declared.Order.{Order}
use Rattle.premise.specs.Orders.{permit_pending, scheduled, cancel_pending, has_status, has_kind, is_switch}
use Rattle.premise.specs.Evaluation.{is_scheduled_or_cancel_pending, contends, switch_on, overtakes}
use Rattle.premise_evaluation.specs.Ousting.{is_near_drop, awaits_permit, is_preferred, ousts}

-- ---- one kind is not another
module _ (near : ℕ → Bool) (o : Order) where
  move_in_contends : o.kind ≡ move_in → contends near o ≡ false
  unfolding contends
  move_in_contends k = rw k

  move_in_drop : o.kind ≡ move_in → is_near_drop near o ≡ false
  move_in_drop k = rw k

  contender_drop : contends near o ≡ true → is_near_drop near o ≡ false
  unfolding contends
  contender_drop e =
      let s = and_left (is_switch o) (is_scheduled_or_cancel_pending o) (and_left (is_switch o && is_scheduled_or_cancel_pending o)
      (near o.scheduled) e) in
      rw (ne_eqb o.kind mass_transition_drop (λ k. false≢true (rw k at s)))

  contender_near : contends near o ≡ true → near o.scheduled ≡ true
  unfolding contends
  contender_near e = and_right (is_switch o && is_scheduled_or_cancel_pending o) (near o.scheduled) e

-- ---- whether an order ousts another
module _ (today last i : ℕ) (o : Order) (j : ℕ) (other : Order) where
  pub ousts_permit : awaits_permit o ≡ true → overtakes today o.requested other ≡ ousts today last i o j other
  unfolding ousts
  ousts_permit e =
      let k = eqb-true o.kind move_in (and_left (has_kind move_in o) (has_status permit_pending o) e) in
      rw (move_in_contends (up_to last) o k, move_in_drop (up_to last) o k, e)

  module _ (p : awaits_permit o ≡ false) where
    pub ousts_other_day : (other.scheduled ≡ o.scheduled → ⊥) → false ≡ ousts today last i o j other
    unfolding ousts
    ousts_other_day d =
        rw (
          p,
          ne_eqb other.scheduled o.scheduled d,
          and-false (contends (up_to last) other),
          and-false (is_switch other && has_status scheduled other),
          and-false (contends (up_to last) o),
          and-false (is_near_drop (up_to last) o),
        )

    -- a switch of the same day contends if it is Scheduled or Cancel Pending, and none other is preferred
    pub ousts_contender : other.scheduled ≡ o.scheduled → contends (up_to last) o ≡ true
        → (is_switch other && is_preferred i o j other) ≡ ousts today last i o j other
    unfolding ousts contends
    ousts_contender d e =
        go (is_switch other) (has_status scheduled other) (has_status cancel_pending other) (has_status scheduled o) (ltb j i)
        ∙ rw (
          p,
          contender_drop (up_to last) o e,
          e,
          eq-eqb other.scheduled o.scheduled d,
          ap (up_to last) d ∙ contender_near (up_to last) o e,
        )
      where
        go : (w s c so l : Bool)
            → (w && cond so (s && l) (s || c && l))
            ≡ (true && (w && (s || c) && true && true && cond so (s && l) (s || c && l)) || false || false)
        go false s c so l = refl
        go true true c true true = refl
        go true true c true false = refl
        go true true c false l = refl
        go true false true true l = refl
        go true false true false true = refl
        go true false true false false = refl
        go true false false true l = refl
        go true false false false l = refl

    pub ousts-drop : contends (up_to last) o ≡ false
        → (is_near_drop (up_to last) o && switch_on o.scheduled other) ≡ ousts today last i o j other
    unfolding ousts
    ousts-drop e = rw (p, e, or_none (is_near_drop (up_to last) o && switch_on o.scheduled other))
      where
        or_none : (a : Bool) → (a || false) ≡ a
        or_none true = refl
        or_none false = refl
