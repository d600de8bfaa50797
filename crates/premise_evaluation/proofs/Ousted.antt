-- The evaluation changes the order at a place if it is due or another order ousts it; a day mark changes a file if the clock or the
-- evaluation changes one of its orders. Assumes nothing.
use Prim.Native.Nat.{ℕ, ◌<◌}
use mathlib.Core.Path.{◌≡◌, refl, sym, ap, ap₂, ◌∙◌}
use native.Mathlib.Omega.{arith}
use mathlib.Core.List.{List}
use mathlib.Core.Bool.{Bool, true, false, ◌&&◌, ◌||◌}
use lib.ListN.{length, get_or}
use Rattle.lists.specs.Search.{any_of}
use Rattle.lists.proofs.TestLaws.{or_left, or_right}
use Rattle.days.specs.Window.{up_to}
use Rattle.premise.specs.declared.Order.{Order}
use Rattle.premise.specs.declared.File.{File}
use Rattle.premise.specs.Orders.{blank, held}
use Rattle.premise.specs.Evaluation.{contends, contends_for, gives_way, switch_on, is_displaced, overtakes, is_overtaken, is_due}
use Rattle.premise_laws.specs.Changes.{clock_changes, changes_order, any_at, mark_changes_file}
use Rattle.premise_evaluation.specs.Ousting.{is_near_drop, awaits_permit, is_preferred, may_be_ousted, ousts}
use Rattle.premise_evaluation.proofs.PlaceTests.{any_none, any_or, any_and, any_plain, any_agree}
use Rattle.premise_evaluation.proofs.SwitchKept.{gives_way_to}

module _ (today last : ℕ) (os : List Order) (i : ℕ) (o : Order) where
  abbrev to_switch : ℕ → Order → Bool
  to_switch j x = contends (up_to last) o && (contends_for (up_to last) o.scheduled x && is_preferred i o j x)

  abbrev by_switch : ℕ → Order → Bool
  by_switch j x = is_near_drop (up_to last) o && switch_on o.scheduled x

  abbrev by_move_in : ℕ → Order → Bool
  by_move_in j x = awaits_permit o && overtakes today o.requested x

  -- a test that goes by the order alone, behind one that goes by the others: one search
  behind : (a : Bool) (p : Order → Bool) → (a && any_of p os) ≡ any_at (λ (j : ℕ) (x : Order). a && p x) 0 os
  behind a p = ap (λ (b : Bool). a && b) (sym (any_plain p 0 os)) ∙ sym (any_and a (λ (j : ℕ) (x : Order). p x) 0 os)

  ousted : i < length os → get_or os i blank ≡ o
      → (gives_way (up_to last) os i o || is_displaced (up_to last) os o || is_overtaken today os o) ≡ any_at (ousts today last i o) 0 os
  unfolding ousts is_displaced is_overtaken
  ousted h e =
      ap₂ (λ (a b : Bool). a || b)
      (ap₂ (λ (a b : Bool). a || b) (gives_way_to (up_to last) os i o h e) (behind (is_near_drop (up_to last) o) (switch_on o.scheduled))
      ∙ sym (any_or to_switch by_switch 0 os)) (behind (awaits_permit o) (overtakes today o.requested))
      ∙ sym (any_or (λ (j : ℕ) (x : Order). to_switch j x || by_switch j x) by_move_in 0 os)

  -- the law
  pub changes_by_others : (agreement : ℕ) → i < length os → get_or os i blank ≡ o
      → changes_order today last agreement os i o ≡ (any_at (ousts today last i o) 0 os || is_due (up_to last) agreement o)
  unfolding changes_order
  changes_by_others agreement h e = ap (λ (b : Bool). b || is_due (up_to last) agreement o) (ousted h e)

  -- none ousts an order that can't be ousted
  pub none_ousts : may_be_ousted last o ≡ false → any_at (ousts today last i o) 0 os ≡ false
  unfolding ousts
  none_ousts e =
      let first = or_left (awaits_permit o || contends (up_to last) o) (is_near_drop (up_to last) o) e in
      let drop = or_right (awaits_permit o || contends (up_to last) o) (is_near_drop (up_to last) o) e in
      let permit = or_left (awaits_permit o) (contends (up_to last) o) first in
      let contender = or_right (awaits_permit o) (contends (up_to last) o) first in
      any_none (ousts today last i o) (λ j x. rw (contender, drop, permit)) 0 os

-- what the evaluation asks of an order: whether it is due, and then whether another ousts it
pub changes_asked : (today last agreement : ℕ) (os : List Order)
    → any_at (λ (i : ℕ) (o : Order). is_due (up_to last) agreement o || any_at (ousts today last i o) 0 os) 0 os
    ≡ any_at (changes_order today last agreement os) 0 os
changes_asked today last agreement os =
    any_agree _ (changes_order today last agreement os) 0 os
    (λ k i s h. either (is_due (up_to last) agreement (get_or os i blank)) (any_at (ousts today last k (get_or os i blank)) 0 os)
    ∙ sym (changes_by_others today last os k (get_or os i blank) agreement (omega (arith, s, h))
    (ap (λ (j : ℕ). get_or os j blank) (omega (arith, s)))))
  where
    either : (a b : Bool) → (a || b) ≡ (b || a)
    either true true = refl
    either true false = refl
    either false true = refl
    either false false = refl

-- what a day mark asks of an order: whether the clock changes it, and then whether the evaluation does
pub mark_asked : (business : Bool) (today last : ℕ) (f : File)
    → any_at (λ (i : ℕ) (o : Order). clock_changes business today o
    || (is_due (up_to last) f.agreement o || any_at (ousts today last i o) 0 (held f))) 0 (held f)
    ≡ mark_changes_file business today last f
mark_asked business today last f =
    let clock : ℕ → Order → Bool = λ (i : ℕ) (o : Order). clock_changes business today o in
    any_or clock (λ (i : ℕ) (o : Order). is_due (up_to last) f.agreement o || any_at (ousts today last i o) 0 (held f)) 0 (held f)
    ∙ ap (λ (b : Bool). any_at clock 0 (held f) || b) (changes_asked today last f.agreement (held f))
    ∙ sym (any_or clock (changes_order today last f.agreement (held f)) 0 (held f))
