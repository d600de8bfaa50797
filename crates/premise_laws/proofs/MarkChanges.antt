-- An order that the clock changes is changed by the mark; a file without an order that the clock or the evaluation changes is left by a
-- day mark. Assumes nothing.
use Prim.Native.Nat.{ℕ, suc}
use mathlib.Core.Path.{◌≡◌, refl, ap, ap₂, ◌∙◌}
use mathlib.Core.List.{List, [], ◌∷◌}
use mathlib.Core.Bool.{Bool, true, false, ◌||◌}
use Rattle.lists.proofs.TestLaws.{or_left, or_right}
use Rattle.days.specs.Days.{is_business_day}
use Rattle.premise.specs.declared.Order.{Order}
use Rattle.premise.specs.Orders.{held}
use Rattle.premise.specs.Passes.{Effect}
use Rattle.premise.specs.Clock.{ticked, clock}
use Rattle.premise.specs.Evaluation.{evaluated}
use Rattle.premise.specs.OnePremise.{followed, marked_with}
use Rattle.premise_laws.specs.Changes.{clock_changes}
use Rattle.premise_laws.proofs.ClockChanges.{tick_still}
use Rattle.premise_laws.specs.Changes.{changes_order}
use Rattle.premise_laws.specs.Changes.{any_at}
use Rattle.premise_laws.proofs.ChangesFile.{pass_same, file_same, evaluated_still}
use Rattle.premise_laws.specs.Changes.{mark_changes_order, UnchangedStays}

pub mark_changes_clock : (business : Bool) (today last agreement : ℕ) (os : List Order) (i : ℕ) (o : Order)
    → clock_changes business today o ≡ true
    → mark_changes_order business today last agreement os i o ≡ true
mark_changes_clock business today last agreement os i o e = ap (λ (b : Bool). b || changes_order today last agreement os i o) e

-- what no order passes, none passes that asks more
any_less : (p q : ℕ → Order → Bool) → ((i : ℕ) (o : Order) → p i o ≡ false → q i o ≡ false) → (j : ℕ) (os : List Order)
    → any_at p j os ≡ false → any_at q j os ≡ false
any_less p q less j [] e = refl
any_less p q less j (o ∷ os) e =
    ap₂ (λ (a b : Bool). a || b) (less j o (or_left (p j o) (any_at p (suc j) os) e))
    (any_less p q less (suc j) os (or_right (p j o) (any_at p (suc j) os) e))

pub unchanged_stays : UnchangedStays
unfolding marked_with
unchanged_stays calendar today last f tidy window e =
    let business = is_business_day calendar today in
    let os = held f in
    let agreement = f.agreement in
    let wound = pass_same (mark_changes_order business today last agreement os) (λ (i : ℕ). ticked business today f.premise)
    (λ i o h. tick_still business today o f.premise (or_left (clock_changes business today o)
    (changes_order today last agreement os i o) h)) 0
    os e in
    let quiet = any_less (mark_changes_order business today last agreement os) (changes_order today last agreement os)
    (λ i o. or_right (clock_changes business today o) (changes_order today last agreement os i o)) 0 os e in
    ap (λ (a : Effect). followed a (evaluated calendar today)) (file_same f tidy (clock calendar today f.premise os) wound)
    ∙ evaluated_still calendar today last f window tidy quiet
