-- A file without an order that the evaluation changes is left by it. Assumes nothing.
use Prim.Native.Nat.{ℕ, suc}
use mathlib.Core.Path.{◌≡◌, refl, ap, ap₂, ◌∙◌}
use mathlib.Core.List.{List, [], ◌∷◌, ◌++◌}
use mathlib.Core.Bool.{Bool, false}
use Rattle.lists.proofs.TestLaws.{or_left, or_right}
use Rattle.days.specs.Window.{up_to, LastInWindow}
use Rattle.days.proofs.LastInWindow.{window_is_up_to}
use Rattle.premise.specs.declared.Order.{Order}
use Rattle.premise.specs.declared.File.{File}
use Rattle.premise.specs.Orders.{held}
use Rattle.premise.specs.Passes.{Change, Outcome, Effect, same, pass_from, and_then, on_file}
use Rattle.premise.specs.Evaluation.{same_day_switch, same_day_switches, drop_on_switch_day, drops_on_switch_days, permit_overtaken, permits_overtaken}
use Rattle.premise.specs.Evaluation.{loss_notice, loss_notices, evaluation, evaluated_by, evaluated}
use Rattle.premise.specs.WellKept.{Tidy}
use Rattle.premise.proofs.Places.{with_held}
use Rattle.premise_laws.proofs.SameDaySwitch.{same_day_stays}
use Rattle.premise_laws.proofs.DropOnSwitchDay.{drop_stays}
use Rattle.premise_laws.proofs.PermitOvertaken.{permit_stays}
use Rattle.premise_laws.proofs.LossNotice.{loss_stays}
use Rattle.premise_laws.specs.Changes.{changes_order}
use Rattle.premise_laws.proofs.ChangesOrder.{let_be}
use Rattle.premise_laws.specs.Changes.{any_at}

-- a pass over orders that its step leaves as they are
pub pass_same : (p : ℕ → Order → Bool) (step : ℕ → Order → Change) → ((i : ℕ) (o : Order) → p i o ≡ false → step i o ≡ same o)
    → (j : ℕ) (os : List Order) → any_at p j os ≡ false → pass_from step j os ≡ record { orders = os; notices = [] }
pass_same p step still j [] e = refl
pass_same p step still j (o ∷ os) e =
    ap₂ {C = Outcome} (λ (c : Change) (done : Outcome). record { orders = c.order ∷ done.orders; notices = c.notices ++ done.notices })
    (still j o (or_left (p j o) (any_at p (suc j) os) e))
    (pass_same p step still (suc j) os (or_right (p j o) (any_at p (suc j) os) e))

-- a file whose orders are left as they are
pub file_same : (f : File) → Tidy f → (done : Outcome) → done ≡ record { orders = held f; notices = [] }
    → on_file f done ≡ record { file = f; notices = [] }
file_same f tidy done e = ap (on_file f) e ∙ ap {B = Effect} (λ (g : File). record { file = g; notices = [] }) (with_held f tidy)

-- ---- the evaluation
module _ (today last : ℕ) where
  module _ (f : File) (os : List Order) (e : any_at (changes_order today last f.agreement os) 0 os ≡ false) where
    same_day_still : same_day_switches (up_to last) f.premise os ≡ record { orders = os; notices = [] }
    same_day_still =
        pass_same (changes_order today last f.agreement os) (same_day_switch (up_to last) f.premise os)
        (λ i o h. same_day_stays (up_to last) os i o f.premise (let_be today last f.agreement os i o h).one) 0 os e

    drops_still : drops_on_switch_days (up_to last) f os ≡ record { orders = os; notices = [] }
    drops_still =
        pass_same (changes_order today last f.agreement os) (λ (i : ℕ). drop_on_switch_day (up_to last) f.premise f.retailer os)
        (λ i o h. drop_stays (up_to last) os o f.premise f.retailer (let_be today last f.agreement os i o h).two) 0 os e

    permits_still : permits_overtaken today f.premise os ≡ record { orders = os; notices = [] }
    permits_still = pass_same (changes_order today last f.agreement os) (λ (i : ℕ). permit_overtaken today f.premise os)
        (λ i o h. permit_stays today os o f.premise (let_be today last f.agreement os i o h).three) 0 os e

    losses_still : loss_notices (up_to last) f os ≡ record { orders = os; notices = [] }
    losses_still =
        pass_same (changes_order today last f.agreement os) (λ (i : ℕ). loss_notice (up_to last) f.premise f.retailer f.agreement)
        (λ i o h. loss_stays (up_to last) o f.premise f.retailer f.agreement
        (let_be today last f.agreement os i o h).four) 0 os e

    evaluation_still : evaluation (up_to last) today f os ≡ record { orders = os; notices = [] }
    unfolding evaluation
    evaluation_still =
        ap (λ (a : Outcome). and_then (and_then (and_then a (drops_on_switch_days (up_to last) f)) (permits_overtaken today f.premise))
        (loss_notices (up_to last) f)) same_day_still
        ∙ ap (λ (a : Outcome). and_then (and_then a (permits_overtaken today f.premise)) (loss_notices (up_to last) f))
        drops_still
        ∙ ap (λ (a : Outcome). and_then a (loss_notices (up_to last) f)) permits_still
        ∙ losses_still

-- the file's window, by its last day
pub evaluated_by_last : (calendar : List ℕ) (today last : ℕ) (f : File) → LastInWindow calendar f.window today last
    → evaluated calendar today f ≡ evaluated_by (up_to last) today f
evaluated_by_last calendar today last f window =
    ap (λ (near : ℕ → Bool). evaluated_by near today f) (window_is_up_to calendar f.window today last window)

pub evaluated_still : (calendar : List ℕ) (today last : ℕ) (f : File) → LastInWindow calendar f.window today last
    → Tidy f → any_at (changes_order today last f.agreement (held f)) 0 (held f) ≡ false
    → evaluated calendar today f ≡ record { file = f; notices = [] }
evaluated_still calendar today last f window tidy e =
    evaluated_by_last calendar today last f window
    ∙ file_same f tidy (evaluation (up_to last) today f (held f))
    (evaluation_still today last f (held f) e)
