-- The evaluation of a file, pass by pass: what each asks, and what the last one gives. Assumes nothing.
use Prim.Native.Nat.{ℕ}
use mathlib.Core.Path.{◌≡◌, refl, sym, ap, subst, subst⁻¹, ◌∙◌}
use mathlib.Core.List.{List, ◌++◌}
use mathlib.Core.Bool.{Bool}
use Rattle.days.specs.Window.{up_to}
use Rattle.premise.specs.declared.Order.{Order}
use Rattle.premise.specs.declared.File.{File}
use Rattle.premise.specs.Orders.{held, with_orders}
use Rattle.premise.specs.Passes.{Outcome, Effect, and_then, on_file}
use Rattle.premise.specs.Evaluation.{same_day_switch, drop_on_switch_day, permit_overtaken, evaluation, evaluated_by, evaluated}
use Rattle.premise.specs.Evaluation.{same_day_switches, drops_on_switch_days, permits_overtaken, loss_notices}
use Rattle.premise.specs.OnePremise.{followed}
use Rattle.premise.specs.WellKept.{Tidy}
use Rattle.premise.proofs.KeptFiles.{held_with}
use Rattle.premise_laws.proofs.ChangesFile.{evaluated_by_last}
use Rattle.premise_notices.specs.declared.outbox.Outbox.{Outbox}
use Rattle.premise_notices.specs.Outboxes.{RoomIn, DoneToFile}
use Rattle.premise_notices.proofs.Then.{then_first, then_room, then_done, pass_tidy}
use Rattle.premise_evaluation.specs.Evaluable.{Evaluable}

-- what is done to a file by its orders and its other fields
abbrev pub doing : (File → List Order → Outcome) → File → Effect
doing work f = on_file f (work f (held f))

-- one after another on the orders is one after another on the file, where the second asks the file for no orders
doing_then : (first next : File → List Order → Outcome) → ((f : File) (os left : List Order) → next (with_orders f left) os ≡ next f os)
    → (f : File) → doing (λ (g : File) (os : List Order). and_then (first g os) (next g)) f ≡ followed (doing first f) (doing next)
doing_then first next fields f =
    let a = first f (held f) in
    let left = with_orders f a.orders in
    ap {B = Effect} (λ (done : Outcome). record { file = with_orders f done.orders; notices = a.notices ++ done.notices })
    (sym (fields f (held left) a.orders ∙ ap (next f) (held_with f a.orders)))

module _ (near : ℕ → Bool) (today : ℕ) where
  -- ---- the passes
  abbrev switches : File → List Order → Outcome
  switches f = same_day_switches near f.premise

  abbrev drops : File → List Order → Outcome
  drops f = drops_on_switch_days near f

  abbrev permits : File → List Order → Outcome
  permits f = permits_overtaken today f.premise

  abbrev losses : File → List Order → Outcome
  losses f = loss_notices near f

  -- ---- the evaluation of a file is its four passes, one after another
  abbrev through_drops : File → Effect
  through_drops f = followed (doing switches f) (doing drops)

  abbrev through_permits : File → Effect
  through_permits f = followed (through_drops f) (doing permits)

  abbrev through_losses : File → Effect
  through_losses f = followed (through_permits f) (doing losses)

  evaluated_through : (f : File) → evaluated_by near today f ≡ through_losses f
  unfolding evaluation
  evaluated_through f =
      let two : File → List Order → Outcome = λ (g : File) (os : List Order). and_then (switches g os) (drops g) in
      let three : File → List Order → Outcome = λ (g : File) (os : List Order). and_then (two g os) (permits g) in
      doing_then three losses (λ g os left. refl) f
      ∙ ap (λ (e : Effect). followed e (doing losses))
      (doing_then two permits (λ g os left. refl) f
      ∙ ap (λ (e : Effect). followed e (doing permits)) (doing_then switches drops (λ g os left. refl) f))

-- ---- what each pass asks, and what the last one gives
module _ {calendar : List ℕ} {today last : ℕ} {f : File} {out : Outbox}
    (asked : Evaluable calendar today last f (evaluated calendar today f).notices out) where
  abbrev near : ℕ → Bool
  near = up_to last

  -- by the last day in window
  through : evaluated calendar today f ≡ through_losses near today f
  through = evaluated_by_last calendar today last f asked.window ∙ evaluated_through near today f

  room_losses : RoomIn out (through_losses near today f).notices
  room_losses = subst (λ (e : Effect). RoomIn out e.notices) through asked.room

  room_permits : RoomIn out (through_permits near today f).notices
  room_permits = then_first (through_permits near today f) (doing (losses near today)) out room_losses

  room_drops : RoomIn out (through_drops near today f).notices
  room_drops = then_first (through_drops near today f) (doing (permits near today)) out room_permits

  pub same_day_ready : Tidy f × RoomIn out (doing (switches near today) f).notices
  same_day_ready = (asked.tidy, then_first (doing (switches near today) f) (doing (drops near today)) out room_drops)

  module _ {f₁ : File} {out₁ : Outbox} (d₁ : DoneToFile (doing (switches near today) f) f₁ out out₁) where
    tidy₁ : Tidy f₁
    tidy₁ = pass_tidy (same_day_switch near f.premise (held f)) asked.tidy d₁

    pub drops_ready : Tidy f₁ × RoomIn out₁ (doing (drops near today) f₁).notices
    drops_ready = (tidy₁, then_room (doing (drops near today)) d₁ room_drops)

    module _ {f₂ : File} {out₂ : Outbox} (d₂ : DoneToFile (doing (drops near today) f₁) f₂ out₁ out₂) where
      tidy₂ : Tidy f₂
      tidy₂ = pass_tidy (λ (i : ℕ). drop_on_switch_day near f₁.premise f₁.retailer (held f₁)) tidy₁ d₂

      done₂ : DoneToFile (through_drops near today f) f₂ out out₂
      done₂ = then_done (doing (drops near today)) d₁ room_drops d₂

      pub permits_ready : Tidy f₂ × RoomIn out₂ (doing (permits near today) f₂).notices
      permits_ready = (tidy₂, then_room (doing (permits near today)) done₂ room_permits)

      module _ {f₃ : File} {out₃ : Outbox} (d₃ : DoneToFile (doing (permits near today) f₂) f₃ out₂ out₃) where
        done₃ : DoneToFile (through_permits near today f) f₃ out out₃
        done₃ = then_done (doing (permits near today)) done₂ room_permits d₃

        pub losses_ready : Tidy f₃ × RoomIn out₃ (doing (losses near today) f₃).notices
        losses_ready = (
          pass_tidy (λ (i : ℕ). permit_overtaken today f₂.premise (held f₂)) tidy₂ d₃,
          then_room (doing (losses near today)) done₃ room_losses,
        )

        pub evaluate_done : {f₄ : File} {out₄ : Outbox} → DoneToFile (doing (losses near today) f₃) f₄ out₃ out₄
            → DoneToFile (evaluated calendar today f) f₄ out out₄
        evaluate_done {f₄} {out₄} d₄ =
            subst⁻¹ (λ (e : Effect). DoneToFile e f₄ out out₄) through (then_done (doing (losses near today)) done₃ room_losses d₄)
