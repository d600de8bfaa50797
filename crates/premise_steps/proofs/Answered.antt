-- What is promised of a record on a file that stays, by what the rules give. Assumes nothing.
use Prim.Native.Nat.{ℕ}
use mathlib.Core.Path.{◌≡◌, refl, ap, subst, subst⁻¹}
use Rattle.std.specs.Prelude.{Ok, Some}
use Rattle.premise.specs.declared.File.{File}
use Rattle.premise.specs.Refusals.{Answer}
use Rattle.premise.specs.Passes.{Effect}
use Rattle.premise.specs.OnePremise.{Given, refused, leaving}
use Rattle.premise_notices.specs.declared.outbox.Outbox.{Outbox}
use Rattle.premise_notices.specs.Outboxes.{RoomIn, DoneToFile}
use Rattle.premise_notices.proofs.Sent.{sends_none}
use Rattle.premise_steps.specs.Answered.{Answered}

module _ {given : Given} where
  -- nothing sent: a refusal
  pub answered_quiet : (answer : Answer) (today : ℕ) (f : File) (out : Outbox)
      → given ≡ refused answer (record { today = today; file = Some f }) → Answered given answer f out out
  answered_quiet answer today f out e =
      subst⁻¹ (λ (g : Given). Answered g answer f out out) e
      (record { answered = refl; file_after = refl; sends = sends_none out })

  -- what an accepted record does to the file
  module _ (today : ℕ) (effect : Effect) (e : given ≡ leaving today effect) where
    pub room_leaving : (out : Outbox) → RoomIn out given.notices → RoomIn out effect.notices
    room_leaving out room = subst (λ (g : Given). RoomIn out g.notices) e room

    pub answered_done : {f : File} {before after : Outbox} → DoneToFile effect f before after → Answered given (Ok tt) f before after
    answered_done {f} {before} {after} done =
        subst⁻¹ (λ (g : Given). Answered g (Ok tt) f before after) e
        (record { answered = refl; file_after = ap (λ (x : File). Some x) done.file_after; sends = done.sends })
