-- One thing done to a file after another, on what the first left, with its notices behind the first one's. Assumes nothing.
use Prim.Native.Nat.{ℕ}
use mathlib.Core.Path.{◌≡◌, refl, subst, subst⁻¹}
use mathlib.Core.List.{[]}
use native.Mathlib.Omega.{arith}
use Rattle.premise.specs.declared.Order.{Order}
use Rattle.premise.specs.declared.File.{File}
use Rattle.premise.specs.Orders.{held}
use Rattle.premise.specs.Passes.{Change, Effect, pass, on_file}
use Rattle.premise.specs.OnePremise.{followed}
use Rattle.premise.specs.WellKept.{Tidy}
use Rattle.premise.proofs.KeptFiles.{length-held, tidy_with}
use Rattle.premise_laws.proofs.Passes.{length-pass}
use Rattle.premise_notices.specs.declared.outbox.Outbox.{Outbox}
use Rattle.premise_notices.specs.Outboxes.{RoomIn, DoneToFile}
use Rattle.premise_notices.proofs.Sent.{sends_none, room_first, room_then, sends_then}

-- any two effects
pub then_first : (first : Effect) (next : File → Effect) (out : Outbox) → RoomIn out (followed first next).notices
    → RoomIn out first.notices
then_first first next out room = room_first out first.notices (next first.file).notices room

module _ {first : Effect} (next : File → Effect) {before middle : Outbox} {f : File} (done : DoneToFile first f before middle)
    (room : RoomIn before (followed first next).notices) where
  pub then_room : RoomIn middle (next f).notices
  then_room =
      subst⁻¹ (λ (x : File). RoomIn middle (next x).notices) done.file_after
      (room_then first.notices (next first.file).notices room done.sends)

  pub then_done : {g : File} {after : Outbox} → DoneToFile (next f) g middle after → DoneToFile (followed first next) g before after
  then_done {g} {after} e =
      let d = subst (λ (x : File). DoneToFile (next x) g middle after) done.file_after e in
      record { file_after = d.file_after; sends = sends_then first.notices (next first.file).notices room done.sends d.sends }

-- a file left as it is
pub done_nothing : {effect : Effect} (f : File) (out : Outbox) → effect ≡ record { file = f; notices = [] } → DoneToFile effect f out out
done_nothing f out e =
    subst⁻¹ (λ (x : Effect). DoneToFile x f out out) e (record { file_after = refl; sends = sends_none out })

-- a pass by any step leaves a tidy file
pub pass_tidy : (step : ℕ → Order → Change) {f : File} → Tidy f → {g : File} {before after : Outbox}
    → DoneToFile (on_file f (pass step (held f))) g before after → Tidy g
pass_tidy step {f} tidy done =
    subst⁻¹ Tidy done.file_after
    (tidy_with f (pass step (held f)).orders (omega (arith, length-pass step 0 (held f), length-held f tidy, tidy.few)))
