-- What the evaluation asks where it ends something that was done to a file. Assumes nothing.
use Prim.Native.Nat.{ℕ}
use mathlib.Core.Path.{◌≡◌, subst⁻¹}
use mathlib.Core.List.{List}
use Rattle.days.specs.Window.{LastInWindow}
use Rattle.premise.specs.declared.File.{File}
use Rattle.premise.specs.Passes.{Effect}
use Rattle.premise.specs.Evaluation.{evaluated}
use Rattle.premise.specs.OnePremise.{followed}
use Rattle.premise.specs.WellKept.{Tidy}
use Rattle.premise_notices.specs.declared.outbox.Outbox.{Outbox}
use Rattle.premise_notices.specs.Outboxes.{RoomIn, DoneToFile}
use Rattle.premise_notices.proofs.Then.{then_room}
use Rattle.premise_evaluation.specs.Evaluable.{Evaluable}

-- the file that was left is tidy, and has the window that it had
pub then_evaluable : {calendar : List ℕ} {today last : ℕ} (f : File) → LastInWindow calendar f.window today last
    → {first : Effect} {g : File} {before after : Outbox} → DoneToFile first g before after
    → RoomIn before (followed first (evaluated calendar today)).notices → Tidy g → g.window ≡ f.window
    → Evaluable calendar today last g (evaluated calendar today g).notices after
then_evaluable {calendar} {today} {last} f window done room tidy e =
    record {
      tidy = tidy;
      room = then_room (evaluated calendar today) done room;
      window = subst⁻¹ (λ (width : ℕ). LastInWindow calendar width today last) e window;
    }
