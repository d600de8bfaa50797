-- What the functions that evaluate a file ask.
use Rattle.std.specs.Prelude.{ℕ, List}
use Rattle.days.specs.Window.{LastInWindow}
use Rattle.records.specs.declared.Notice.{Notice}
use Rattle.premise.specs.declared.File.{File}
use Rattle.premise.specs.WellKept.{Tidy}
use Rattle.premise_notices.specs.declared.outbox.Outbox.{Outbox}
use Rattle.premise_notices.specs.Outboxes.{RoomIn}

-- a file whose evaluation gives some notices, with room for them and the last day in its window
pub record Evaluable (calendar : List ℕ) (today last : ℕ) (f : File) (notices : List Notice) (out : Outbox) : Type 0 where
  pub tidy : Tidy f
  pub room : RoomIn out notices
  pub window : LastInWindow calendar f.window today last
