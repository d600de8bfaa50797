-- What the functions that send notices promise: what they leave of the outbox that they are lent, and what they return.
use Rattle.std.specs.Prelude.{◌≡◌, List}
use Rattle.records.specs.declared.Notice.{Notice}
use Rattle.premise.specs.declared.Order.{Order}
use Rattle.premise.specs.declared.File.{File}
use Rattle.premise.specs.Passes.{Change, Effect}
use Rattle.premise.specs.Promises.{Room, Writes}
use Rattle.premise_notices.specs.declared.outbox.Outbox.{Outbox}

-- room for some notices behind those that stand in an outbox already
abbrev pub RoomIn : Outbox → List Notice → Type 0
RoomIn out notices = Room out.sent notices out.buffer.now

-- Notices are sent: each goes behind those that stand in the outbox, into the buffer that it was lent.
pub record Sends (before after : Outbox) (notices : List Notice) : Type 0 where
  pub same_buffer : after.buffer.ghost_name ≡ before.buffer.ghost_name
  pub wrote : Writes before.sent before.buffer.now after.buffer.now after.sent notices

-- a function on one order
pub record DoneToOrder (change : Change) (order : Order) (before after : Outbox) : Type 0 where
  pub order_after : order ≡ change.order
  pub sends : Sends before after change.notices

-- a function on a file
pub record DoneToFile (effect : Effect) (file : File) (before after : Outbox) : Type 0 where
  pub file_after : file ≡ effect.file
  pub sends : Sends before after effect.notices
