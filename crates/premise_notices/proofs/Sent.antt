-- Laws of what is sent by an outbox, one lot after another, and of what is promised of a function on one order. Assumes nothing.
use mathlib.Core.Path.{◌≡◌, refl, subst, subst⁻¹, ◌∙◌}
use mathlib.Core.List.{List, [], ◌++◌}
use Rattle.records.specs.declared.Notice.{Notice}
use Rattle.premise.specs.declared.Order.{Order}
use Rattle.premise.specs.Passes.{Change, same}
use Rattle.premise_laws.proofs.Writes as writes
use Rattle.premise_notices.specs.declared.outbox.Outbox.{Outbox}
use Rattle.premise_notices.specs.Outboxes.{RoomIn, Sends, DoneToOrder}

-- nothing sent
pub sends_none : (out : Outbox) → Sends out out []
sends_none out = record { same_buffer = refl; wrote = writes.writes_none out.sent out.buffer.now }

-- one lot after another
pub room_first : (out : Outbox) (xs ys : List Notice) → RoomIn out (xs ++ ys) → RoomIn out xs
room_first out xs ys room = writes.room_first out.sent out.buffer.now xs ys room

module _ {before middle : Outbox} (xs ys : List Notice) (room : RoomIn before (xs ++ ys)) (w : Sends before middle xs) where
  pub room_then : RoomIn middle ys
  room_then = writes.room_then before.sent before.buffer.now xs ys room middle.buffer.now middle.sent w.wrote

  pub sends_then : {after : Outbox} → Sends middle after ys → Sends before after (xs ++ ys)
  sends_then {after} v =
      record {
        same_buffer = v.same_buffer ∙ w.same_buffer;
        wrote = writes.writes_then before.sent before.buffer.now xs ys room middle.buffer.now middle.sent w.wrote after.buffer.now after.sent v.wrote;
      }

-- the same room, and the same promise, by the case that holds
module _ {change : Change} (case : Change) (e : change ≡ case) where
  pub room_case : (out : Outbox) → RoomIn out change.notices → RoomIn out case.notices
  room_case out room = subst (λ (x : Change). RoomIn out x.notices) e room

  pub done_case : {o : Order} {before after : Outbox} → DoneToOrder case o before after → DoneToOrder change o before after
  done_case {o} {before} {after} done = subst⁻¹ (λ (x : Change). DoneToOrder x o before after) e done

-- an order that is left, and nothing sent
pub done_none : {change : Change} (o : Order) (out : Outbox) → change ≡ same o → DoneToOrder change o out out
done_none o out e = done_case (same o) e (record { order_after = refl; sends = sends_none out })
