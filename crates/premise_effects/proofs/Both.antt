-- One notice on an order as a record leaves it, and then another. Assumes nothing.
use Prim.Native.Nat.{ℕ}
use mathlib.Core.Path.{◌≡◌, refl}
use mathlib.Core.List.{[], ◌∷◌}
use Rattle.premise.specs.declared.Order.{Order}
use Rattle.premise.specs.Passes.{Change, notice}
use Rattle.premise_notices.specs.declared.outbox.Outbox.{Outbox}
use Rattle.premise_notices.specs.Outboxes.{RoomIn, Sends, DoneToOrder}
use Rattle.premise_notices.proofs.Sent.{room_case, done_case, room_then, sends_then}
use Rattle.premise_effects.specs.ByKind.{telling_both}

module _ {change : Change} {code premise first second : ℕ} {t : Order} {out middle : Outbox}
    (e : change ≡ telling_both code premise first second t) (room : RoomIn out change.notices)
    (w : Sends out middle (notice code premise first t ∷ [])) where
  both : RoomIn out (notice code premise first t ∷ notice code premise second t ∷ [])
  both = room_case (telling_both code premise first second t) e out room

  pub second_room : RoomIn middle (notice code premise second t ∷ [])
  second_room = room_then (notice code premise first t ∷ []) (notice code premise second t ∷ []) both w

  pub done_both : {after : Outbox} → Sends middle after (notice code premise second t ∷ []) → DoneToOrder change t out after
  done_both v =
      done_case (telling_both code premise first second t) e
      (record {
        order_after = refl;
        sends = sends_then (notice code premise first t ∷ []) (notice code premise second t ∷ []) both w v;
      })
