-- `cancel` meets its contract: two notices, one after the other, on the order as it is Cancelled.
use Prim.Native.Nat.{ℕ}
use mathlib.Core.Path.{◌≡◌, refl, sym, ap}
use mathlib.Core.List.{[], ◌∷◌}
use Rattle.records.specs.Notices.{tdsp}
use Rattle.premise.specs.declared.Order.{Order}
use Rattle.premise.specs.Passes.{Change, cancelling, notice, code_cancel}
use Rattle.premise_notices.proofs.Sent.{room_case, done_case, room_then, sends_then}
use Rattle.premise_notices.proofs.outbox.Outbox.cancel.Goals as goal

-- an order with its two notices
abbrev both : ℕ → ℕ → Order → Change
both premise addressee t =
    record { order = t; notices = notice code_cancel premise tdsp t ∷ notice code_cancel premise addressee t ∷ [] }

pub send_cancel-requires-2 : goal.send_cancel-requires-2
send_cancel-requires-2 c =
    let a = c.args in
    let t = c.as_cancelled-t.result in
    let e : cancelling a.premise a.addressee a.o ≡ both a.premise a.addressee t =
    ap {B = Change} (both a.premise a.addressee) (sym c.as_cancelled-t.ensures) in
    room_then (notice code_cancel a.premise tdsp t ∷ []) (notice code_cancel a.premise a.addressee t ∷ [])
    (room_case (both a.premise a.addressee t) e a.self.now c.requires) c.send_cancel.ensures

pub returns : goal.returns
returns c =
    let a = c.args in
    let t = c.as_cancelled-t.result in
    let e : cancelling a.premise a.addressee a.o ≡ both a.premise a.addressee t =
    ap {B = Change} (both a.premise a.addressee) (sym c.as_cancelled-t.ensures) in
    done_case (both a.premise a.addressee t) e
    (record {
      order_after = refl;
      sends =
          sends_then (notice code_cancel a.premise tdsp t ∷ []) (notice code_cancel a.premise a.addressee t ∷ [])
          (room_case (both a.premise a.addressee t) e a.self.now c.requires) c.send_cancel.ensures c.send_cancel-2.ensures;
    })
