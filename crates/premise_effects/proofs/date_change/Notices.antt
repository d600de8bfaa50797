-- What a date change tells: the TDSP, and then the premise's retailer where that is to hear of it too. Assumes nothing.
use Prim.Native.Nat.{ℕ}
use mathlib.Core.Path.{◌≡◌}
use mathlib.Core.List.{List, [], ◌∷◌}
use mathlib.Core.Bool.{Bool, true, false, not, ◌&&◌}
use native.Mathlib.Omega.{arith}
use lib.Dec.{eqb}
use borrow.Author.Tests.{not-true, not-false}
use Rattle.records.specs.declared.Record.{Record}
use Rattle.records.specs.Notices.{tdsp}
use Rattle.records.specs.Records.{move_in}
use Rattle.premise.specs.declared.Order.{Order}
use Rattle.premise.specs.declared.File.{File}
use Rattle.premise.specs.Orders.{has_kind, no_retailer}
use Rattle.premise.specs.Passes.{code_date_change, notice}
use Rattle.premise.specs.Steps.{redated, on_date_change}
use Rattle.premise_notices.specs.declared.outbox.Outbox.{Outbox}
use Rattle.premise_notices.specs.Outboxes.{RoomIn}
use Rattle.premise_notices.specs.Telling.{telling}
use Rattle.premise_effects.specs.ByKind.{telling_both}

-- whether the premise's retailer hears of it too
abbrev hears_too : File → Order → Bool
hears_too f o = has_kind move_in o && eqb o.told 1 && not (eqb f.retailer no_retailer)

-- t is the order as the code left it
module _ (calendar : List ℕ) (today : ℕ) (f : File) (r : Record) (o t : Order) (left : t ≡ redated calendar today r o) where
  pub told_once : not (hears_too f o) ≡ true → on_date_change calendar today f r o ≡ telling code_date_change f.premise tdsp t
  unfolding on_date_change
  told_once h = rw (not-true (hears_too f o) h, left)

  pub told_twice : not (hears_too f o) ≡ false
      → on_date_change calendar today f r o ≡ telling_both code_date_change f.premise tdsp f.retailer t
  unfolding on_date_change
  told_twice h = rw (not-false (hears_too f o) h, left)

  -- the first of its notices has room
  pub tells_room : (out : Outbox) → RoomIn out (on_date_change calendar today f r o).notices
      → RoomIn out (notice code_date_change f.premise tdsp t ∷ [])
  unfolding on_date_change
  tells_room out room = omega (arith, room)
