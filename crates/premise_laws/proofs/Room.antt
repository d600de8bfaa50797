-- An accepted new order finds room: row 12 does not hold, so of eight orders one is closed, and it is dropped. Assumes nothing.
use Prim.Native.Nat.{ℕ, ◌≤◌, ◌<◌}
use mathlib.Core.Path.{◌≡◌}
use mathlib.Core.List.{List}
use Rattle.std.specs.Prelude.{Some}
use mathlib.Core.Bool.{true}
use native.Mathlib.Omega.{arith}
use lib.Dec.{eqb}
use lib.ListN.{length, length-take}
use Rattle.lists.specs.Search.{count_of}
use Rattle.lists.proofs.TestLaws.{and_other}
use Rattle.records.specs.declared.Record.{Record}
use Rattle.records.specs.Records.{kind_new_order}
use Rattle.premise.specs.declared.File.{File}
use Rattle.premise.specs.Orders.{most_orders, is_open, held}
use Rattle.premise.specs.Steps.{is, make_room}
use Rattle.premise.specs.Refusals.{number, first_row, rows}
use Rattle.premise_laws.proofs.KeptNew.{room_few}
use Rattle.premise_laws.proofs.KeptRecords.{no_row}

pub held_most : (f : File) → f.count ≤ most_orders → length (held f) ≤ most_orders
held_most f h = omega (arith, length-take f.count f.orders)

pub accepted_room : (calendar : List ℕ) (today : ℕ) (f : File) (r : Record) → f.count ≤ most_orders
    → eqb (number (first_row (rows calendar today (Some f) r))) 0 ≡ true → is kind_new_order r ≡ true
    → length (make_room (held f)) < most_orders
accepted_room calendar today f r h e new =
    room_few (held f) (held_most f h)
    (and_other (is kind_new_order r) (eqb (count_of is_open (held f)) most_orders) (no_row calendar today (Some f) r e).stack_full new)
