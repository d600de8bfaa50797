-- `not_first_in` meets its contract. The loop's invariant: an order stands in the way from the place reached on where one
-- does at all. The measure is the orders left.
use Prim.Native.Nat.{◌≤◌, ◌-◌}
use mathlib.Core.Path.{◌≡◌}
use lib.ListN.{length, drop}
use Rattle.lists.specs.Search.{any_of}
use Rattle.premise.specs.FirstIn.{stands_in_way}
use Rattle.premise_rows.proofs.first_in.not_first_in.Given as goal

abbrev pub invariant-orders : goal.invariant-orders
invariant-orders l =
    let in_way = stands_in_way l.new l.requested in
    (l.i ≤ length l.orders) × (any_of in_way (drop l.i l.orders) ≡ any_of in_way l.orders)

abbrev pub decreases-orders : goal.decreases-orders
decreases-orders l = length l.orders - l.i
