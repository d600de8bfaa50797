-- A law of a file's open orders: where eight are held and none is closed, eight are open. Assumes nothing.
use Prim.Native.Nat.{◌≤◌}
use mathlib.Core.Path.{◌≡◌}
use mathlib.Core.Bool.{true}
use native.Mathlib.Omega.{arith}
use lib.Dec.{eqb}
use borrow.Author.Tests.{eq-eqb}
use Rattle.std.specs.Prelude.{None}
use Rattle.lists.specs.Search.{count_of, place_of}
use Rattle.lists.proofs.Find.{count_all}
use Rattle.premise.specs.declared.File.{File}
use Rattle.premise.specs.Orders.{most_orders, is_open, is_closed, held}
use Rattle.premise.specs.WellKept.{Tidy}
use Rattle.premise.proofs.KeptFiles.{length-held}

module _ (f : File) (tidy : Tidy f) where
  -- eight are held and none is closed
  pub open_full : most_orders ≤ f.count → place_of is_closed (held f) ≡ None → eqb (count_of is_open (held f)) most_orders ≡ true
  open_full h e = eq-eqb (count_of is_open (held f)) most_orders (omega (arith, count_all is_open 0 (held f) e, length-held f tidy, tidy.few))
