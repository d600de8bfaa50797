-- A file's places: the file with its count and places set, and the orders that a loop over the places meets. Assumes nothing.
use Prim.Native.Nat.{ℕ, ◌+◌, ◌<◌, ◌≤◌}
use mathlib.Core.Path.{◌≡◌, sym, ap₂}
use mathlib.Core.List.{List, [], ◌∷◌}
use native.Mathlib.Omega.{arith}
use lib.ListN.{drop, get_or}
use Rattle.lists.proofs.Find.{drop_part, part_none}
use Rattle.premise.specs.declared.Order.{Order}
use Rattle.premise.specs.declared.File.{File}
use Rattle.premise.specs.Orders.{blank, held, with_orders}
use Rattle.premise.specs.WellKept.{Tidy}
use Rattle.premise.proofs.KeptFiles.{length-held, length-orders}

-- a file with its count and its places set
abbrev pub with_places : File → ℕ → List Order → File
with_places f n l =
    record {
      premise = f.premise;
      retailer = f.retailer;
      since = f.since;
      window = f.window;
      agreement = f.agreement;
      entered = f.entered;
      count = n;
      orders = l;
    }

module _ (f : File) (tidy : Tidy f) where
  -- with its own orders a file is the same file
  pub with_held : with_orders f (held f) ≡ f
  with_held = ap₂ (with_places f) (length-held f tidy) (sym tidy.whole)

  -- ---- the orders from a place on: lists.Find has the turns of a search over them
  module _ (i : ℕ) where
    -- the order at the place, and those after it
    pub first_held : i < f.count → drop i (held f) ≡ get_or f.orders i blank ∷ drop (i + 1) (held f)
    first_held h = drop_part blank f.orders f.count i (omega (arith, tidy.few, length-orders f tidy)) h

    -- past the last order there is none
    pub none_held : f.count ≤ i → drop i (held f) ≡ []
    none_held h = part_none f.orders f.count i h
