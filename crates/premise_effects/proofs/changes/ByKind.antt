-- Which step a record that names an order does, by its kind. Assumes nothing.
use Prim.Native.Nat.{ℕ}
use mathlib.Core.Path.{◌≡◌}
use mathlib.Core.List.{List}
use borrow.Author.Tests.{eq-eqb, ne_eqb}
use Rattle.records.specs.declared.Record.{Record}
use Rattle.records.specs.Records.{kind_date_change}
use Rattle.premise.specs.declared.Order.{Order}
use Rattle.premise.specs.declared.File.{File}
use Rattle.premise.specs.Steps.{on_order, on_date_change, on_named}

module _ (calendar : List ℕ) (today : ℕ) (f : File) (r : Record) (o : Order) where
  pub named_date : r.kind ≡ kind_date_change → on_named calendar today f r o ≡ on_date_change calendar today f r o
  unfolding on_named
  named_date e = rw (eq-eqb r.kind kind_date_change e)

  pub named_other : (r.kind ≡ kind_date_change → ⊥) → on_named calendar today f r o ≡ on_order f r o
  unfolding on_named
  named_other n = rw (ne_eqb r.kind kind_date_change n)
