-- An order that is told of.
use Rattle.std.specs.Prelude.{ℕ, [], ◌∷◌}
use Rattle.premise.specs.declared.Order.{Order}
use Rattle.premise.specs.Passes.{Change, notice}

-- an order as it is left, and one notice on it
abbrev pub telling : ℕ → ℕ → ℕ → Order → Change
telling code premise addressee o = record { order = o; notices = notice code premise addressee o ∷ [] }
