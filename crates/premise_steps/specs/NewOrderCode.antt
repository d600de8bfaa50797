-- A part of the steps of a new order that a function of its own does.
use Rattle.std.specs.Prelude.{ℕ, cond, eqb}
use Rattle.records.specs.Records.{move_out}
use Rattle.premise.specs.Passes.{code_order, code_move_out}

-- Notice 1, or 2 for a move out.
abbrev pub code_for : ℕ → ℕ
code_for kind = cond (eqb kind move_out) code_move_out code_order
