-- `is_refused` meets its contract: the table's entry inside its rows and columns, and no refusal outside.
use native.Mathlib.Omega.{arith}
use Rattle.premise_rows.proofs.first_in.Table.{outside, within, in_table}
use mathlib.Core.Path.{ap}
use mathlib.Core.Bool.{not}
use Rattle.premise_rows.proofs.first_in.is_refused.Goals as goal

pub returns-then-not-held-new : goal.returns-then-not-held-new
returns-then-not-held-new c = outside c.args.held c.args.new (ap not c.if-not-held-new.true)

pub overflow_sub-i : goal.overflow_sub-i
overflow_sub-i c = omega (arith, within c.args.held c.args.new (ap not c.if-not-held-new.false))

pub overflow_sub-j : goal.overflow_sub-j
overflow_sub-j c = omega (arith, within c.args.held c.args.new (ap not c.if-not-held-new.false))

pub returns : goal.returns
returns c =
    in_table c.args.held c.args.new (ap not c.if-not-held-new.false)
