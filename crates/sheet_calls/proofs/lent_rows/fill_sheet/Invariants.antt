-- The loop's invariant: the rows passed are filled in, and the others as they were.
use Rattle.std.proofs.Common.{◌≡◌, ◌++◌, map, take, drop}
use Rattle.sheet_rules.specs.Sheet.{counted}
use Rattle.sheet_calls.proofs.lent_rows.fill_sheet.Given as goal

abbrev pub invariant-loop-row : goal.invariant-loop-row
invariant-loop-row l = l.rows ≡ map (counted l.b) (take l.row-index l.initial.rows) ++ drop l.row-index l.initial.rows
