-- The loop's invariant: the lines of the rows passed are put.
use Rattle.block_sheet.proofs.lines.Listed.{Listed}
use Rattle.block_sheet.proofs.lines.put_rows.Given as goal

abbrev pub invariant-loop-row : goal.invariant-loop-row
invariant-loop-row l = Listed l.rows l.start l.initial.out l.out l.at l.row-index
