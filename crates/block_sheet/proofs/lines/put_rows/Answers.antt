use Rattle.block_sheet.proofs.lines.Listed.{listed_more}
use Rattle.std.proofs.Common.{arith}
use Rattle.block_sheet.proofs.lines.put_rows.Goals as goal

pub loop-row-preserved : goal.loop-row-preserved
loop-row-preserved c = listed_more c.loop-row.invariant _ (omega arith) c.put_row-at.ensures
