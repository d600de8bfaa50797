-- The loop's invariant: the rows passed are read. The measure is the rows left.
use Rattle.std.proofs.Common.{length}
use Rattle.block_sheet.proofs.row_bytes.Reading.{Reading}
use Rattle.block_sheet.proofs.row_bytes.rows_of.Given as goal

abbrev pub invariant-loop-i : goal.invariant-loop-i
invariant-loop-i l = Reading l.bytes l.rows (length l.yielded)
