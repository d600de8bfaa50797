-- `sheet_in` meets its contract: the book is the tape's, the rows are those of the bytes with spare ones behind them, and what is put is
-- their sheet.
use Prim.Native.Nat.{◌/◌}
use mathlib.Core.Path.{sym}
use lib.ListN.{length}
use Rattle.block_sheet.specs.RowBytes.{row_length, rows_of}
use Rattle.block_sheet.proofs.row_bytes.Reading.{rows-length}
use Rattle.block_sheet.proofs.Printing.{printed}
use Rattle.block_sheet.proofs.sheet_in.Goals as goal

pub returns : goal.returns
returns c =
    let blocks = c.args.blocks.now in
    printed _ _ (rows_of (length blocks / row_length) blocks) _ _ _ _ _ c.played-b.ensures c.rows_of.ensures
    c.filled_sheet-after.ensures c.number_of-number.ensures (sym (rows-length (length blocks / row_length) blocks))
    c.put_sheet.ensures
