-- `put_sheet` meets its contract: the answer's digits, the line's end, and the rows' lines behind it.
use Rattle.std.proofs.Common.{arith}
use Rattle.block_sheet.proofs.lines.Listed.{number_fits, end_within, rows_fit, sheet_put}
use Rattle.block_sheet.proofs.lines.put_sheet.Goals as goal

pub put_number-stop-requires : goal.put_number-stop-requires
put_number-stop-requires c =
    let a = c.args in
    number_fits a.answer a.rows.now a.out.now c.requires.rows_le_most_rows c.requires.sheet_text_most_in_bounds

pub bounds-out-stop : goal.bounds-out-stop
bounds-out-stop c =
    let a = c.args in
    omega (arith, end_within a.answer a.rows.now a.out.now c.requires.rows_le_most_rows c.requires.sheet_text_most_in_bounds c.put_number-stop.ensures)

pub put_rows-requires : goal.put_rows-requires
put_rows-requires c =
    let a = c.args in
    rows_fit a.answer a.rows.now a.out.now c.requires.rows_le_most_rows c.requires.sheet_text_most_in_bounds c.put_number-stop.ensures

pub returns : goal.returns
returns c =
    let a = c.args in
    sheet_put a.answer a.rows.now a.out.now c.requires.rows_le_most_rows c.requires.sheet_text_most_in_bounds c.put_number-stop.ensures
    c.put_rows.ensures
