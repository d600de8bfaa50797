-- `print_sheet` promises nothing of what is written; that it is safe needs that the text ends within the buffer.
use Rattle.tape_text.proofs.Puts.{put_within}
use Rattle.block_sheet.proofs.print_sheet.Goals as goal

pub slice_bounds-write_all-end : goal.slice_bounds-write_all-end
slice_bounds-write_all-end g c = put_within c.sheet_in-stop.ensures
