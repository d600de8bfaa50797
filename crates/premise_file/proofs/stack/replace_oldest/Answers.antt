-- `replace_oldest` meets its contract, by what `copy_within` leaves.
use Rattle.premise_file.proofs.stack.Shift.{shifted_down}
use Rattle.premise_file.proofs.stack.replace_oldest.Goals as goal

pub returns : goal.returns
returns c =
    let a = c.args in
    shifted_down a.file.now c.requires.0 c.requires.1 a.at c.requires.2 a.order c.copy_within.new.self c.copy_within.ensures.after
