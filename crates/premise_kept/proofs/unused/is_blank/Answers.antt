-- `is_blank` meets its contract: its fields are zero where the wide ones and the sum of the narrow ones are.
use mathlib.Core.Path.{refl}
use Rattle.premise_kept.proofs.unused.Zero.{blank_by_sum}
use Rattle.premise_kept.proofs.unused.is_blank.Goals as goal

pub returns : goal.returns
returns c = blank_by_sum c.args.o.now refl
