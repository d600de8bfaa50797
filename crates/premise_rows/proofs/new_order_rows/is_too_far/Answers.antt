-- `is_too_far` meets its contract: its tests are those of the definition, in its order.
use mathlib.Core.Path.{refl}
use Rattle.premise_rows.proofs.new_order_rows.is_too_far.Goals as goal

pub returns : goal.returns
returns c = refl
