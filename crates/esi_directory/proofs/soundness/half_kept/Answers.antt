-- `esi_directory::soundness::half_kept` meets its contract.
use mathlib.Core.Path.{sym, ap}
use Rattle.esi_rules.specs.Packed.{half_kept}
use Rattle.esi_directory.proofs.soundness.half_kept.Goals as goal

pub returns-then-used : goal.returns-then-used
returns-then-used c = sym (ap (λ used. half_kept used c.args.half) c.if-used.true)

pub returns-else-used : goal.returns-else-used
returns-else-used c = sym (ap (λ used. half_kept used c.args.half) c.if-used.false)
