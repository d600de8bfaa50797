-- `order_kept` meets its contract: its tests are those of the definition, in its order.
use Rattle.premise_kept.proofs.order.Fields.{fields_kept_lem}
use Rattle.premise_kept.proofs.order.order_kept.Goals as goal

pub returns : goal.returns
returns c =
    fields_kept_lem c.args.o.now _ _ c.day_fits.ensures c.pending_fits.ensures
