-- `day_fits` meets its contract: its tests joined are the cases of the status.
use Rattle.premise_kept.proofs.order.Fields.{day_fits_lem}
use Rattle.premise_kept.proofs.order.day_fits.Goals as goal

pub returns : goal.returns
returns c = day_fits_lem c.args.o.now
