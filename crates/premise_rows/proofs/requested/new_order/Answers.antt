-- `new_order` meets its contract: the requested day is the one that is asked for, and the wait the one that begins.
use Rattle.premise_rows.proofs.requested.Starts.{started}
use Rattle.premise_rows.proofs.requested.new_order.Goals as goal

pub returns : goal.returns
returns c =
    let a = c.args in
    started a.calendar.now a.today a.r a.requested c.requires _ c.wait_begun-waited.ensures
