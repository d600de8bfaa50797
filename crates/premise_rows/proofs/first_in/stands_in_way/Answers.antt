-- `stands_in_way` meets its contract: only a Scheduled order does, by the table or by the rule on standard switches.
use Rattle.premise_rows.proofs.first_in.InWay.{not_scheduled, stands_scheduled}
use Rattle.premise_rows.proofs.first_in.stands_in_way.Goals as goal

pub returns-then-o-ne-SCHEDULED : goal.returns-then-o-ne-SCHEDULED
returns-then-o-ne-SCHEDULED c =
    let a = c.args in
    not_scheduled a.o a.new a.requested c.if-o-ne-SCHEDULED.true

pub returns : goal.returns
returns c =
    let a = c.args in
    stands_scheduled a.o a.new a.requested c.if-o-ne-SCHEDULED.false c.is_refused.result c.is_refused.ensures
