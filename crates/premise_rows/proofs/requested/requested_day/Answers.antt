-- `requested_day` meets its contract: whether the order is a standard switch picks the case of `requested_day`.
use borrow.Author.Tests.{eq-eqb, ne_eqb}
use Rattle.records.specs.Records.{standard_switch}
use Rattle.premise.specs.Steps.{requested_day}
use Rattle.premise_rows.proofs.requested.requested_day.Goals as goal

pub returns-then-r-eq-STANDARD_SWITCH : goal.returns-then-r-eq-STANDARD_SWITCH
unfolding requested_day
returns-then-r-eq-STANDARD_SWITCH c =
    let a = c.args in
    simp (eq-eqb a.r.detail standard_switch c.if-r-eq-STANDARD_SWITCH.true) c.switch_date.ensures

pub returns : goal.returns
unfolding requested_day
returns c =
    let a = c.args in
    simp (ne_eqb a.r.detail standard_switch c.if-r-eq-STANDARD_SWITCH.false)
