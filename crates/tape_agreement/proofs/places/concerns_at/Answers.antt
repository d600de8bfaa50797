-- `tape_agreement::places::concerns_at` meets its contract: by its kind and its premise a record is read or not.
use mathlib.Core.Path.{refl, sym, ◌∙◌}
use native.Mathlib.Omega.{arith}
use Rattle.tape_agreement.specs.Walks.{record_at}
use Rattle.tape_agreement.proofs.Readings.{kind_at, premise_at, lent_said, concerns_mark, concerns_own, concerns_no_other}
use Rattle.tape_agreement.proofs.places.concerns_at.Goals as goal

pub returns-then-tape-at-eq-DAY_MARK : goal.returns-then-tape-at-eq-DAY_MARK
returns-then-tape-at-eq-DAY_MARK c =
    let a = c.args in
    c.is_formed.ensures ∙ lent_said a.tape.now a.at _ refl
    ∙ sym (concerns_mark (record_at a.tape.now a.at) a.premise (kind_at a.tape.now a.at (omega arith) ∙ c.if-tape-at-eq-DAY_MARK.true))

pub returns-then-eight-premise : goal.returns-then-eight-premise
returns-then-eight-premise c =
    let a = c.args in
    c.is_formed-then-eight-premise.ensures ∙ lent_said a.tape.now a.at _ refl
    ∙ sym (concerns_own (record_at a.tape.now a.at) a.premise
    (premise_at a.tape.now a.at ∙ sym c.eight.ensures ∙ c.if-eight-premise.true))

pub returns : goal.returns
returns c =
    let a = c.args in
    sym (concerns_no_other (record_at a.tape.now a.at) a.premise
    (λ mark. c.if-tape-at-eq-DAY_MARK.false (sym (kind_at a.tape.now a.at (omega arith)) ∙ mark))
    (λ own. c.if-eight-premise.false (c.eight.ensures ∙ sym (premise_at a.tape.now a.at) ∙ own)))
