-- `tape_agreement::premises::next_premise` meets its contract: what our tape names is the limit for theirs.
use mathlib.Core.Path.{ap, ◌∙◌}
use Rattle.tape_agreement_rules.specs.Agreement.{records_in}
use Rattle.tape_agreement.specs.Walks.{nearest}
use Rattle.tape_agreement.proofs.premises.next_premise.Goals as goal

pub returns : goal.returns
returns c =
    let a = c.args in
    c.next_below-2.ensures ∙ ap (λ limit. nearest a.last limit (records_in a.theirs.now)) c.next_below.ensures
