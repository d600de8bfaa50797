-- `named_answer` meets its contract: at each return the rows tested before did not hold, and the last one did.
use mathlib.Core.Path.{sym, ◌∙◌}
use Rattle.days.specs.Window.{up_to}
use Rattle.premise_laws.proofs.FileOrders.{at_held}
use Rattle.premise_rows.proofs.NamedAnswers.{answer_foreign, answer_untaken, answer_not_above, answer_too_late, answer_accepted}
use Rattle.premise_rows.proofs.named_rows.named_answer.Goals as goal

pub returns-then-r-o : goal.returns-then-r-o
returns-then-r-o c =
    let a = c.args in
    answer_foreign (up_to a.last) a.r _ _ (at_held a.file.now a.i c.requires.1) c.if-r-o.true

pub returns-then-not-is_taken : goal.returns-then-not-is_taken
returns-then-not-is_taken c =
    let a = c.args in
    answer_untaken (up_to a.last) a.r _ _ (at_held a.file.now a.i c.requires.1) c.if-r-o.false
    (sym c.is_taken.ensures ∙ c.if-not-is_taken.true)

pub returns-then-r-o-2 : goal.returns-then-r-o-2
returns-then-r-o-2 c =
    let a = c.args in
    answer_not_above (up_to a.last) a.r _ _ (at_held a.file.now a.i c.requires.1) c.if-r-o.false
    (sym c.is_taken.ensures ∙ c.if-not-is_taken.false) c.if-r-o-2.true

pub returns-then-r-o-3 : goal.returns-then-r-o-3
returns-then-r-o-3 c =
    let a = c.args in
    answer_too_late (up_to a.last) a.r _ _ (at_held a.file.now a.i c.requires.1) c.if-r-o.false
    (sym c.is_taken.ensures ∙ c.if-not-is_taken.false) c.if-r-o-2.false c.if-r-o-3.true

pub returns : goal.returns
returns c =
    let a = c.args in
    answer_accepted (up_to a.last) a.r _ _ (at_held a.file.now a.i c.requires.1) c.if-r-o.false
    (sym c.is_taken.ensures ∙ c.if-not-is_taken.false) c.if-r-o-2.false c.if-r-o-3.false
