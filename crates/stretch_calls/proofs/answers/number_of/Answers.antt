-- `number_of` meets its contract: each answer's number is the definition's.
use mathlib.Core.Path.{sym, ap}
use Rattle.stretch_rules.specs.Stretch.{number}
use Rattle.stretch_calls.proofs.answers.number_of.Goals as goal

pub returns-in-Taken : goal.returns-in-Taken
unfolding number
returns-in-Taken c = sym (ap number c.in-Taken.is)

pub returns-in-FewAnswers : goal.returns-in-FewAnswers
unfolding number
returns-in-FewAnswers c = sym (ap number c.in-FewAnswers.is)
