-- `evaluate` meets its contract: a file that the evaluation leaves as it is, or its four passes, each on what the one before left.
use mathlib.Core.Path.{sym, ◌∙◌}
use Rattle.premise_laws.proofs.ChangesFile.{evaluated_still}
use Rattle.premise_notices.proofs.Then.{done_nothing}
use Rattle.premise_evaluation.proofs.passes.Evaluating.{same_day_ready, drops_ready, permits_ready, losses_ready, evaluate_done}
use Rattle.premise_evaluation.proofs.passes.evaluate.Goals as goal

pub run-requires-clause-room : goal.run-requires-clause-room
run-requires-clause-room c = (same_day_ready c.requires).1

pub run-requires-then-changes_file-clause-tidy : goal.run-requires-then-changes_file-clause-tidy
run-requires-then-changes_file-clause-tidy c = (drops_ready c.requires c.run.ensures).0

pub run-requires-then-changes_file-clause-room : goal.run-requires-then-changes_file-clause-room
run-requires-then-changes_file-clause-room c = (drops_ready c.requires c.run.ensures).1

pub run-requires-then-changes_file-2-clause-tidy : goal.run-requires-then-changes_file-2-clause-tidy
run-requires-then-changes_file-2-clause-tidy c = (permits_ready c.requires c.run.ensures c.run-then-changes_file.ensures).0

pub run-requires-then-changes_file-2-clause-room : goal.run-requires-then-changes_file-2-clause-room
run-requires-then-changes_file-2-clause-room c = (permits_ready c.requires c.run.ensures c.run-then-changes_file.ensures).1

pub run-requires-then-changes_file-3-clause-tidy : goal.run-requires-then-changes_file-3-clause-tidy
run-requires-then-changes_file-3-clause-tidy c =
    (losses_ready c.requires c.run.ensures c.run-then-changes_file.ensures c.run-then-changes_file-2.ensures).0

pub run-requires-then-changes_file-3-clause-room : goal.run-requires-then-changes_file-3-clause-room
run-requires-then-changes_file-3-clause-room c =
    (losses_ready c.requires c.run.ensures c.run-then-changes_file.ensures c.run-then-changes_file-2.ensures).1

pub returns-then-changes_file : goal.returns-then-changes_file
returns-then-changes_file c =
    evaluate_done c.requires c.run.ensures c.run-then-changes_file.ensures c.run-then-changes_file-2.ensures
    c.run-then-changes_file-3.ensures

pub returns-else-changes_file : goal.returns-else-changes_file
returns-else-changes_file c =
    let a = c.args in
    done_nothing a.file.now a.out.now
    (evaluated_still a.calendar.now a.today a.last a.file.now c.requires.window c.requires.tidy
    (sym c.changes_file.ensures ∙ c.if-changes_file.false))
