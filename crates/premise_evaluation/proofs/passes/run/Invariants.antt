-- `run` meets its contract. The loop's invariant: the orders before the one reached are done, their notices sent.
use Rattle.premise_notices.proofs.PassTurns.{Sofar}
use Rattle.premise_evaluation.proofs.passes.run.Given as goal

abbrev pub invariant-loop-i : goal.invariant-loop-i
invariant-loop-i g l = Sofar (g.P.Pass.step l.which l.before) l.before l.initial.out l.i l.file l.out
