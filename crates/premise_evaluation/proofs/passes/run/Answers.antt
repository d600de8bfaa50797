use Rattle.premise_notices.proofs.PassTurns.{sofar_room, sofar_turn, sofar_all}
use Rattle.premise_evaluation.proofs.passes.run.Goals as goal

pub change-requires : goal.change-requires
change-requires g c = record { tidy = c.requires.tidy; room = sofar_room c.loop-i.invariant c.loop-i-test.true }

pub loop-i-preserved : goal.loop-i-preserved
loop-i-preserved g c = sofar_turn c.loop-i.invariant c.loop-i-test.true c.change.result c.change.ensures

pub returns : goal.returns
returns g c = sofar_all c.loop-i.invariant c.loop-i-test.false
