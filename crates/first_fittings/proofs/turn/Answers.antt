use native.Mathlib.Omega.{arith}
use Rattle.first_fittings.proofs.Turns.{turning_start, turning_more, turning_end}
use Rattle.first_fittings.proofs.turn.Goals as goal

pub loop-i-init : goal.loop-i-init
loop-i-init c = turning_start _ _

pub loop-i-preserved : goal.loop-i-preserved
loop-i-preserved c =
    let a = c.args in
    turning_more a.bytes.now a.buffer.now c.requires.0 c.requires.1
    c.loop-i.buffer c.loop-i.i c.loop-i.invariant (omega arith)

pub returns : goal.returns
returns c =
    let a = c.args in
    turning_end a.bytes.now a.buffer.now c.requires.0 c.requires.1
    c.loop-i.buffer c.loop-i.i c.loop-i.invariant (omega arith)
