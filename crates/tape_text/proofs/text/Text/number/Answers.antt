use native.Mathlib.Omega.{arith}
use Rattle.tape_text.proofs.numbers.Filled.{filled_before, filled_inside, filled_long, filled_short, filled_more, filled_all}
use Rattle.tape_text.proofs.text.Text.number.Goals as goal

pub loop-place-preserved : goal.loop-place-preserved
loop-place-preserved c =
    let v = c.loop-place.invariant in record {
      filled = filled_more v.filled c.requires (filled_long v.filled c.requires (omega arith)) (omega arith);
      same_buffer = v.same_buffer;
      same_at = v.same_at;
    }

pub overflow_cast-self-2 : goal.overflow_cast-self-2
overflow_cast-self-2 c =
    omega (arith, filled_short c.loop-place.invariant.filled c.requires (omega arith) (omega arith))

pub overflow_add-self-2 : goal.overflow_add-self-2
overflow_add-self-2 c =
    omega (arith, filled_short c.loop-place.invariant.filled c.requires (omega arith) (omega arith))

pub bounds-self-self : goal.bounds-self-self
bounds-self-self c =
    let v = c.loop-place.invariant in
    omega (arith, v.same_at, filled_before v.filled c.requires, filled_inside v.filled c.requires)

pub returns-clause-puts : goal.returns-clause-puts
returns-clause-puts c =
    let v = c.loop-place.invariant in
    rw v.same_at (filled_all v.filled c.requires (filled_short v.filled c.requires (omega arith) (omega arith)))
