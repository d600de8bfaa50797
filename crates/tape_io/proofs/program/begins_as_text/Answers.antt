use Rattle.std.proofs.Common.{rules}
use Rattle.tape_io.specs.Advice.{begins_as_text}
use Rattle.tape_io.proofs.program.begins_as_text.Goals as goal

pub returns-then-tape-lt4 : goal.returns-then-tape-lt4
unfolding begins_as_text
returns-then-tape-lt4 c = search rules

pub returns : goal.returns
unfolding begins_as_text
returns c = search rules
