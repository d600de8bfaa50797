-- `put_waiting` meets its contract: the line is its letter and its four numbers.
use Rattle.waiting.specs.Output.{waiting_line}
use Rattle.waiting.proofs.Line.{line_fits}
use Rattle.waiting.proofs.put_waiting.Goals as goal

pub lettered-requires : goal.lettered-requires
unfolding waiting_line
lettered-requires c = line_fits c.args.w _ _ c.requires

pub returns-clause-puts : goal.returns-clause-puts
unfolding waiting_line
returns-clause-puts c = c.lettered.ensures.puts
