-- `total` meets its contract: the line is its letter and its two numbers.
use Rattle.tape_text.specs.Text.{total_line}
use Rattle.tape_text.proofs.text.Text.total.Goals as goal

pub lettered-requires : goal.lettered-requires
unfolding total_line
lettered-requires c = c.requires

pub returns-clause-puts : goal.returns-clause-puts
unfolding total_line
returns-clause-puts c = c.lettered.ensures.puts
