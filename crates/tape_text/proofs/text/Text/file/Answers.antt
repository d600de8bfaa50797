-- `file` meets its contract: the line is its letter and its three numbers.
use Rattle.tape_text.specs.Text.{file_line}
use Rattle.tape_text.proofs.text.Text.file.Goals as goal

pub lettered-requires : goal.lettered-requires
unfolding file_line
lettered-requires c = c.requires

pub returns-clause-puts : goal.returns-clause-puts
unfolding file_line
returns-clause-puts c = c.lettered.ensures.puts
