-- `append` meets its contract: the first unused place takes the order, by the law `pushed`.
use Rattle.premise_file.proofs.stack.Places.{pushed}
use Rattle.premise_file.proofs.stack.append.Goals as goal

pub returns : goal.returns
returns c = pushed c.args.file.now c.requires.0 c.args.order c.requires.1
