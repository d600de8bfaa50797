-- `lettered` meets its contract: the letter, and the numbers behind it.
use Rattle.tape_text.specs.Numbers.{spaced}
use Rattle.tape_text.proofs.Puts.{room_then, puts_then}
use Rattle.tape_text.proofs.text.Text.lettered.Goals as goal

pub spaced-requires : goal.spaced-requires
spaced-requires c =
    room_then c.byte.ensures.puts (spaced c.args.numbers.now) c.requires

pub returns-clause-puts : goal.returns-clause-puts
returns-clause-puts c =
    puts_then c.byte.ensures.puts c.spaced.ensures.puts c.requires
