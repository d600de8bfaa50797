-- `record` meets its contract: the place, and the other two numbers behind it.
use mathlib.Core.List.{[], ◌∷◌}
use Rattle.tape_text.specs.Numbers.{decimal, spaced}
use Rattle.tape_text.specs.Text.{record_line}
use Rattle.tape_text.proofs.Puts.{room_first, room_then, puts_then}
use Rattle.tape_text.proofs.text.Text.record.Goals as goal

pub number-requires : goal.number-requires
unfolding record_line
number-requires c =
    room_first _ _ (decimal c.args.place) (spaced (c.args.answer ∷ c.args.n ∷ [])) c.requires

pub spaced-requires : goal.spaced-requires
unfolding record_line
spaced-requires c =
    room_then c.number.ensures.puts (spaced (c.args.answer ∷ c.args.n ∷ [])) c.requires

pub returns-clause-puts : goal.returns-clause-puts
unfolding record_line
returns-clause-puts c =
    puts_then c.number.ensures.puts c.spaced.ensures.puts c.requires
