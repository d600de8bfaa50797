-- `close` meets its contract: a record is left, the end finds no room, or it is put.
use Rattle.tape_player.proofs.ending.Closing.{closes_before, closes_short, closes_all}
use Rattle.tape_player.proofs.ending.close.Goals as goal
use Rattle.tape_player.proofs.ending.close.Goals.{then-p-tape-via-then-p-tape, then-p-tape-via-else-p-tape+then-text-lt-MOST_ENDING}

pub returns-then-p-tape-clause-plays : goal.returns-then-p-tape-clause-plays
returns-then-p-tape-clause-plays c =
    elim c.then-p-tape.branch [
      | then-p-tape-via-then-p-tape w ↦ closes_before _ _ _ _ c.requires.1 w.if-p-tape.true
      | then-p-tape-via-else-p-tape+then-text-lt-MOST_ENDING w ↦
          closes_short _ _ _ _ w.if-p-tape.false w.if-text-lt-MOST_ENDING.true
    ]

pub returns-clause-plays : goal.returns-clause-plays
returns-clause-plays c =
    closes_all _ _ _ _ c.if-p-tape.false c.if-text-lt-MOST_ENDING.false c.put_ending.ensures.puts
