-- Record calls play a row as the one loop over its records does.
use Rattle.call_player.proofs.Stretches.{as_one_loop}
use Rattle.call_player.proofs.CallsPlayer.play.Goals as goal

pub returns : goal.returns
returns c =
    let a = c.args in
    as_one_loop a.calendar.now a.b a.tape.now a.answers.now a.counts.now a.notices.now c.requires.answers_in_bounds _ _ _ _
    c.calls_in_row.ensures
