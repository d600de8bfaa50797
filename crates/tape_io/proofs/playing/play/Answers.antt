-- `play`: calendar and tape are cut to what counts of them.
use mathlib.Core.Path.{ap}
use native.Mathlib.Omega.{arith}
use lib.ListN.{length, length-take}
use Rattle.tape_output.specs.Output.{calendar_most, tape_most}
use Rattle.tape_io.proofs.playing.play.Goals as goal

pub play_in-requires-clause-calendar_len_bound : goal.play_in-requires-clause-calendar_len_bound
play_in-requires-clause-calendar_len_bound g c =
    omega (arith, ap length c.days_read-days.ensures, length-take calendar_most c.args.calendar.now)

pub play_in-requires-clause-tape_len_bound : goal.play_in-requires-clause-tape_len_bound
play_in-requires-clause-tape_len_bound g c =
    omega (arith, ap length c.bytes_played-records.ensures, length-take tape_most c.args.tape.now)
