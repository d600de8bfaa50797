-- The tape can be played on, in buffers of the same lengths. The measure is the records left.
use Rattle.std.proofs.Common.{◌-◌}
use Rattle.tape_reader.specs.Counts.{most_records}
use Rattle.tape_io.proofs.playing.Stretches.{Between}
use Rattle.tape_io.proofs.playing.play_in.Given as goal

abbrev pub invariant-loop-p : goal.invariant-loop-p
invariant-loop-p g l =
    Between l.records (record { answers = l.answers; counts = l.counts; notices = l.notices; out = l.out }) l.p

abbrev pub decreases-loop-p : goal.decreases-loop-p
decreases-loop-p g l = most_records - l.p.reader.place
