-- `play_on` meets its contract: the records of the stretch are played, their text is put, and it closes.
use Rattle.std.proofs.Common.{rules}
use Rattle.tape_player.proofs.Played.{play_asks, printable, close_asks, stretch_plays}
use Rattle.tape_player.proofs.player.play_on.Goals as goal

pub play-course-requires-clause-book_kept : goal.play-course-requires-clause-book_kept
play-course-requires-clause-book_kept g c =
    let a = c.args in
    (play_asks a.calendar.now a.tape.now a.p a.answers.now a.counts.now a.notices.now a.out.now c.requires).0

pub put_stretch-reader-requires-clause-printable : goal.put_stretch-reader-requires-clause-printable
put_stretch-reader-requires-clause-printable g c =
    let a = c.args in
    rw (c.new-text.ensures.at_start, c.new-text.ensures.bytes)
    (printable a.calendar.now a.tape.now a.p a.answers.now a.counts.now a.notices.now a.out.now c.requires
    _ c.min-from.ensures c.play-course.result _ _ _ c.play-course.ensures)

pub close-done-requires : goal.close-done-requires
close-done-requires g c =
    let a = c.args in
    let put = rw (c.new-text.ensures.at_start, c.new-text.ensures.bytes) at c.put_stretch-reader.ensures.puts in
    close_asks a.calendar.now a.tape.now a.p a.answers.now a.counts.now a.notices.now a.out.now c.requires
    _ c.min-from.ensures c.play-course.result _ _ _ c.play-course.ensures _ _ _ (c.put_stretch-reader.ensures.reader_value, put)

pub returns : goal.returns
returns g c =
    let a = c.args in
    let put = rw (c.new-text.ensures.at_start, c.new-text.ensures.bytes) at c.put_stretch-reader.ensures.puts in
    let plays = stretch_plays a.calendar.now a.tape.now a.p a.answers.now a.counts.now a.notices.now a.out.now c.requires
    _ c.min-from.ensures c.play-course.result _ _ _ c.play-course.ensures _ _ _ (c.put_stretch-reader.ensures.reader_value, put)
    c.close-done.ensures.plays in
    search (rules, plays)
