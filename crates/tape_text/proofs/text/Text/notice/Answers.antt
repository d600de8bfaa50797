-- `notice` meets its contract: the line is its letter and the six fields that `read_notice` promises.
use mathlib.Core.Path.{ap}
use Rattle.tape_text.specs.Text.{notice_line}
use Rattle.tape_text.proofs.Puts.{room_as, puts_as}
use Rattle.tape_text.proofs.text.Text.notice.Goals as goal

pub lettered-requires : goal.lettered-requires
unfolding notice_line
lettered-requires c =
    room_as _ _ (ap notice_line c.read_notice-notice.ensures) c.requires.bytes_in_bounds

pub returns-clause-puts : goal.returns-clause-puts
unfolding notice_line
returns-clause-puts c =
    puts_as (ap notice_line c.read_notice-notice.ensures) c.lettered.ensures.puts
