-- `put_noted` meets its contract: the reader counts the record, and its line and those of its notices are put one after another.
use Rattle.tape_player.proofs.stretch_text.Telling.{line_room, notices_room, told}
use Rattle.tape_player.proofs.stretch_text.put_noted.Goals as goal

pub record-requires : goal.record-requires
record-requires c =
    line_room c.args.reader c.args.answer c.args.n c.args.notices.now _ _ c.requires.2 c.advanced-next.ensures

pub put_notices-requires : goal.put_notices-requires
put_notices-requires c = (
  c.requires.1,
  notices_room c.args.reader c.args.answer c.args.n c.args.notices.now _ _ c.requires.2 c.advanced-next.ensures c.record.ensures.puts,
)

pub returns-clause-puts : goal.returns-clause-puts
returns-clause-puts c =
    told c.args.reader c.args.answer c.args.n c.args.notices.now _ _ c.requires.2 c.advanced-next.ensures c.record.ensures.puts
    c.put_notices.ensures.puts
