-- `send` meets its contract: one notice, written to the part of the buffer from where the others end.
use mathlib.Core.Path.{refl}
use Rattle.premise_laws.proofs.Writes.{writes_one}
use Rattle.premise_notices.proofs.outbox.Outbox.send.Goals as goal

pub returns : goal.returns
returns c =
    let out = c.args.self.now in
    record {
      same_buffer = refl;
      wrote = writes_one out.sent c.args.notice out.buffer.now c.write_notice.new.buffer c.requires c.write_notice.ensures;
    }
