-- At the end all pieces of the tape are passed, and what is nearest of them is so of its records.
use Rattle.std.proofs.Common.{◌≤◌, sym, ap, ◌∙◌, length, arith}
use Rattle.std.specs.List.{fold}
use Rattle.std.proofs.lemmas.List.{take_all}
use Rattle.tape_agreement.proofs.Records.{nearer_step, nearest_pieces}
use Rattle.tape_agreement.proofs.premises.next_below.Goals as goal

pub returns : goal.returns
returns c =
    let a = c.args in
    let records = c.as_chunks.result.0.now in
    let end : length records ≤ c.loop-record.record-index = omega arith in
    c.loop-record.invariant
    ∙ ap (fold (nearer_step a.last) a.limit) (take_all c.loop-record.record-index records end ∙ c.as_chunks.ensures.front)
    ∙ sym (nearest_pieces a.last a.limit a.tape.now)
