-- `nearer` meets its contract: by its premise and its kind a record is read or not.
use Rattle.std.proofs.Common.{◌≡◌, sym, ap, ◌∙◌, arith}
use Rattle.records.specs.Records.{reading}
use Rattle.tape_agreement.specs.Walks.{nearer}
use Rattle.tape_agreement.proofs.Readings.{kind_of, premise_of, lies_between, nearer_apart, nearer_mark, nearer_malformed, nearer_named}
use Rattle.tape_agreement.proofs.record.nearer.Goals as goal
use Rattle.tape_agreement.proofs.record.nearer.Goals.{else-last-premise-via-then-last-premise+then-bytes-ne-DAY_MARK+else-is_formed, else-last-premise-via-then-last-premise+else-bytes-ne-DAY_MARK, else-last-premise-via-else-last-premise}

pub returns-then-is_formed : goal.returns-then-is_formed
returns-then-is_formed c =
    let bytes = c.args.bytes.now in
    let read = c.eight-premise.ensures ∙ sym (premise_of bytes) in
    read
    ∙ sym (nearer_named bytes c.args.last c.args.nearest
    (sym (ap (lies_between bytes c.args.last c.args.nearest) read) ∙ c.if-last-premise.true)
    (λ mark. c.if-bytes-ne-DAY_MARK.true (sym (kind_of bytes (omega arith)) ∙ mark)) (sym c.is_formed.ensures ∙ c.if-is_formed.true))

pub returns : goal.returns
returns c =
    let bytes = c.args.bytes.now in
    let last = c.args.last in
    let nearest = c.args.nearest in
    let read = c.eight-premise.ensures ∙ sym (premise_of bytes) in
    let stays : nearer last nearest (reading bytes) ≡ nearest =
    elim c.else-last-premise.branch [
      | else-last-premise-via-then-last-premise+then-bytes-ne-DAY_MARK+else-is_formed w ↦
          nearer_malformed bytes last nearest (sym w.is_formed.ensures ∙ w.if-is_formed.false)
      | else-last-premise-via-then-last-premise+else-bytes-ne-DAY_MARK w ↦
          nearer_mark bytes last nearest (kind_of bytes (omega arith) ∙ w.if-bytes-ne-DAY_MARK.false)
      | else-last-premise-via-else-last-premise w ↦
          nearer_apart bytes last nearest (sym (ap (lies_between bytes last nearest) read) ∙ w.if-last-premise.false)
    ] in
    sym stays
