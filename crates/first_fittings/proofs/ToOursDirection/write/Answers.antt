-- The turned record, and four zeros behind it.
use Rattle.std.proofs.Common.{ap, ◌∙◌, replicate, length, take, drop, ◌≡◌, arith, rules}
use lib.ListN.{length-drop}
use lib.Seq.{length-take-le}
use Rattle.first_fittings.proofs.Zeros.{zeros_behind}
use Rattle.first_fittings.proofs.ToOursDirection.write.Goals as goal

pub returns : goal.returns
returns c =
    let four : length (take 4 (drop 20 c.turn.new.buffer)) ≡ 4 =
    length-take-le 4 (drop 20 c.turn.new.buffer) (omega (arith, length-drop 20 c.turn.new.buffer, c.turn.auto.buffer, c.requires.1)) in
    zeros_behind c.args.bytes.now c.args.buffer.now c.turn.new.buffer c.fill.new.self (search rules) c.turn.ensures
    (c.fill.ensures.after (λ y e. e) ∙ ap (λ n. replicate n 0) four)
