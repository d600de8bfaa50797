-- A number has at most 20 digits.
use Rattle.std.proofs.Common.{arith}
use Rattle.tape_text.proofs.Digits.{decimal_within}
use Rattle.esi.proofs.lines.put_number.Goals as goal

pub put_number-requires : goal.put_number-requires
put_number-requires c = omega (arith, decimal_within c.args.n)

pub returns : goal.returns
returns c = omega (arith, decimal_within c.args.n, c.put_number.ensures.end)
