-- `count_digits` meets its contract: 0 has as many digits as 1.
use mathlib.Core.Path.{sym}
use native.Mathlib.Omega.{arith}
use Rattle.tape_text.proofs.Digits.{decimal_many}
use Rattle.tape_text.proofs.numbers.count_digits.Goals as goal

pub returns : goal.returns
returns c =
    sym (decimal_many c.ilog10.result c.args.n (omega arith) (omega arith) (omega arith))
