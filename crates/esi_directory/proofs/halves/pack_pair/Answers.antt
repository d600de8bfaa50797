-- `esi_directory::halves::pack_pair` meets its contract: a half shifted by four bits and another beside it.
use native.Mathlib.Omega.{arith}
use lib.Bits.{bit_or, or_shifted}
use mathlib.Core.Path.{◌≡◌, ap, ◌∙◌}
use Prim.Native.Nat.{◌*◌, ◌%◌}
use Rattle.esi_directory.proofs.halves.pack_pair.Goals as goal

pub returns : goal.returns
returns c =
    let e : c.args.first * 16 % 256 ≡ c.args.first * 16 = omega arith in
    ap (λ n. bit_or n c.args.second) e ∙ or_shifted c.args.first 4 c.args.second (omega arith) ∙ omega arith
