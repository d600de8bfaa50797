use native.Mathlib.Omega.{arith}
use Rattle.std.proofs.Common.{◌∙◌}
use Rattle.tape_text.proofs.number_lines.Lined.{lined_room, lined_number, lined_more, lined_inside, lined_all}
use Rattle.tape_text.proofs.text.Text.spaced.Goals as goal

pub byte-requires : goal.byte-requires
byte-requires c =
    omega (arith, lined_room c.loop-n.invariant.lined c.requires (omega arith))

pub number-requires : goal.number-requires
number-requires c =
    lined_number c.loop-n.invariant.lined c.requires (omega arith) c.byte.ensures.puts

pub loop-n-preserved : goal.loop-n-preserved
loop-n-preserved c = record {
  lined = lined_more c.loop-n.invariant.lined c.requires (omega arith) c.byte.ensures.puts c.number.ensures.puts;
  same_buffer = c.number.ensures.same_buffer ∙ c.byte.ensures.same_buffer ∙ c.loop-n.invariant.same_buffer;
}

pub byte-requires-2 : goal.byte-requires-2
byte-requires-2 c =
    lined_inside c.loop-n.invariant.lined c.requires (omega arith)

pub returns-clause-puts : goal.returns-clause-puts
returns-clause-puts c =
    lined_all c.loop-n.invariant.lined c.requires (omega arith) c.byte-2.ensures.puts
