-- `say` is safe, and its line stands within the text: the longest of 12 numbers fits the bytes kept free for it.
use native.Mathlib.Omega.{arith}
use Rattle.tape_text.proofs.Lengths.{any_lettered}
use Rattle.call_bytes.proofs.lines.Lines.say.Goals as goal

pub put_lettered-self-requires : goal.put_lettered-self-requires
put_lettered-self-requires g c =
    let a = c.args in
    omega (arith, any_lettered a.letter a.numbers.now, c.make_room.ensures)
