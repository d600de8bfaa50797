-- `esi_directory::texts::half_at` meets its contract: inside the text stands a digit, behind it none.
use mathlib.Core.Path.{sym}
use native.Mathlib.Omega.{arith}
use Rattle.esi_rules.proofs.TextLaws.{ascii_at, half_digit, half_none}
use Rattle.esi_directory.proofs.texts.half_at.Goals as goal

pub overflow_sub-result : goal.overflow_sub-result
overflow_sub-result c =
    (ascii_at c.args.text.now c.args.place c.if-place-text.true c.requires).from

pub returns-then-place-text : goal.returns-then-place-text
returns-then-place-text c =
    let digit = ascii_at c.args.text.now c.args.place c.if-place-text.true c.requires in
    (sym (half_digit c.args.text.now c.args.place c.if-place-text.true), omega arith)

pub returns-else-place-text : goal.returns-else-place-text
returns-else-place-text c = (sym (half_none c.args.text.now c.args.place c.if-place-text.false), omega arith)
