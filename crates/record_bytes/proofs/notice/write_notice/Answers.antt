-- `write_notice` meets its contract: each field is put behind those in front of it.
use native.Mathlib.Omega.{arith}
use mathlib.Core.Path.{◌∙◌}
use borrow.Author.Rules.{rules}
use Rattle.record_bytes.proofs.notice.Puts.{put_notice}
use Rattle.record_bytes.proofs.notice.write_notice.Goals as goal

pub returns : goal.returns
returns c =
    let a = c.args in
    put_notice a.notice a.buffer.now _ _ _ _ (omega (arith, c.requires)) (search rules) (search rules)
    (c.copy_from_slice.ensures.after ∙ c.to_le_bytes.ensures) (c.copy_from_slice-2.ensures.after ∙ c.to_le_bytes-2.ensures)
    (c.copy_from_slice-3.ensures.after ∙ c.to_le_bytes-3.ensures) (c.copy_from_slice-4.ensures.after ∙ c.to_le_bytes-4.ensures)
