-- The first bytes are those of the packed digits, the others zeros.
use Rattle.std.proofs.Common.{◌≡◌}
use Rattle.lists.proofs.Over.{over}
use Rattle.esi_rules.specs.LookUp.{digits_of}
use Rattle.esi_rules.specs.Keys.{key_bytes}
use Rattle.esi_rules.proofs.TextLaws.{zeros}
use Rattle.esi_directory.proofs.texts.packed_text.Given as goal

abbrev pub invariant-loop-place : goal.invariant-loop-place
invariant-loop-place l = l.bytes ≡ over l.place (key_bytes (digits_of l.text)) zeros
