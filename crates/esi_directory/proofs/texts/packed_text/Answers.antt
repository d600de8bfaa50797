use Prim.Native.Nat.{ℕ, ◌-◌}
use mathlib.Core.Path.{◌≡◌, refl, sym, ap₂, ◌∙◌}
use native.Mathlib.Omega.{arith}
use lib.ListN.{length-map}
use Rattle.lists.proofs.Over.{over_start}
use Rattle.esi_rules.specs.Packed.{pair}
use Rattle.esi_rules.specs.Directory.{id_width}
use Rattle.esi_rules.specs.LookUp.{digits_of}
use Rattle.esi_rules.specs.Keys.{key_bytes}
use Rattle.esi_rules.proofs.TextLaws.{text_id, zeros, packed_turn, packed_last}
use Rattle.esi_directory.proofs.texts.packed_text.Goals as goal

pub loop-place-init : goal.loop-place-init
loop-place-init c = sym (over_start 0 (key_bytes (digits_of c.args.text.now)) zeros 0 refl)

pub loop-place-preserved : goal.loop-place-preserved
loop-place-preserved c =
    packed_turn (digits_of c.args.text.now) (text_id c.args.text.now c.requires) c.loop-place.place (omega arith) c.loop-place.invariant _
    (c.pack_pair.ensures ∙ ap₂ pair c.half_at.ensures.0 c.half_at-in-loop-place.ensures.0)

pub overflow_cast-bytes : goal.overflow_cast-bytes
overflow_cast-bytes c =
    omega (arith, (text_id c.args.text.now c.requires).most, length-map c.args.text.now (λ (byte : ℕ). byte - 48))

pub returns : goal.returns
returns c =
    let all : c.loop-place.place ≡ id_width = omega arith in
    packed_last (digits_of c.args.text.now) (text_id c.args.text.now c.requires) (rw all at c.loop-place.invariant) _
    (sym (length-map c.args.text.now (λ (byte : ℕ). byte - 48)))
