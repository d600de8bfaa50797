-- `read_record` meets its contract: the length and the test of the fields pick the case of `reading`.
use native.Mathlib.Omega.{arith}
use Prim.Native.Nat.{ℕ}
use mathlib.Core.Path.{◌≡◌, refl, sym, ap, ap₂, ◌∙◌}
use mathlib.Core.List.{List}
use mathlib.Core.Bool.{Bool, true, false}
use lib.ListN.{length}
use Rattle.std.specs.Bool.{then_some}
use Rattle.records.specs.declared.Record.{Record}
use Rattle.records.specs.Layout.{record_length}
use Rattle.records.specs.Records.{well_formed, fields_of, reading}
use Rattle.records.proofs.Readings.{reading-length, reading_unformed, reading_says}
use Rattle.record_bytes.proofs.reading.read_record.Goals as goal

some_formed : (bytes : List ℕ) → length bytes ≡ record_length → (formed : Bool) → well_formed (fields_of bytes) ≡ formed
    → then_some formed (fields_of bytes) ≡ reading bytes
some_formed bytes long true formed = sym (reading_says bytes long formed)
some_formed bytes long false formed = sym (reading_unformed bytes formed)

pub returns-then-bytes-ne-RECORD_LENGTH : goal.returns-then-bytes-ne-RECORD_LENGTH
returns-then-bytes-ne-RECORD_LENGTH c = sym (reading-length c.args.bytes.now (omega arith))

pub returns : goal.returns
returns c =
    let bytes = c.args.bytes.now in
    c.then_some.ensures
    ∙ ap₂ then_some c.well_formed-2.ensures refl
    ∙ ap (λ (r : Record). then_some (well_formed r) r) c.fields_of-record.ensures
    ∙ some_formed bytes (omega arith) (well_formed (fields_of bytes)) refl
