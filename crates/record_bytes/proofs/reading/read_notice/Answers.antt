-- `read_notice` meets its contract: the fields of the first 24 bytes are those of all the bytes.
use mathlib.Core.Path.{sym, ◌∙◌, ap}
use native.Mathlib.Omega.{arith}
use lib.Seq.{length-take-le}
use Rattle.records.specs.declared.Record.{Record}
use Rattle.records.specs.Layout.{record_length, kind_field, detail_field, day_field, reference_field, premise_field, retailer_field}
use Rattle.records.specs.Notices.{decode}
use Rattle.records.proofs.Decode.{field_of_first}
use Rattle.record_bytes.proofs.reading.read_notice.Goals as goal

pub slice_bounds-fields_of-end : goal.slice_bounds-fields_of-end
slice_bounds-fields_of-end c = sym (length-take-le record_length c.args.bytes.now (omega arith))

pub fields_of-fields-requires : goal.fields_of-fields-requires
fields_of-fields-requires c = length-take-le record_length c.args.bytes.now (omega arith)

pub returns : goal.returns
unfolding decode
returns c =
    let bytes = c.args.bytes.now in
    let read = c.fields_of-fields.ensures in
    λ i. record {
      code = (ap (λ (r : Record). r.kind) read ∙ field_of_first kind_field record_length bytes (omega arith)) i;
      kind = (ap (λ (r : Record). r.detail) read ∙ field_of_first detail_field record_length bytes (omega arith)) i;
      day = (ap (λ (r : Record). r.day) read ∙ field_of_first day_field record_length bytes (omega arith)) i;
      reference = (ap (λ (r : Record). r.reference) read ∙ field_of_first reference_field record_length bytes (omega arith)) i;
      premise = (ap (λ (r : Record). r.premise) read ∙ field_of_first premise_field record_length bytes (omega arith)) i;
      addressee = (ap (λ (r : Record). r.retailer) read ∙ field_of_first retailer_field record_length bytes (omega arith)) i;
    }
