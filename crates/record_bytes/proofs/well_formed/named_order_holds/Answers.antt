-- `named_order_holds` meets its contract: in each arm the kind picks the case of `well_formed`, whose tests the arm has in its
-- order.
use native.Mathlib.Omega.{arith}
use mathlib.Core.Path.{◌≡◌, refl, sym, ◌∙◌}
use Rattle.records.specs.Records.{kind_scheduled, kind_read, kind_cancel, kind_reply}
use Rattle.records.proofs.ByKind.{formed_at, formed_undated}
use Rattle.record_bytes.proofs.well_formed.named_order_holds.Goals as goal
use Rattle.record_bytes.proofs.well_formed.named_order_holds.Goals.{in_default-via-then-kind-lt4, in_default-via-else-kind-lt4+else-kind-lt7}

pub returns-in-4 : goal.returns-in-4
returns-in-4 c = c.dated_holds.ensures ∙ sym (formed_at kind_scheduled _ c.in-4.is)

pub returns-in-7 : goal.returns-in-7
returns-in-7 c = c.dated_holds-in-7.ensures ∙ sym (formed_at kind_read _ c.in-7.is)

pub returns-in-8 : goal.returns-in-8
returns-in-8 c =
    rw (formed_at kind_cancel c.args.fields c.in-8.is, c.is_retailer.ensures) refl

pub returns-in-5-to-6 : goal.returns-in-5-to-6
returns-in-5-to-6 c = sym (formed_undated _ (omega arith) (omega arith))

pub returns-in_default : goal.returns-in_default
returns-in_default c =
    let fields = c.args.fields in
    let last : fields.kind ≡ kind_reply =
    elim c.in_default.branch [ in_default-via-then-kind-lt4 w ↦ omega arith | in_default-via-else-kind-lt4+else-kind-lt7 w ↦ omega arith ] in
    rw (formed_at kind_reply fields last) refl
