-- `well_formed` meets its contract: in each arm the kind picks the case of `well_formed`, whose tests the arm has in its order; a
-- new order's day is tested by `order_day_holds`, the kinds that name an order by `named_order_holds`; there is no kind below or past them.
use native.Mathlib.Omega.{arith}
use mathlib.Core.Path.{refl, sym}
use Rattle.records.specs.Records.{kind_create, kind_retire, kind_new_order, kind_day_mark, kind_date_change, kind_agreement}
use Rattle.records.proofs.ByKind.{formed_at, formed_past}
use Rattle.record_bytes.proofs.well_formed.well_formed.Goals as goal

pub returns-in-1 : goal.returns-in-1
returns-in-1 c = sym (formed_at kind_create _ c.in-1.is)

pub returns-in-2 : goal.returns-in-2
returns-in-2 c = sym (formed_at kind_retire _ c.in-2.is)

pub returns-in-3 : goal.returns-in-3
returns-in-3 c =
    rw (formed_at kind_new_order c.args.fields c.in-3.is, c.order_day_holds.ensures, c.is_retailer.ensures) refl

pub returns-in-10 : goal.returns-in-10
returns-in-10 c =
    rw (formed_at kind_day_mark c.args.fields c.in-10.is) refl

pub returns-in-11 : goal.returns-in-11
returns-in-11 c = sym (formed_at kind_date_change _ c.in-11.is)

pub returns-in-12 : goal.returns-in-12
returns-in-12 c = rw c.is_retailer-in-12.ensures (sym (formed_at kind_agreement _ (omega arith)))

pub returns-in_default : goal.returns-in_default
returns-in_default c = sym (formed_at 0 _ (omega arith))

pub returns-in_default-2 : goal.returns-in_default-2
returns-in_default-2 c = sym (formed_past _ (omega arith))
