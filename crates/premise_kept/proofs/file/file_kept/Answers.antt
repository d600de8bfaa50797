use mathlib.Core.Path.{◌≡◌, refl, sym, ap, ◌∙◌}
use mathlib.Core.Bool.{not, true}
use Prim.Native.Nat.{◌≤◌}
use native.Mathlib.Omega.{arith}
use lib.ListN.{length}
use Rattle.lists.proofs.Length.{unmapped}
use Rattle.premise.specs.WellKept.{distinct}
use Rattle.premise_kept.proofs.file.Turns.{order_not_kept, counted_fits, order_passes, all_kept, all_counted, all_rising}
use Rattle.premise_kept.proofs.file.Whole.{head_few, no_head, no_orders, no_references, decides}
use Rattle.premise_kept.proofs.file.file_kept.Goals.{else-not-rising-via-then-not-rising+else-not-are_distinct, else-not-rising-via-else-not-rising}
use Rattle.premise_kept.proofs.file.file_kept.Goals as goal

pub returns-then-not-file : goal.returns-then-not-file
returns-then-not-file c = no_head c.args.file.now (ap not c.if-not-file.true)

pub loop-o-init : goal.loop-o-init
loop-o-init c = record { orders = refl; rises = refl; counted = omega arith }

pub returns-then-not-order_kept : goal.returns-then-not-order_kept
returns-then-not-order_kept c =
    no_orders c.args.file.now c.split_at.ensures.front c.split_at.ensures.back
    (order_not_kept c.loop-o.invariant (omega arith) (sym c.order_kept.ensures ∙ c.if-not-order_kept.true))

pub overflow_add-waiting : goal.overflow_add-waiting
overflow_add-waiting c =
    let few = head_few c.args.file.now (ap not c.if-not-file.false) in
    let h = counted_fits c.loop-o.invariant (omega arith) c.place_value-waiting.ensures (omega (arith, c.split_at.ensures.front_len)) in
    omega arith

pub loop-o-preserved : goal.loop-o-preserved
loop-o-preserved c =
    order_passes c.loop-o.invariant (omega arith) c.place_value-waiting.ensures (sym c.order_kept.ensures ∙ c.if-not-order_kept.false)

pub returns-then-not-are_distinct : goal.returns-then-not-are_distinct
returns-then-not-are_distinct c =
    no_references c.args.file.now c.split_at.ensures.front c.split_at.ensures.back
    (sym c.are_distinct.ensures ∙ c.if-not-are_distinct.true)

pub returns : goal.returns
returns c =
    let e : length c.args.file.now.orders ≡ 8 = search unmapped in
    let end : length c.split_at.result.0.now ≤ c.loop-o.o-index = omega arith in
    let kept = all_kept c.loop-o.invariant end in
    let d : distinct c.split_at.result.0.now ≡ true =
    elim c.else-not-rising.branch [
      | else-not-rising-via-then-not-rising+else-not-are_distinct w ↦ sym w.are_distinct.ensures ∙ w.if-not-are_distinct.false
      | else-not-rising-via-else-not-rising w ↦ all_rising c.loop-o.invariant end w.if-not-rising.false
    ] in
    c.then_some.ensures
    ∙ decides c.args.file.now c.split_at.ensures.front c.split_at.ensures.back e (ap not c.if-not-file.false) kept d _ c.are_blank.ensures
    (all_counted c.loop-o.invariant end)
