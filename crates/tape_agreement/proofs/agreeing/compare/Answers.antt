use mathlib.Core.Path.{sym, ap, subst, ◌∙◌}
use native.Mathlib.Omega.{arith}
use Rattle.records.proofs.Fields.{bytes_each}
use Rattle.tape_agreement_rules.specs.declared.Agreement.TheVariants.{Differ}
use Rattle.tape_agreement.proofs.UpTo.{UpTo, same_at, none_asked, marks_differ, next_above, next_differs, next_agrees}
use Rattle.tape_agreement.proofs.UpTo.{all_agree}
use Rattle.tape_agreement.proofs.agreeing.compare.Goals as goal

pub returns-then-not-same_own : goal.returns-then-not-same_own
returns-then-not-same_own c =
    let a = c.args in
    let u = bytes_each a.ours.now (λ i. omega (arith, c.shared_slice_known-1.given i)) in
    let v = bytes_each a.theirs.now (λ i. omega (arith, c.shared_slice_known-2-1.given i)) in
    marks_differ a.ours.now a.theirs.now u v (sym c.same_own.ensures ∙ c.if-not-same_own.true)

pub loop-last-init : goal.loop-last-init
loop-last-init c =
    let a = c.args in
    none_asked a.ours.now a.theirs.now (sym c.same_own.ensures ∙ c.if-not-same_own.false)

pub returns-then-not-same_own-2 : goal.returns-then-not-same_own-2
returns-then-not-same_own-2 c =
    let a = c.args in
    let u = bytes_each a.ours.now (λ i. omega (arith, c.shared_slice_known-1.given i)) in
    let v = bytes_each a.theirs.now (λ i. omega (arith, c.shared_slice_known-2-1.given i)) in
    let is = c.next_premise-last.ensures in
    let differ = next_differs a.ours.now a.theirs.now c.loop-last.last c.loop-last-test.true c.loop-last.invariant u v
    (ap (same_at a.ours.now a.theirs.now) (sym is) ∙ sym c.same_own-in-loop-last.ensures ∙ c.if-not-same_own-2.true) in
    ap Differ is ∙ differ

pub loop-last-smaller : goal.loop-last-smaller
loop-last-smaller c =
    let a = c.args in
    let is = c.next_premise-last.ensures in
    let above = next_above a.ours.now a.theirs.now c.loop-last.last c.loop-last-test.true c.loop-last.invariant in
    omega (arith, is, above, c.loop-last-test.true)

pub loop-last-preserved : goal.loop-last-preserved
loop-last-preserved c =
    let a = c.args in
    let is = c.next_premise-last.ensures in
    subst (UpTo a.ours.now a.theirs.now) (sym is)
    (next_agrees a.ours.now a.theirs.now c.loop-last.last c.loop-last-test.true c.loop-last.invariant
    (ap (same_at a.ours.now a.theirs.now) (sym is) ∙ sym c.same_own-in-loop-last.ensures ∙ c.if-not-same_own-2.false))

pub returns : goal.returns
returns c =
    let a = c.args in
    let u = bytes_each a.ours.now (λ i. omega (arith, c.shared_slice_known-1.given i)) in
    let v = bytes_each a.theirs.now (λ i. omega (arith, c.shared_slice_known-2-1.given i)) in
    all_agree a.ours.now a.theirs.now c.loop-last.last (omega arith) c.loop-last.invariant u v
