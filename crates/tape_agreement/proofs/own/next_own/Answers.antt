use mathlib.Core.Path.{refl, sym, ◌∙◌}
use borrow.Author.Rules.{rules}
use native.Mathlib.Omega.{arith}
use Rattle.tape_agreement.proofs.Cursors.{passed, found, ended}
use Rattle.tape_agreement.proofs.own.next_own.Goals as goal

pub loop-at-init : goal.loop-at-init
loop-at-init c = record { onward = omega arith; within = search rules; rest = refl }

pub overflow_sub-tape : goal.overflow_sub-tape
overflow_sub-tape c = omega (arith, c.loop-at.invariant.within)

pub concerns_at-requires : goal.concerns_at-requires
concerns_at-requires c = omega (arith, c.loop-at.invariant.within)

pub returns-then-concerns_at : goal.returns-then-concerns_at
returns-then-concerns_at c =
    let a = c.args in
    found a.premise a.tape.now a.from c.loop-at.at c.loop-at.invariant (sym c.concerns_at.ensures ∙ c.if-concerns_at.true)

pub overflow_add-at : goal.overflow_add-at
overflow_add-at c = omega (arith, c.loop-at.invariant.within)

pub loop-at-smaller : goal.loop-at-smaller
loop-at-smaller c = omega (arith, c.loop-at.invariant.within)

pub loop-at-preserved : goal.loop-at-preserved
loop-at-preserved c =
    let a = c.args in
    let within = c.loop-at.invariant.within in
    passed a.premise a.tape.now a.from c.loop-at.at c.loop-at.invariant (omega (arith, within))
    (sym c.concerns_at.ensures ∙ c.if-concerns_at.false)

pub returns : goal.returns
returns c =
    let a = c.args in
    ended a.premise a.tape.now a.from c.loop-at.at c.loop-at.invariant (omega arith)
