-- `clock_changes_order` meets its contract: the order's status picks the case of `clock_changes`.
use mathlib.Core.Path.{◌≡◌, ◌∙◌}
use mathlib.Core.Bool.{Bool, true, false, ◌||◌}
use native.Mathlib.Omega.{arith}
use borrow.Author.Tests.{eq-eqb, ne_eqb}
use Rattle.premise_laws.proofs.ClockChanges.{clock_review, clock_permit, clock_cancel}
use Rattle.premise_clock.proofs.changes.clock_changes_order.Goals as goal

-- a choice of two, by the first
first_holds : (a b : Bool) → a ≡ true → a ≡ (a || b)
first_holds a b e = rw e

second_decides : (a b c : Bool) → a ≡ false → c ≡ b → c ≡ (a || b)
second_decides a b c e h = rw (e, h)

pub returns-then-business : goal.returns-then-business
returns-then-business c =
    let a = c.args in
    first_holds _ _ c.if-business.true ∙ clock_review a.business a.today a.o c.in-1.is

pub returns-else-business : goal.returns-else-business
returns-else-business c =
    let a = c.args in
    second_decides _ _ _ c.if-business.false c.review_ends.ensures ∙ clock_review a.business a.today a.o c.in-1.is

pub returns-then-o-eq-MOST_WAITED : goal.returns-then-o-eq-MOST_WAITED
returns-then-o-eq-MOST_WAITED c =
    let a = c.args in
    first_holds _ _ (eq-eqb _ _ c.if-o-eq-MOST_WAITED.true) ∙ clock_permit a.business a.today a.o (omega arith) c.in-2.is

pub returns-else-o-eq-MOST_WAITED : goal.returns-else-o-eq-MOST_WAITED
returns-else-o-eq-MOST_WAITED c =
    let a = c.args in
    second_decides _ _ _ (ne_eqb _ _ c.if-o-eq-MOST_WAITED.false) c.counts.ensures ∙ clock_permit a.business a.today a.o (omega arith) c.in-2.is

pub returns-in_default : goal.returns-in_default
returns-in_default c =
    let a = c.args in
    clock_cancel a.business a.today a.o (omega arith) (omega arith)
