use mathlib.Core.Path.{refl, sym, ◌∙◌}
use native.Mathlib.Omega.{arith}
use Rattle.tape_agreement.proofs.Cursors.{ours_ended, theirs_ended, records_apart, records_alike}
use Rattle.tape_agreement.proofs.own.same_own.Goals as goal

pub loop-here-init : goal.loop-here-init
loop-here-init c = record { here_in = omega arith; there_in = omega arith; same = refl }

pub next_own-here-requires : goal.next_own-here-requires
next_own-here-requires c = c.loop-here.invariant.here_in

pub next_own-there-requires : goal.next_own-there-requires
next_own-there-requires c = c.loop-here.invariant.there_in

pub overflow_sub-ours : goal.overflow_sub-ours
overflow_sub-ours c = omega (arith, c.next_own-here.ensures.within)

pub overflow_sub-result : goal.overflow_sub-result
overflow_sub-result c = omega (arith, c.next_own-there.ensures.within)

pub returns-then-ours-here-lt-RECORD_LENGTH : goal.returns-then-ours-here-lt-RECORD_LENGTH
returns-then-ours-here-lt-RECORD_LENGTH c =
    sym (ours_ended c.loop-here.invariant c.next_own-here.ensures c.next_own-there.ensures c.if-ours-here-lt-RECORD_LENGTH.true)

pub overflow_sub-theirs : goal.overflow_sub-theirs
overflow_sub-theirs c = omega (arith, c.next_own-there.ensures.within)

pub returns-then-theirs-there-lt-RECORD_LENGTH : goal.returns-then-theirs-there-lt-RECORD_LENGTH
returns-then-theirs-there-lt-RECORD_LENGTH c =
    sym (theirs_ended c.loop-here.invariant c.next_own-here.ensures c.next_own-there.ensures c.if-ours-here-lt-RECORD_LENGTH.false c.if-theirs-there-lt-RECORD_LENGTH.true)

pub same_record-requires : goal.same_record-requires
same_record-requires c = (
  omega (arith, c.next_own-here.ensures.within, c.if-ours-here-lt-RECORD_LENGTH.false),
  omega (arith, c.next_own-there.ensures.within, c.if-theirs-there-lt-RECORD_LENGTH.false),
)

pub returns-then-not-same_record : goal.returns-then-not-same_record
returns-then-not-same_record c =
    sym (records_apart c.loop-here.invariant c.next_own-here.ensures c.next_own-there.ensures c.if-ours-here-lt-RECORD_LENGTH.false c.if-theirs-there-lt-RECORD_LENGTH.false
    (sym c.same_record.ensures ∙ c.if-not-same_record.true))

pub overflow_add-here : goal.overflow_add-here
overflow_add-here c =
    omega (arith, c.next_own-here.ensures.within, c.next_own-there.ensures.within, c.if-ours-here-lt-RECORD_LENGTH.false, c.if-theirs-there-lt-RECORD_LENGTH.false)

pub overflow_add-there : goal.overflow_add-there
overflow_add-there c =
    omega (arith, c.next_own-here.ensures.within, c.next_own-there.ensures.within, c.if-ours-here-lt-RECORD_LENGTH.false, c.if-theirs-there-lt-RECORD_LENGTH.false)

pub loop-here-smaller : goal.loop-here-smaller
loop-here-smaller c =
    omega (arith, c.next_own-here.ensures.onward, c.next_own-here.ensures.within, c.if-ours-here-lt-RECORD_LENGTH.false)

pub loop-here-preserved : goal.loop-here-preserved
loop-here-preserved c =
    records_alike c.loop-here.invariant c.next_own-here.ensures c.next_own-there.ensures c.if-ours-here-lt-RECORD_LENGTH.false c.if-theirs-there-lt-RECORD_LENGTH.false
    (sym c.same_record.ensures ∙ c.if-not-same_record.false)
