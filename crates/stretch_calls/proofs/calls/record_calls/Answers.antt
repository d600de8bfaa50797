-- `record_calls` meets its contract: 19, too few notice bytes, a book that is not well kept, and then the records played on one that is.
use mathlib.Core.Path.{sym, ◌∙◌}
use native.Mathlib.Omega.{arith}
use borrow.Author.Rules.{rules}
use Rattle.book.proofs.Kept.{book_kept_means}
use Rattle.stretch_rules.specs.Stretch.{whole_count}
use Rattle.stretch_rules.proofs.NothingPlayed.{few_answers, no_room, all_two}
use Rattle.stretch_calls.proofs.calls.Returned.{nothing_returned, twos_returned}
use Rattle.stretch_calls.proofs.calls.record_calls.Goals as goal

pub returns-then-answers-whole : goal.returns-then-answers-whole
returns-then-answers-whole c =
    let a = c.args in
    nothing_returned a.answers.now a.notices.now
    (few_answers a.calendar.now a.b a.tape.now _ _ (omega (arith, c.if-answers-whole.true)))

pub returns-then-notices-lt-NOTICE_BYTES : goal.returns-then-notices-lt-NOTICE_BYTES
returns-then-notices-lt-NOTICE_BYTES c =
    let a = c.args in
    nothing_returned a.answers.now a.notices.now
    (no_room a.calendar.now a.b a.tape.now _ _ (omega (arith, c.if-answers-whole.false)) (omega (arith, c.if-notices-lt-NOTICE_BYTES.true)))

-- the book is not well kept
pub answer_unkept-requires : goal.answer_unkept-requires
answer_unkept-requires c = omega (arith, c.if-answers-whole.false)

pub returns-then-not-book_kept : goal.returns-then-not-book_kept
returns-then-not-book_kept c =
    let a = c.args in
    twos_returned (whole_count a.tape.now) a.answers.now _ a.notices.now
    (all_two a.calendar.now a.b a.tape.now _ _ (omega (arith, c.if-answers-whole.false))
    (omega (arith, c.if-notices-lt-NOTICE_BYTES.false)) (sym c.book_kept.ensures ∙ c.if-not-book_kept.true))
    c.answer_unkept.ensures

-- it is
pub play_whole-requires : goal.play_whole-requires
play_whole-requires c =
    let a = c.args in record { book_kept = (book_kept_means a.b).0 (sym c.book_kept.ensures ∙ c.if-not-book_kept.false); tape_in_bounds = omega (arith, c.if-answers-whole.false); counts_nonzero = search rules }
