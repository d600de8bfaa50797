-- `record_call` meets its contract: row 1, row 2, another length than 24, and then one record played on a book that is well kept. Assumes
-- nothing.
use mathlib.Core.Path.{refl, sym, ◌∙◌}
use native.Mathlib.Omega.{arith}
use borrow.Author.Rules.{rules}
use Rattle.book.proofs.Kept.{book_kept_means}
use Rattle.book_calls.proofs.calls.FirstRows.{call_short, call_unkept, call_other_length, refused}
use Rattle.book_calls.proofs.calls.OneRecord.{one_call}
use Rattle.book_calls.proofs.calls.record_call.Goals as goal

pub returns-then-buffer-lt-NOTICE_BYTES : goal.returns-then-buffer-lt-NOTICE_BYTES
returns-then-buffer-lt-NOTICE_BYTES c =
    let a = c.args in
    refused a.calendar.now a.b a.bytes.now a.buffer.now
    (call_short a.calendar.now a.b a.bytes.now a.buffer.now (omega (arith, c.if-buffer-lt-NOTICE_BYTES.true))) c.refuse.ensures

pub returns-then-not-book_kept : goal.returns-then-not-book_kept
returns-then-not-book_kept c =
    let a = c.args in
    refused a.calendar.now a.b a.bytes.now a.buffer.now
    (call_unkept a.calendar.now a.b a.bytes.now a.buffer.now (omega (arith, c.if-buffer-lt-NOTICE_BYTES.false))
    (sym c.book_kept.ensures ∙ c.if-not-book_kept.true))
    c.refuse-then-not-book_kept.ensures

pub returns-then-bytes-ne-RECORD_LENGTH : goal.returns-then-bytes-ne-RECORD_LENGTH
returns-then-bytes-ne-RECORD_LENGTH c =
    let a = c.args in
    refused a.calendar.now a.b a.bytes.now a.buffer.now
    (call_other_length a.calendar.now a.b a.bytes.now a.buffer.now (omega (arith, c.if-buffer-lt-NOTICE_BYTES.false))
    (sym c.book_kept.ensures ∙ c.if-not-book_kept.false) (λ q. omega (arith, q, c.if-bytes-ne-RECORD_LENGTH.true)))
    c.refuse-then-bytes-ne-RECORD_LENGTH.ensures

pub play-p-requires : goal.play-p-requires
play-p-requires c =
    let a = c.args in record { book_kept = (book_kept_means a.b).0 (sym c.book_kept.ensures ∙ c.if-not-book_kept.false); answers_in_bounds = search rules }

pub returns : goal.returns
returns c =
    let a = c.args in
    one_call a.calendar.now a.b a.bytes.now a.buffer.now (omega (arith, c.if-buffer-lt-NOTICE_BYTES.false))
    (omega (arith, c.if-bytes-ne-RECORD_LENGTH.false)) refl c.play-p.ensures
