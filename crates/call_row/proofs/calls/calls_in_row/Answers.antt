use Prim.Native.Nat.{◌+◌, ◌*◌, ◌-◌, ◌≤◌}
use native.Mathlib.Omega.{arith}
use lib.ListN.{length}
use Rattle.records.specs.Layout.{record_length}
use Rattle.book.specs.Calls.{notice_bytes}
use Rattle.call_row.proofs.Calling.{calling_none, answers-length, counts_length, notices_length, sent_within}
use Rattle.call_row.proofs.Calling.{done_answers, done_counts, done_over, done_room, few_sent, sent_within_more, calling_more}
use Rattle.call_row.proofs.calls.calls_in_row.Goals as goal
use Rattle.call_row.proofs.calls.calls_in_row.Goals.{After-record_call-reply, else-loop-played-test, then-loop-played-test+else-counts-played+else-tape-from+then-notices-standing-lt-NOTICE_BYTES, then-loop-played-test+else-counts-played+then-tape-from, then-loop-played-test+then-counts-played, Else-notices-standing-lt-NOTICE_BYTES}

pub loop-played-init : goal.loop-played-init
loop-played-init c =
    let a = c.args in
    calling_none a.calendar.now a.tape.now a.b a.answers.now a.counts.now a.notices.now

room-left : (e : Else-notices-standing-lt-NOTICE_BYTES) → notice_bytes ≤ length e.loop-played.notices - record_length * e.loop-played.sent
room-left e = omega (arith, e.if-notices-standing-lt-NOTICE_BYTES.false)

-- ---- its call was made
few : (y : After-record_call-reply) → record_length * y.record_call-reply.result.sent ≤ notice_bytes
few y =
    few_sent y.loop-played.invariant y.loop-played-test.true y.if-counts-played.false y.if-tape-from.false ((let room-left' : notice_bytes ≤ length y.loop-played.notices - record_length * y.loop-played.sent = omega (arith, y.if-notices-standing-lt-NOTICE_BYTES.false) in room-left')) y.record_end-to.result
    y.record_call-reply.ensures

within : (y : After-record_call-reply)
    → record_length * (y.loop-played.sent + y.record_call-reply.result.sent)
    ≤ length y.loop-played.notices
within y =
    sent_within_more y.loop-played.invariant y.loop-played-test.true y.if-counts-played.false y.if-tape-from.false ((let room-left' : notice_bytes ≤ length y.loop-played.notices - record_length * y.loop-played.sent = omega (arith, y.if-notices-standing-lt-NOTICE_BYTES.false) in room-left')) y.record_end-to.result
    y.record_call-reply.ensures

pub loop-played-preserved : goal.loop-played-preserved
loop-played-preserved c =
    calling_more c.loop-played.invariant c.loop-played-test.true c.if-counts-played.false c.if-tape-from.false (room-left (goal.at.loop-played-preserved c).Else-notices-standing-lt-NOTICE_BYTES) c.record_end-to.result
    c.record_call-reply.ensures c.record_end-to.ensures c.number_of.ensures

-- the loop is left where no answer or no count can be noted any more, the tape is over, or the next might find no room
pub returns : goal.returns
returns c =
    let i = c.loop-played.invariant in
    elim c.loop-played-test.branch [
      | else-loop-played-test x ↦ done_answers i x.loop-played-test.false
      | then-loop-played-test+then-counts-played x ↦ done_counts i x.if-counts-played.true
      | then-loop-played-test+else-counts-played+then-tape-from x ↦ done_over i x.if-tape-from.true
      | then-loop-played-test+else-counts-played+else-tape-from+then-notices-standing-lt-NOTICE_BYTES x ↦ done_room i (omega (arith, x.if-notices-standing-lt-NOTICE_BYTES.true))
    ]

pub overflow_mul-standing : goal.overflow_mul-standing
overflow_mul-standing c = omega (
  arith,
  sent_within c.loop-played.invariant,
  notices_length c.loop-played.invariant,
)

pub overflow_sub-notices : goal.overflow_sub-notices
overflow_sub-notices c = omega (arith, sent_within c.loop-played.invariant)

pub record_end-to-requires : goal.record_end-to-requires
record_end-to-requires c = c.if-tape-from.false

pub slice_bounds-record_call-count : goal.slice_bounds-record_call-count
slice_bounds-record_call-count c = omega (arith, c.record_end-to.ensures, c.if-tape-from.false)

pub slice_bounds-record_call-start : goal.slice_bounds-record_call-start
slice_bounds-record_call-start c = omega (arith, c.record_end-to.ensures, c.if-tape-from.false)

pub slice_bounds-record_call-end : goal.slice_bounds-record_call-end
slice_bounds-record_call-end c = omega (arith, c.record_end-to.ensures, c.if-tape-from.false)

pub slice_bounds-record_call-count-in-loop-played : goal.slice_bounds-record_call-count-in-loop-played
slice_bounds-record_call-count-in-loop-played c = omega (arith, sent_within c.loop-played.invariant)

pub slice_bounds-record_call-start-in-loop-played : goal.slice_bounds-record_call-start-in-loop-played
slice_bounds-record_call-start-in-loop-played c = omega (arith, sent_within c.loop-played.invariant)

pub slice_bounds-record_call-end-in-loop-played : goal.slice_bounds-record_call-end-in-loop-played
slice_bounds-record_call-end-in-loop-played c = omega (arith, sent_within c.loop-played.invariant)

pub bounds-answers-played : goal.bounds-answers-played
bounds-answers-played c = omega (arith, c.loop-played-test.true)

pub overflow_cast-counts : goal.overflow_cast-counts
overflow_cast-counts c = omega (arith, few (goal.at.overflow_cast-counts c).After-record_call-reply)

pub offset_bounds-counts-played : goal.offset_bounds-counts-played
offset_bounds-counts-played c = omega (
  arith,
  c.if-counts-played.false,
  counts_length c.loop-played.invariant,
)

pub bounds-counts-played : goal.bounds-counts-played
bounds-counts-played c = omega (arith, c.if-counts-played.false)

pub overflow_add-sent : goal.overflow_add-sent
overflow_add-sent c = omega (
  arith,
  within (goal.at.overflow_add-sent c).After-record_call-reply,
  notices_length c.loop-played.invariant,
)

pub overflow_add-played : goal.overflow_add-played
overflow_add-played c = omega (
  arith,
  c.loop-played-test.true,
  answers-length c.loop-played.invariant,
)

pub loop-played-smaller : goal.loop-played-smaller
loop-played-smaller c = omega (
  arith,
  c.loop-played-test.true,
  answers-length c.loop-played.invariant,
)

pub shape_of-answers : goal.shape_of-answers
shape_of-answers c = answers-length c.loop-played.invariant

pub shape_of-counts : goal.shape_of-counts
shape_of-counts c = counts_length c.loop-played.invariant

pub shape_of-notices : goal.shape_of-notices
shape_of-notices c = notices_length c.loop-played.invariant
