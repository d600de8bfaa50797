use Prim.Native.Nat.{◌+◌, ◌*◌, ◌-◌, ◌≤◌, ◌<◌}
use mathlib.Core.Path.{refl, ◌∙◌}
use native.Mathlib.Omega.{arith}
use lib.ListN.{length}
use Rattle.records.specs.Layout.{record_length}
use Rattle.book.specs.Calls.{notice_bytes}
use Rattle.stretch_rules.specs.Stretch.{whole_count}
use Rattle.stretch_calls.proofs.calls.Lots.{underway_none, answers-length, notices_length, sent_within, whole_inside}
use Rattle.stretch_calls.proofs.calls.Lots.{done_all, done_room, lot_asks, lot_goes_on, lot_within, lot_room, underway_more}
use Rattle.stretch_calls.proofs.calls.play_whole.Goals as goal
use Rattle.stretch_calls.proofs.calls.play_whole.Goals.{After-play-lot, Else-notices-standing-lt-NOTICE_BYTES}

pub loop-played-init : goal.loop-played-init
loop-played-init c =
    let a = c.args in
    let u = underway_none a.calendar.now a.tape.now a.b a.answers.now a.counts.now a.notices.now _ c.requires.book_kept
    c.requires.tape_in_bounds c.requires.counts_nonzero refl in
    (u, refl)

room-left : (e : Else-notices-standing-lt-NOTICE_BYTES)
    → notice_bytes ≤ length e.loop-played.notices - record_length * e.loop-played.sent
room-left e = omega (arith, e.if-notices-standing-lt-NOTICE_BYTES.false)

pub play-lot-requires : goal.play-lot-requires
play-lot-requires c =
    let both = lot_asks c.loop-played.invariant.0 c.loop-played-test.true (room-left (goal.at.play-lot-requires c).Else-notices-standing-lt-NOTICE_BYTES) c.next_many.result
    c.next_many.ensures in
    record { book_kept = both.0; answers_in_bounds = both.1 }

goes_on : (p : After-play-lot) → 0 < p.play-lot.result.played
goes_on p =
    lot_goes_on p.loop-played.invariant.0 p.loop-played-test.true ((let room-left' : notice_bytes ≤ length p.loop-played.notices - record_length * p.loop-played.sent = omega (arith, p.if-notices-standing-lt-NOTICE_BYTES.false) in room-left')) p.next_many.result
    p.next_many.ensures p.play-lot.ensures

within : (p : After-play-lot)
    → p.loop-played.played + p.play-lot.result.played ≤ whole_count p.args.tape.now
within p =
    lot_within p.loop-played.invariant.0 p.loop-played-test.true ((let room-left' : notice_bytes ≤ length p.loop-played.notices - record_length * p.loop-played.sent = omega (arith, p.if-notices-standing-lt-NOTICE_BYTES.false) in room-left')) p.next_many.result
    p.next_many.ensures p.play-lot.ensures

room : (p : After-play-lot)
    → record_length * (p.loop-played.sent + p.play-lot.result.sent) ≤ length p.args.notices.now
room p =
    lot_room p.loop-played.invariant.0 p.loop-played-test.true ((let room-left' : notice_bytes ≤ length p.loop-played.notices - record_length * p.loop-played.sent = omega (arith, p.if-notices-standing-lt-NOTICE_BYTES.false) in room-left')) p.next_many.result
    p.next_many.ensures p.play-lot.ensures

pub loop-played-preserved : goal.loop-played-preserved
loop-played-preserved c =
    let u = c.loop-played.invariant.0 in
    let same = c.play-lot.auto.counts in (
      underway_more u c.loop-played-test.true (room-left (goal.at.loop-played-preserved c).Else-notices-standing-lt-NOTICE_BYTES) c.next_many.result c.next_many.ensures
          c.play-lot.ensures (omega (arith, same, u.notes)),
      same ∙ c.loop-played.invariant.1,
    )

pub overflow_mul-standing : goal.overflow_mul-standing
overflow_mul-standing c = omega (
  arith,
  sent_within c.loop-played.invariant.0,
  notices_length c.loop-played.invariant.0,
)

pub overflow_sub-notices : goal.overflow_sub-notices
overflow_sub-notices c = omega (arith, sent_within c.loop-played.invariant.0)

pub overflow_mul-from : goal.overflow_mul-from
overflow_mul-from c = omega (
  arith,
  whole_inside c.loop-played.invariant.0,
  c.loop-played.invariant.0.few,
)

pub overflow_sub-whole : goal.overflow_sub-whole
overflow_sub-whole c = omega (arith, c.loop-played.invariant.0.few)

pub overflow_add-end : goal.overflow_add-end
overflow_add-end c = omega (
  arith,
  c.next_many.ensures,
  whole_inside c.loop-played.invariant.0,
  c.loop-played.invariant.0.few,
)

pub slice_bounds-play-count : goal.slice_bounds-play-count
slice_bounds-play-count c = omega (arith, whole_inside c.loop-played.invariant.0, c.loop-played.invariant.0.few)

pub slice_bounds-play-start : goal.slice_bounds-play-start
slice_bounds-play-start c = omega (arith, whole_inside c.loop-played.invariant.0, c.loop-played.invariant.0.few)

pub slice_bounds-play-end : goal.slice_bounds-play-end
slice_bounds-play-end c = omega (arith, whole_inside c.loop-played.invariant.0, c.loop-played.invariant.0.few)

pub slice_bounds-play-count-in-loop-played : goal.slice_bounds-play-count-in-loop-played
slice_bounds-play-count-in-loop-played c = omega arith

pub slice_bounds-play-start-in-loop-played : goal.slice_bounds-play-start-in-loop-played
slice_bounds-play-start-in-loop-played c = omega arith

pub slice_bounds-play-end-in-loop-played : goal.slice_bounds-play-end-in-loop-played
slice_bounds-play-end-in-loop-played c = let u = c.loop-played.invariant.0 in omega (arith, c.next_many.ensures, u.few, u.fit, answers-length u)

pub slice_bounds-play-count-in-loop-played-2 : goal.slice_bounds-play-count-in-loop-played-2
slice_bounds-play-count-in-loop-played-2 c = omega (arith, sent_within c.loop-played.invariant.0)

pub slice_bounds-play-start-in-loop-played-2 : goal.slice_bounds-play-start-in-loop-played-2
slice_bounds-play-start-in-loop-played-2 c = omega (arith, sent_within c.loop-played.invariant.0)

pub slice_bounds-play-end-in-loop-played-2 : goal.slice_bounds-play-end-in-loop-played-2
slice_bounds-play-end-in-loop-played-2 c = omega (arith, sent_within c.loop-played.invariant.0)

pub overflow_add-played : goal.overflow_add-played
overflow_add-played c = omega (
  arith,
  within (goal.at.overflow_add-played c).After-play-lot,
  whole_inside c.loop-played.invariant.0,
)

pub overflow_add-sent : goal.overflow_add-sent
overflow_add-sent c = omega (
  arith,
  room (goal.at.overflow_add-sent c).After-play-lot,
)

pub loop-played-smaller : goal.loop-played-smaller
loop-played-smaller c = omega (arith, goes_on (goal.at.loop-played-smaller c).After-play-lot, within (goal.at.loop-played-smaller c).After-play-lot)

pub shape_of-answers-after-loop-played : goal.shape_of-answers-after-loop-played
shape_of-answers-after-loop-played c = answers-length c.loop-played.invariant.0

pub shape_of-counts-after-loop-played : goal.shape_of-counts-after-loop-played
shape_of-counts-after-loop-played c = c.loop-played.invariant.1

pub shape_of-notices-after-loop-played : goal.shape_of-notices-after-loop-played
shape_of-notices-after-loop-played c = notices_length c.loop-played.invariant.0

pub returns-after-loop-played : goal.returns-after-loop-played
returns-after-loop-played c = done_all c.loop-played.invariant.0 c.loop-played-test.false

pub shape_of-answers-then-notices-standing-lt-NOTICE_BYTES : goal.shape_of-answers-then-notices-standing-lt-NOTICE_BYTES
shape_of-answers-then-notices-standing-lt-NOTICE_BYTES c = answers-length c.loop-played.invariant.0

pub shape_of-counts-then-notices-standing-lt-NOTICE_BYTES : goal.shape_of-counts-then-notices-standing-lt-NOTICE_BYTES
shape_of-counts-then-notices-standing-lt-NOTICE_BYTES c = c.loop-played.invariant.1

pub shape_of-notices-then-notices-standing-lt-NOTICE_BYTES : goal.shape_of-notices-then-notices-standing-lt-NOTICE_BYTES
shape_of-notices-then-notices-standing-lt-NOTICE_BYTES c = notices_length c.loop-played.invariant.0

pub returns-then-notices-standing-lt-NOTICE_BYTES : goal.returns-then-notices-standing-lt-NOTICE_BYTES
returns-then-notices-standing-lt-NOTICE_BYTES c = done_room c.loop-played.invariant.0 (omega (arith, c.if-notices-standing-lt-NOTICE_BYTES.true))
