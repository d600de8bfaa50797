use Prim.Native.Nat.{◌*◌, ◌-◌, ◌≤◌}
use mathlib.Core.Path.{refl, sym, ap, ◌∙◌}
use native.Mathlib.Omega.{arith}
use lib.Dec.{ltb}
use lib.ListN.{length, take, drop}
use borrow.Author.Rules.{rules}
use Rattle.std.proofs.lemmas.List.Sorted.{IsPartitionPoint-from_clause}
use Rattle.lists.specs.Search.{any_of}
use Rattle.records.specs.Layout.{record_length}
use Rattle.premise.specs.declared.File.{File}
use Rattle.premise.specs.Orders.{is_open}
use Rattle.book.specs.Book.{files_of}
use Rattle.book.specs.Calls.{notice_bytes}
use Rattle.book_files.proofs.Tidy.{past}
use Rattle.book_player.proofs.Marking.{mark_none, marking_as}
use Rattle.book_player.proofs.MarkTurns.{mark_tidy, mark_width, mark_window, mark_room, mark_moves, mark_more, mark_still}
use Rattle.book_player.specs.Tasks.{Known}
use Rattle.book_player.proofs.Tasks.{task_known}
use Rattle.book_player.proofs.Ways.{Standing, Made, made_as, well_kept, by_refusal, by_file, by_marks, by_opening, by_open_order, by_closing, held_place, close_place, close_held, held_asks, held_moves}
use Rattle.book_player.proofs.Ways.{day_asks, closed_tidy}
use Rattle.book_player.proofs.Playing.{playing_none, standing, plays_most, plays_all, plays_room}
use Rattle.book_player.proofs.Playing.{sent_few, playing_more}
use Rattle.book_player.proofs.Seeking.{halves, reads, sought}
use Rattle.book_player.proofs.player.play.Goals as goal
use Rattle.book_player.proofs.player.play.Goals.{in-Refused, in-OnFile, in-NextDay+else-loop-place-test, in-Opens, in-Closes+then-any_open, in-Closes+else-any_open, then-mark_changes_file, else-mark_changes_file, After-premise_in-wanted, After-task_of-task, Joined-task, Else-notices-sent-lt-NOTICE_BYTES}

pub loop-played-init : goal.loop-played-init
loop-played-init c =
    let a = c.args in
    playing_none a.calendar.now a.tape.now a.b a.answers.now a.counts.now a.notices.now c.requires.book_kept c.requires.answers_in_bounds

-- a record is left and finds room
room_left : (e : Else-notices-sent-lt-NOTICE_BYTES)
    → notice_bytes ≤ length e.loop-played.notices - record_length * e.loop-played.sent
room_left e = omega (arith, e.if-notices-sent-lt-NOTICE_BYTES.false)

-- the book is well kept, and the notices of any call find room
stands : (p : After-premise_in-wanted) → Standing p.loop-played.c p.loop-played.sent p.loop-played.notices
stands p =
    standing p.loop-played.invariant p.loop-played-test.true p.if-tape-from.false (omega (arith, p.if-notices-sent-lt-NOTICE_BYTES.false))

-- what is known of the record by what is to be done with it
told : (k : After-task_of-task)
    → Known (take (k.record_end-to.result - k.loop-played.from) (drop k.loop-played.from k.args.tape.now)) k.loop-played.c past
    k.task_of-task.result
told k =
    let v = standing k.loop-played.invariant k.loop-played-test.true k.if-tape-from.false (omega (arith, k.if-notices-sent-lt-NOTICE_BYTES.false)) in
    let fs = files_of k.loop-played.c in
    let wanted = k.premise_in-wanted.result in
    let at = k.partition_point-at.result in
    let point = IsPartitionPoint-from_clause (λ (f : File). ltb f.premise wanted) fs at k.partition_point-at.ensures.partitioned
    (halves wanted k.loop-played.c (well_kept v)) (λ a r f q. search rules) in
    let read = reads fs at k.map_or-there.result k.get.result k.get.ensures.lookup k.map_or-there.ensures (λ x e. search rules) in
    task_known _ _ v.kept k.read_record-reading.ensures k.premise_in-wanted.ensures
    (sought wanted k.loop-played.c at k.map_or-there.result k.partition_point-at.ensures.bound point read) k.task_of-task.ensures

-- its call is made, by one of the six ways
made : (x : Joined-task)
    → Known (take (x.record_end-to.result - x.loop-played.from) (drop x.loop-played.from x.args.tape.now)) x.loop-played.c past
    x.task_of-task.result
    → Made x.args.calendar.now x.loop-played.c (take (x.record_end-to.result - x.loop-played.from) (drop x.loop-played.from x.args.tape.now))
    x.loop-played.sent x.loop-played.notices
    (record { answer = x.match-task.last; sent = x.match-task.sent; book = x.match-task.c; buffer = x.match-task.notices })
made x known =
    let v = standing x.loop-played.invariant x.loop-played-test.true x.if-tape-from.false (omega (arith, x.if-notices-sent-lt-NOTICE_BYTES.false)) in
    elim x.match-task.branch [
      | in-Refused w ↦ made_as (λ i. record { answer = w.last-is i; sent = w.sent-is i; book = w.c-is i; buffer = w.notices-is i })
          (by_refusal v _ known w.in-Refused.is)
      | in-OnFile w ↦ made_as (λ i. record { answer = w.last-is i; sent = w.sent-is i; book = w.c-is i; buffer = w.notices-is i })
          (rw (w.notices-1.given.1.1 (sym w.on_file-last.ensures.sends.same_buffer))
          (by_file v _ known w.in-OnFile.is _ w.on_file-last.ensures.file_after w.on_file-last.ensures.answered w.on_file-last.ensures.sends.wrote w.moved-c.ensures))
      | in-NextDay+else-loop-place-test w ↦ made_as (λ i. record { answer = w.last-is i; sent = w.sent-is i; book = w.c-is i; buffer = w.notices-is i })
          (by_marks v _ known w.in-NextDay.is w.loop-place.invariant w.loop-place-test.false)
      | in-Opens w ↦ made_as (λ i. record { answer = w.last-is i; sent = w.sent-is i; book = w.c-is i; buffer = w.notices-is i })
          (by_opening v _ known w.in-Opens.is w.new_file.ensures w.copy_within.ensures.after)
      | in-Closes+then-any_open w ↦ made_as (λ i. record { answer = w.last-is i; sent = w.sent-is i; book = w.c-is i; buffer = w.notices-is i })
          (by_open_order v _ known w.in-Closes.is (ap (any_of is_open) (sym w.held.ensures) ∙ sym w.any_open.ensures ∙ w.if-any_open.true))
      | in-Closes+else-any_open w ↦ made_as (λ i. record { answer = w.last-is i; sent = w.sent-is i; book = w.c-is i; buffer = w.notices-is i })
          (by_closing v _ known w.in-Closes.is (ap (any_of is_open) (sym w.held.ensures) ∙ sym w.any_open.ensures ∙ w.if-any_open.false)
          w.copy_within-else-any_open.ensures.after w.blank_file.ensures)
    ]

-- ---- its premise is looked for
pub shared_ref_as_front-held : goal.shared_ref_as_front-held
shared_ref_as_front-held c = omega (arith, (well_kept (stands (goal.at.shared_ref_as_front-held c).After-premise_in-wanted)).tidy.few)

pub task_of-task-requires : goal.task_of-task-requires
task_of-task-requires c = (well_kept (stands (goal.at.task_of-task-requires c).After-premise_in-wanted)).today

-- ---- its premise is held
pub offset_bounds-c-at : goal.offset_bounds-c-at
offset_bounds-c-at c =
    let g = goal.at.offset_bounds-c-at c in
    omega (arith, held_place (stands g.After-premise_in-wanted) _ (told g.After-task_of-task) c.in-OnFile.is)

pub bounds-c-at : goal.bounds-c-at
bounds-c-at c =
    let g = goal.at.bounds-c-at c in
    omega (arith, held_place (stands g.After-premise_in-wanted) _ (told g.After-task_of-task) c.in-OnFile.is)

pub on_file-last-requires : goal.on_file-last-requires
on_file-last-requires c =
    let g = goal.at.on_file-last-requires c in
    let all = held_asks (stands g.After-premise_in-wanted) _ (told g.After-task_of-task) c.in-OnFile.is _ in
    record { on_file = record { tidy = all.0; room = all.1 }; stays_held = all.2 }

pub offset_bounds-c-at-in-OnFile : goal.offset_bounds-c-at-in-OnFile
offset_bounds-c-at-in-OnFile c =
    let g = goal.at.offset_bounds-c-at-in-OnFile c in
    omega (arith, held_place (stands g.After-premise_in-wanted) _ (told g.After-task_of-task) c.in-OnFile.is)

pub bounds-c-at-in-OnFile : goal.bounds-c-at-in-OnFile
bounds-c-at-in-OnFile c =
    let g = goal.at.bounds-c-at-in-OnFile c in
    omega (arith, held_place (stands g.After-premise_in-wanted) _ (told g.After-task_of-task) c.in-OnFile.is)

pub moved-c-requires : goal.moved-c-requires
moved-c-requires c =
    let g = goal.at.moved-c-requires c in
    held_moves (stands g.After-premise_in-wanted) _ (told g.After-task_of-task) c.in-OnFile.is c.args.calendar.now
    c.on_file-last.ensures.file_after

pub offset_bounds-c-at-in-OnFile-2 : goal.offset_bounds-c-at-in-OnFile-2
offset_bounds-c-at-in-OnFile-2 c =
    let g = goal.at.offset_bounds-c-at-in-OnFile-2 c in
    omega (arith, held_place (stands g.After-premise_in-wanted) _ (told g.After-task_of-task) c.in-OnFile.is)

pub bounds-c-at-in-OnFile-2 : goal.bounds-c-at-in-OnFile-2
bounds-c-at-in-OnFile-2 c =
    let g = goal.at.bounds-c-at-in-OnFile-2 c in
    omega (arith, held_place (stands g.After-premise_in-wanted) _ (told g.After-task_of-task) c.in-OnFile.is)

-- ---- it marks the next day
pub loop-place-init : goal.loop-place-init
loop-place-init c =
    mark_none _ _ _ _ _ (day_asks (stands (goal.at.loop-place-init c).After-premise_in-wanted) _ _)

-- the file's window has one of the widths of which the last days are known
pub overflow_sub-end : goal.overflow_sub-end
overflow_sub-end c = omega (arith, (mark_width c.loop-place.invariant c.loop-place-test.true).0)

pub bounds-ends-file : goal.bounds-ends-file
bounds-ends-file c =
    let width = mark_width c.loop-place.invariant c.loop-place-test.true in
    omega (arith, width.0, width.1)

pub mark_changes_file-requires : goal.mark_changes_file-requires
mark_changes_file-requires c = mark_tidy c.loop-place.invariant c.loop-place-test.true

pub mark-requires : goal.mark-requires
mark-requires c =
    record {
      tidy = mark_tidy c.loop-place.invariant c.loop-place-test.true;
      room = omega (arith, mark_room c.loop-place.invariant c.loop-place-test.true);
      window = mark_window c.loop-place.invariant c.loop-place-test.true _ c.last_days-ends.ensures;
    }

pub moved-c-requires-then-mark_changes_file : goal.moved-c-requires-then-mark_changes_file
moved-c-requires-then-mark_changes_file c =
    mark_moves c.loop-place.invariant c.loop-place-test.true c.mark.ensures.file_after

pub loop-place-preserved : goal.loop-place-preserved
loop-place-preserved c =
    let m = c.loop-place.invariant in
    let more = c.loop-place-test.true in
    elim c.if-mark_changes_file.branch [
      | then-mark_changes_file w ↦ marking_as w.sent-is w.c-is w.notices-is
          (rw (w.notices-then-mark_changes_file-1.given.1.1 (sym w.mark.ensures.sends.same_buffer)) (mark_more m more w.mark.ensures.file_after w.mark.ensures.sends.wrote w.moved-c-then-mark_changes_file.ensures))
      | else-mark_changes_file w ↦ marking_as w.sent-is w.c-is w.notices-is
          (mark_still m more _ c.is_business_day-business.ensures (mark_window m more _ c.last_days-ends.ensures) c.mark_changes_file.ensures
          w.if-mark_changes_file.false)
    ]

-- ---- it closes a place
pub offset_bounds-c-at-in-Closes : goal.offset_bounds-c-at-in-Closes
offset_bounds-c-at-in-Closes c =
    let g = goal.at.offset_bounds-c-at-in-Closes c in
    omega (arith, close_place (stands g.After-premise_in-wanted) _ (told g.After-task_of-task) c.in-Closes.is)

pub bounds-c-at-in-Closes : goal.bounds-c-at-in-Closes
bounds-c-at-in-Closes c =
    let g = goal.at.bounds-c-at-in-Closes c in
    omega (arith, close_place (stands g.After-premise_in-wanted) _ (told g.After-task_of-task) c.in-Closes.is)

pub held-requires : goal.held-requires
held-requires c =
    let g = goal.at.held-requires c in
    closed_tidy (stands g.After-premise_in-wanted) _ (told g.After-task_of-task) c.in-Closes.is

pub overflow_sub-left : goal.overflow_sub-left
overflow_sub-left c =
    let g = goal.at.overflow_sub-left c in
    omega (arith, close_held (stands g.After-premise_in-wanted) _ (told g.After-task_of-task) c.in-Closes.is)

pub copy_within-requires-else-any_open-clause-start_le_end : goal.copy_within-requires-else-any_open-clause-start_le_end
copy_within-requires-else-any_open-clause-start_le_end c =
    let g = goal.at.copy_within-requires-else-any_open-clause-start_le_end c in
    omega (arith, close_held (stands g.After-premise_in-wanted) _ (told g.After-task_of-task) c.in-Closes.is)

-- ---- it is noted
pub overflow_cast-counts : goal.overflow_cast-counts
overflow_cast-counts c =
    let g = goal.at.overflow_cast-counts c in
    omega (
      arith,
      sent_few c.loop-played.invariant c.loop-played-test.true c.if-tape-from.false (room_left g.Else-notices-sent-lt-NOTICE_BYTES) c.record_end-to.result
          (made g.Joined-task (told g.After-task_of-task)),
    )

pub loop-played-preserved : goal.loop-played-preserved
loop-played-preserved c =
    let g = goal.at.loop-played-preserved c in
    playing_more c.loop-played.invariant c.loop-played-test.true c.if-tape-from.false (room_left g.Else-notices-sent-lt-NOTICE_BYTES) c.record_end-to.result
    (made g.Joined-task (told g.After-task_of-task)) c.record_end-to.ensures c.number_of.ensures refl

pub returns-then-tape-from : goal.returns-then-tape-from
returns-then-tape-from c = plays_all c.loop-played.invariant c.if-tape-from.true

pub returns-then-notices-sent-lt-NOTICE_BYTES : goal.returns-then-notices-sent-lt-NOTICE_BYTES
returns-then-notices-sent-lt-NOTICE_BYTES c = plays_room c.loop-played.invariant (omega (arith, c.if-notices-sent-lt-NOTICE_BYTES.true))

pub returns-after-loop-played : goal.returns-after-loop-played
returns-after-loop-played c = plays_most c.loop-played.invariant c.loop-played-test.false
