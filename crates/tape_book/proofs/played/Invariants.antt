-- `played` meets its contract. The loop's invariant: the records left lead from the book reached to the last one. Of the record call it uses
-- its promise and nothing else.
use Rattle.std.proofs.Common.{◌≡◌}
use Rattle.std.specs.Slice.Iter.{chunks_rest, chunks_size}
use Rattle.records.specs.Layout.{record_length}
use Rattle.tape_book.proofs.Underway.{Underway}
use Rattle.tape_book.proofs.played.Given as goal

abbrev pub invariant-loop-record : goal.invariant-loop-record
invariant-loop-record l = record {
  can : (goal.iterator-loop-record).can_next l.record-iterator;
  finite : (goal.iterator-loop-record).is_finite l.record-iterator;
  size : chunks_size l.record-iterator ≡ record_length;
  underway : Underway l.calendar l.tape l.notices l.b (chunks_rest l.record-iterator);
}
