-- `put_notices` meets its contract. The loop's invariant: what is left of the notices' bytes has the lines that are left.
use Rattle.std.proofs.Common.{◌≡◌}
use Rattle.std.specs.Slice.Iter.{chunks_exact_rest, chunks_exact_size}
use Rattle.records.specs.Layout.{record_length}
use Rattle.tape_player.proofs.stretch_text.Listed.{Listed}
use Rattle.tape_player.proofs.stretch_text.put_notices.Given as goal

abbrev pub invariant-loop-notice : goal.invariant-loop-notice
invariant-loop-notice l = record {
  can : (goal.iterator-loop-notice).can_next l.notice-iterator;
  finite : (goal.iterator-loop-notice).is_finite l.notice-iterator;
  size : chunks_exact_size l.notice-iterator ≡ record_length;
  same_buffer : l.text.out.ghost_name ≡ l.initial.text.out.ghost_name;
  listed : Listed l.notices l.n l.initial.text.at l.initial.text.out.now l.text.out.now l.text.at (chunks_exact_rest l.notice-iterator);
}
