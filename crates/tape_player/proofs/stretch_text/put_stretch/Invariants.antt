-- `put_stretch` meets its contract. The loop's invariant: what is left of the answers, counts and notices has the texts that are left.
use Rattle.std.proofs.Common.{◌≡◌}
use Rattle.std.specs.Iterator.Adapters.{zip_first, zip_second}
use Rattle.std.specs.Slice.Iter.{iter_rest}
use Rattle.tape_player.proofs.stretch_text.Texts.{Texts}
use Rattle.tape_player.proofs.stretch_text.put_stretch.Given as goal

abbrev pub invariant-loop-answer : goal.invariant-loop-answer
invariant-loop-answer l = record {
  can : (goal.iterator-loop-answer).can_next l.answer-iterator;
  finite : (goal.iterator-loop-answer).is_finite l.answer-iterator;
  same_buffer : l.text.out.ghost_name ≡ l.initial.text.out.ghost_name;
  texts : Texts l.fn.reader l.played l.answers l.counts l.notices l.initial.text.at l.initial.text.out.now l.next
      (iter_rest (zip_first l.answer-iterator)) (iter_rest (zip_second l.answer-iterator)) l.left l.text.at l.text.out.now;
}
