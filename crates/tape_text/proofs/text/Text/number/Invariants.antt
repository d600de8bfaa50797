-- `number` meets its contract. The loop's invariant: the last digits are put, and those of what is left belong before them.
use Rattle.std.proofs.Common.{◌≡◌}
use Rattle.tape_text.proofs.numbers.Filled.{Filled}
use Rattle.tape_text.proofs.text.Text.number.Given as goal

abbrev pub invariant-loop-place : goal.invariant-loop-place
invariant-loop-place l = record {
  filled : Filled l.n l.initial.self.at l.stop l.initial.self.out.now l.self.out.now l.left l.place;
  same_buffer : l.self.out.ghost_name ≡ l.initial.self.out.ghost_name;
  same_at : l.self.at ≡ l.initial.self.at;
}
