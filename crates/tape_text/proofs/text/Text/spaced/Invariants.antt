-- `spaced` meets its contract. The loop's invariant: the first numbers are put.
use Rattle.std.proofs.Common.{◌≡◌}
use Rattle.tape_text.proofs.number_lines.Lined.{Lined}
use Rattle.tape_text.proofs.text.Text.spaced.Given as goal

abbrev pub invariant-loop-n : goal.invariant-loop-n
invariant-loop-n l = record {
  lined : Lined l.numbers l.initial.self.at l.initial.self.out.now l.self.out.now l.self.at l.n-index;
  same_buffer : l.self.out.ghost_name ≡ l.initial.self.out.ghost_name;
}
