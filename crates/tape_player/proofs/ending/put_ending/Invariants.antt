-- `put_ending` meets its contract. The loop's invariant: the lines of the first files are put.
use Rattle.std.proofs.Common.{◌≡◌}
use Rattle.tape_player.proofs.ending.Filed.{Filed}
use Rattle.tape_player.proofs.ending.put_ending.Given as goal

abbrev pub invariant-loop-file : goal.invariant-loop-file
invariant-loop-file l = record {
  filed : Filed l.p l.initial.text.at l.initial.text.out.now l.text.out.now l.text.at l.file-index;
  same_buffer : l.text.out.ghost_name ≡ l.initial.text.out.ghost_name;
}
