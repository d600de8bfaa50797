-- It is as long as it says, without counting its zeros off.
use Rattle.std.proofs.Common.{ℕ, sym}
use Rattle.std.proofs.lemmas.List.{length-replicate}
use Rattle.compare_tapes.specs.Sizes.{room_for_tape}
use Rattle.compare_tapes.proofs.room_for_tape.Goals as goal

pub returns : goal.returns
returns c = sym (length-replicate {A = ℕ} room_for_tape 0)
