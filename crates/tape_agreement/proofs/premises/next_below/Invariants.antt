-- The loop's invariant: what is reached is the nearest of the records passed.
use Rattle.std.proofs.Common.{◌≡◌, take}
use Rattle.std.specs.List.{fold}
use Rattle.tape_agreement.proofs.Records.{nearer_step}
use Rattle.tape_agreement.proofs.premises.next_below.Given as goal

abbrev pub invariant-loop-record : goal.invariant-loop-record
invariant-loop-record l = l.premise ≡ fold (nearer_step l.last) l.limit (take l.record-index l.record-items)
