-- `wind` meets its contract. The loop's invariant: the orders before the one reached are done, their notices sent.
use Prim.Native.Nat.{ℕ}
use Rattle.premise.specs.Clock.{ticked}
use Rattle.premise_notices.proofs.PassTurns.{Sofar}
use Rattle.premise_clock.proofs.on_file.wind.Given as goal

abbrev pub invariant-loop-i : goal.invariant-loop-i
invariant-loop-i l =
    Sofar (λ (j : ℕ). ticked l.business l.today l.fn.file.premise) l.fn.file l.initial.out l.i l.file l.out
