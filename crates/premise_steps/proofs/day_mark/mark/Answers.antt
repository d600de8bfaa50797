-- `mark` meets its contract: the clock, and then the evaluation on what the clock left.
use Prim.Native.Nat.{ℕ}
use mathlib.Core.Path.{ap}
use mathlib.Core.List.{List}
use Rattle.days.specs.Days.{is_business_day}
use Rattle.premise.specs.declared.File.{File}
use Rattle.premise.specs.Orders.{held}
use Rattle.premise.specs.Passes.{Effect, on_file}
use Rattle.premise.specs.Clock.{ticked, clock}
use Rattle.premise.specs.Evaluation.{evaluated}
use Rattle.premise.specs.OnePremise.{marked_with}
use Rattle.premise_notices.proofs.Then.{then_first, then_done, pass_tidy}
use Rattle.premise_steps.proofs.Evaluating.{then_evaluable}
use Rattle.premise_steps.proofs.day_mark.mark.Goals as goal

-- what the clock does to the file that was lent
abbrev wound : List ℕ → ℕ → File → Effect
wound calendar today file = on_file file (clock calendar today file.premise (held file))

pub wind-requires-clause-room : goal.wind-requires-clause-room
unfolding marked_with
wind-requires-clause-room c =
    let a = c.args in
    then_first (wound a.calendar.now a.today a.file.now) (evaluated a.calendar.now a.today) a.out.now c.requires.room

pub evaluate-requires : goal.evaluate-requires
unfolding marked_with
evaluate-requires c =
    let a = c.args in
    then_evaluable a.file.now c.requires.window {first = wound a.calendar.now a.today a.file.now} c.wind.ensures c.requires.room
    (pass_tidy (λ (i : ℕ). ticked (is_business_day a.calendar.now a.today) a.today a.file.now.premise) c.requires.tidy c.wind.ensures)
    (ap (λ (f : File). f.window) c.wind.ensures.file_after)

pub returns : goal.returns
unfolding marked_with
returns c =
    let a = c.args in
    then_done {first = wound a.calendar.now a.today a.file.now} (evaluated a.calendar.now a.today) c.wind.ensures c.requires.room c.evaluate.ensures
