-- `mark_changes_file` meets its contract: some order is changed by the clock or by the evaluation.
use Prim.Native.Nat.{ℕ}
use mathlib.Core.Path.{◌∙◌}
use mathlib.Core.Bool.{Bool, ◌||◌}
use borrow.Author.Tests.{tests}
use Rattle.std.proofs.Common.{rules}
use Rattle.std.proofs.lemmas.Iterator.{YieldsList-from_slice}
use Rattle.std.proofs.lemmas.Iterator.Consumers.{YieldsList-from_enumerate}
use Rattle.std.proofs.lemmas.Iterator.Search.{any_from_yields_List}
use Rattle.days.specs.Window.{up_to}
use Rattle.premise.specs.declared.Order.{Order}
use Rattle.premise.specs.Orders.{held}
use Rattle.premise.specs.Evaluation.{is_due}
use Rattle.premise_laws.specs.Changes.{clock_changes, any_at}
use Rattle.premise_evaluation.specs.Ousting.{ousts}
use Rattle.premise_evaluation.proofs.Ousted.{mark_asked}
use Rattle.premise_evaluation.proofs.PlaceTests.{by_enumerated}
use Rattle.premise_steps.proofs.day_mark.mark_changes_file.Goals as goal

pub returns : goal.returns
returns c =
    let a = c.args in
    let os = held a.file.now in
    let by : ℕ → Order → Bool =
    λ (i : ℕ) (o : Order). clock_changes a.business a.today o
    || (is_due (up_to a.last) a.file.now.agreement o || any_at (ousts a.today a.last i o) 0 os) in
    by_enumerated by os
    (any_from_yields_List (λ (e : ℕ × Order). by e.0 e.1) _ _ c.any.result c.any.ensures.ran
    (YieldsList-from_enumerate (YieldsList-from_slice os cc) cc) (λ x b q k. search (rules, tests)))
    ∙ mark_asked a.business a.today a.last a.file.now
