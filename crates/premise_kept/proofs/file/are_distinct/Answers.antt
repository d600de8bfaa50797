use borrow.Author.Rules.{rules}
use mathlib.Core.Path.{◌≡◌, sym, ◌∙◌}
use mathlib.Core.List.{◌∷◌}
use Rattle.lists.specs.Search.{any_of}
use Rattle.lists.proofs.Chains.{any_is}
use Rattle.premise.specs.Orders.{blank}
use Rattle.premise_kept.proofs.file.Distinct.{has, distinct_next}
use Rattle.premise_kept.proofs.file.are_distinct.Goals as goal

pub loop-first-preserved : goal.loop-first-preserved
loop-first-preserved c =
    let first = c.in-Some.first.now in
    let later = c.in-Some.later.now in
    let e : c.loop-first.left.now ≡ first ∷ later = search rules in
    let alone : c.any.result ≡ any_of (has first.reference) later =
    any_is (has first.reference) later blank _ (search rules) (search rules) in
    sym (distinct_next e (sym alone ∙ c.if-any.false)) ∙ c.loop-first.invariant
