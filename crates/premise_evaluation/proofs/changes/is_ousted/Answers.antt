-- `is_ousted` meets its contract: none ousts an order that can't be ousted.
use mathlib.Core.Path.{sym, ◌∙◌}
use Prim.Native.Nat.{ℕ}
use borrow.Author.Tests.{tests}
use Rattle.std.proofs.Common.{rules}
use Rattle.std.proofs.lemmas.Iterator.{YieldsList-from_slice}
use Rattle.std.proofs.lemmas.Iterator.Consumers.{YieldsList-from_enumerate}
use Rattle.std.proofs.lemmas.Iterator.Search.{any_from_yields_List}
use Rattle.premise.specs.declared.Order.{Order}
use Rattle.premise_evaluation.specs.Ousting.{ousts}
use Rattle.premise_evaluation.proofs.Ousted.{none_ousts}
use Rattle.premise_evaluation.proofs.PlaceTests.{by_enumerated}
use Rattle.premise_evaluation.proofs.changes.is_ousted.Goals as goal

pub returns-then-may_be_ousted : goal.returns-then-may_be_ousted
returns-then-may_be_ousted c =
    let a = c.args in
    let by = ousts a.today a.last a.i a.o in
    by_enumerated by a.orders.now
    (any_from_yields_List (λ (e : ℕ × Order). by e.0 e.1) _ _ _ c.any.ensures.ran
    (YieldsList-from_enumerate (YieldsList-from_slice a.orders.now cc) cc) (λ x b q k. search (rules, tests)))

pub returns-else-may_be_ousted : goal.returns-else-may_be_ousted
returns-else-may_be_ousted c =
    let a = c.args in
    let none = sym c.may_be_ousted.ensures ∙ c.if-may_be_ousted.false in
    c.if-may_be_ousted.false ∙ sym (none_ousts a.today a.last a.orders.now a.i a.o none)
