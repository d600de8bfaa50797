-- `answer_unkept` meets its contract, by what `fill` leaves.
use mathlib.Core.Path.{ap, ap₂, ◌∙◌}
use mathlib.Core.List.{List, ◌++◌}
use Prim.Native.Nat.{ℕ}
use lib.ListN.{drop, replicate}
use lib.Seq.{length-take-le}
use borrow.Author.Rules.{rules}
use Rattle.stretch_rules.proofs.NothingPlayed.{unkept_is_2}
use Rattle.stretch_calls.proofs.answers.answer_unkept.Goals as goal

pub returns : goal.returns
returns c =
    let a = c.args in
    let filled = c.fill.ensures.after (λ y h. search rules) in
    ap (λ (l : List ℕ). l ++ drop a.records a.answers.now)
    (filled
    ∙ ap₂ (λ (n x : ℕ). replicate n x) (length-take-le a.records a.answers.now c.requires) (c.number_of-unkept.ensures ∙ unkept_is_2))
