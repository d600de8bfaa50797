use Rattle.std.proofs.Common.{◌≡◌, List, [], ◌∷◌, length, refl, sym, ap₂, ◌∙◌, rules, arith}
use Rattle.lists.specs.Search.{any_of}
use Rattle.esi_rules.specs.Keys.{has_either, clashes}
use Rattle.esi_rules.proofs.Distinctness.{distinct_miss, distinct_end}
use Rattle.esi_directory.proofs.soundness.none_twice.Goals as goal

pub returns-then-stands_in : goal.returns-then-stands_in
returns-then-stands_in c =
    let found =
    ap₂ (λ key premise. any_of (has_either key premise) c.in-Some.later.now) (sym c.key_of.ensures) (sym c.premise_of.ensures)
    ∙ sym c.stands_in.ensures
    ∙ c.if-stands_in.true in
    sym (sym c.loop-first.invariant ∙ distinct_miss clashes (search rules) found)

none_left : {A : Type 0} (xs : List A) → length xs ≡ 0 → xs ≡ []
none_left [] e = refl
none_left (x ∷ xs) e = absurd (omega (arith, e))

pub returns : goal.returns
returns c = sym (sym c.loop-first.invariant ∙ distinct_end clashes (none_left c.loop-first.left.now c.in_default.ensures.cases))
