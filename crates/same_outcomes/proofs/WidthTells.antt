-- What the sample of either width tells: the theorem speaks of its first list, and could not of the others.
use Prim.Native.Nat.{ℕ}
use mathlib.Core.Path.{◌≡◌, sym, ap, ◌∙◌}
use mathlib.Core.List.{List}
use native.Mathlib.Omega.{arith}
use lib.ListN.{get_or, replicate}
use Rattle.records.specs.Layout.{wide, narrow}
use Rattle.same_outcomes.specs.WidthSample.{nine_digits, outcomes, answers}
use Rattle.same_outcomes.specs.WidthSample.{WidthTells, RestTells}
use Rattle.same_outcomes.proofs.EitherWidth.{either_width}
use Rattle.same_outcomes.proofs.WidthSample.{comes}

-- the theorem's premise is met by the first list
pub same : outcomes narrow nine_digits ≡ outcomes wide nine_digits
unfolding outcomes
same = either_width (replicate 20 0) 10 nine_digits comes.nine

-- with the others a create gets 3 by the narrow rules and 0 by the wide ones
pub width_tells : WidthTells
width_tells e =
    let first : ◌≡◌ {A = ℕ} 3 0 = ap (λ (l : List ℕ). get_or l 0 0) (sym comes.ten_refused ∙ ap answers e ∙ comes.ten_taken) in
    omega (arith, first)

pub rest_tells : RestTells
rest_tells e =
    let first : ◌≡◌ {A = ℕ} 3 0 = ap (λ (l : List ℕ). get_or l 0 0) (sym comes.rest_refused ∙ ap answers e ∙ comes.rest_taken) in
    omega (arith, first)
