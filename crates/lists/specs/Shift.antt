-- One element put in at a place, or taken out, with the others moved.
use Rattle.std.specs.Prelude.{ℕ, ◌+◌, List, ◌∷◌, ◌++◌, take, drop}

unfoldable pub inserted : {X : Type 0} → ℕ → X → List X → List X
inserted at x l = take at l ++ (x ∷ drop at l)

unfoldable pub removed : {X : Type 0} → ℕ → List X → List X
removed at l = take at l ++ drop (at + 1) l
