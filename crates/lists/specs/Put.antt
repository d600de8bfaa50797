-- A stretch put into a list from a place on: what stands before the place stays, and so does what stands behind the stretch.
use Rattle.std.specs.Prelude.{ℕ, ◌+◌, List, ◌++◌, length, take, drop}

abbrev pub put_at : {X : Type 0} → ℕ → List X → List X → List X
put_at start new l = take start l ++ new ++ drop (start + length new) l
