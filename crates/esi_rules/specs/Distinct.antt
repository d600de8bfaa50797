-- No two elements of a list are the same by a test: each is held against the later ones.
use Rattle.std.specs.Prelude.{List, [], ◌∷◌, Bool, true, not, ◌&&◌}
use Rattle.lists.specs.Search.{any_of}

abbrev pub distinct : {A : Type 0} → (A → A → Bool) → List A → Bool
distinct same [] = true
distinct same (x ∷ xs) = not (any_of (same x) xs) && distinct same xs
