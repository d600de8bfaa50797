-- Where a premise's file stands among files in rising premise numbers.
use Rattle.std.specs.Prelude.{ℕ, suc, List, [], ◌∷◌, cond, ltb}
use Rattle.premise.specs.declared.File.{File}

-- how many files stand before a premise's
abbrev pub before : ℕ → List File → ℕ
before premise [] = 0
before premise (f ∷ fs) = cond (ltb f.premise premise) (suc (before premise fs)) 0
