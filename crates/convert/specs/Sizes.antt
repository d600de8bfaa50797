-- The program's limits: the longest tape that it takes, whole records of either size, and what that is converted to at most.
use Rattle.std.specs.Prelude.{ℕ}

abbrev pub most_in : ℕ
most_in = 1048560

abbrev pub most_out : ℕ
most_out = 1258272
