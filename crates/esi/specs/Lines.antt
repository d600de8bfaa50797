-- How long a line is at most: two numbers of at most 20 digits, a space and the line's end.
use Rattle.std.specs.Prelude.{ℕ}

abbrev pub line_most : ℕ
line_most = 42
