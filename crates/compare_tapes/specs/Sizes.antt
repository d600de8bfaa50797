-- The room for a tape: the longest that the program takes, and one byte more, which shows that a tape is too long; and the room that is
-- tried first.
use Rattle.std.specs.Prelude.{ℕ}

abbrev pub room_for_tape : ℕ
room_for_tape = 1048561

abbrev pub short_room : ℕ
short_room = 65536
