-- A record's text: its line, and behind it the lines of its notices. Assumes nothing.
use Prim.Native.Nat.{ℕ, ◌+◌, ◌≤◌}
use mathlib.Core.Path.{◌≡◌, ap, ◌∙◌}
use mathlib.Core.List.{List, ◌++◌}
use lib.ListN.{length}
use Rattle.records.specs.Notices.{rows}
use Rattle.tape_text.specs.Numbers.{Puts}
use Rattle.tape_text.specs.Text.{record_line}
use Rattle.tape_text.proofs.Puts.{puts_as, room_as, room_first, room_then, puts_then}
use Rattle.tape_reader.specs.declared.Reader.{Reader}
use Rattle.tape_reader.specs.Counts.{counted}
use Rattle.tape_reader.proofs.Counts.{counted_place}
use Rattle.tape_output.specs.Output.{row_lines}
use Rattle.tape_player.specs.Noted.{noted_text}

module _ (reader : Reader) (answer n : ℕ) (notices : List ℕ) (start : ℕ) (out : List ℕ)
    (room : start + length (noted_text (reader.place + 1) answer n notices) ≤ length out)
    {next : Reader} (on : next ≡ counted reader answer)
  where
    abbrev line : List ℕ
    line = record_line next.place answer n

    abbrev lines : List ℕ
    lines = row_lines (rows n notices)

    -- the place of the reader that counted it
    whole : line ++ lines ≡ noted_text (reader.place + 1) answer n notices
    whole = ap (λ (place : ℕ). record_line place answer n ++ lines) (ap (λ (r : Reader). r.place) on ∙ counted_place reader answer)

    room_whole : start + length (line ++ lines) ≤ length out
    room_whole = room_as start out whole room

    pub line_room : start + length line ≤ length out
    line_room = room_first start out line lines room_whole

    module _ {middle : List ℕ} {at : ℕ} (put : Puts start out middle at line) where
      pub notices_room : at + length lines ≤ length middle
      notices_room = room_then put lines room_whole

      pub told : {last : List ℕ} {stop : ℕ} → Puts at middle last stop lines
          → Puts start out last stop (noted_text (reader.place + 1) answer n notices)
      told more = puts_as whole (puts_then put more room_whole)
