-- A sheet's text: how long it can be; the answer's line; and the loop that puts the lines of the rows, of which after i turns the first i
-- are put. Assumes nothing.
use Prim.Native.Nat.{ℕ, ◌+◌, ◌*◌, ◌≤◌, ◌<◌}
use mathlib.Core.Path.{◌≡◌, ap, ◌∙◌}
use mathlib.Core.List.{List, [], ◌∷◌, ◌++◌}
use native.Mathlib.Omega.{arith}
use lib.ListN.{length, drop, get_or, set, length-append, length-set}
use Rattle.lists.proofs.Find.{drop-first, drop-none}
use Rattle.tape_text.specs.Numbers.{newline, decimal, lettered_most, Puts}
use Rattle.tape_text.proofs.Digits.{decimal_within}
use Rattle.tape_text.proofs.Lengths.{any_lettered}
use Rattle.tape_text.proofs.Puts.{puts_length, room_first, room_then, puts_then, room_after_one, puts_after_one}
use Rattle.tape_text.proofs.Putting.{Putting, putting_none, putting_length, putting_room, putting_more, putting_all}
use Rattle.sheet_rules.specs.declared.BlockRow.{BlockRow}
use Rattle.block_sheet.specs.RowBytes.{most_rows}
use Rattle.block_sheet.specs.Lines.{block_letter, row_line, row_lines, sheet_text, sheet_text_most}

-- ---- how long it can be
row_most : (r : BlockRow) → length (row_line r) ≤ lettered_most 5
unfolding row_line
row_most r = any_lettered block_letter (r.block ∷ r.first ∷ r.last ∷ r.files ∷ r.dark ∷ [])

lines_most : (rows : List BlockRow) → length (row_lines rows) ≤ lettered_most 5 * length rows
lines_most [] = omega arith
lines_most (r ∷ rs) = omega (arith, length-append (row_line r) (row_lines rs), row_most r, lines_most rs)

text_most : (answer : ℕ) (rows : List BlockRow) → length rows ≤ most_rows → length (sheet_text answer rows) ≤ sheet_text_most
unfolding sheet_text
text_most answer rows h = omega (arith, length-append (decimal answer) (newline ∷ row_lines rows), decimal_within answer, lines_most rows, h)

-- ---- the answer's line, and the rows' behind it
module _ (answer : ℕ) (rows : List BlockRow) (before : List ℕ) (few : length rows ≤ most_rows) (room : sheet_text_most ≤ length before) where
  fits : 0 + length (decimal answer ++ (newline ∷ row_lines rows)) ≤ length before
  unfolding sheet_text
  fits = omega (arith, text_most answer rows few, room)

  pub number_fits : 0 + length (decimal answer) ≤ length before
  number_fits = room_first 0 before (decimal answer) (newline ∷ row_lines rows) fits

  module _ {after : List ℕ} {stop : ℕ} (p : Puts 0 before after stop (decimal answer)) where
    end_fits : stop + length (newline ∷ row_lines rows) ≤ length after
    end_fits = room_then p (newline ∷ row_lines rows) fits

    pub end_within : stop + 1 ≤ length after
    end_within = omega (arith, end_fits)

    pub end_length : length (set after stop newline) ≡ length before
    end_length = length-set after stop newline ∙ puts_length p number_fits

    pub rows_fit : stop + 1 + length (row_lines rows) ≤ length (set after stop newline)
    rows_fit = room_after_one stop after newline (row_lines rows) end_fits

    pub sheet_put : {out : List ℕ} {end : ℕ} → Puts (stop + 1) (set after stop newline) out end (row_lines rows)
        → Puts 0 before out end (sheet_text answer rows)
    unfolding sheet_text
    sheet_put q = puts_then p (puts_after_one stop after newline (row_lines rows) end_fits q) fits

-- ---- the loop over the rows
pub record Listed (rows : List BlockRow) (start : ℕ) (before after : List ℕ) (at i : ℕ) : Type 0 where
  pub room : start + length (row_lines rows) ≤ length before
  pub put : Putting (row_lines rows) (row_lines (drop i rows)) start before after at

pub listed_none : (rows : List BlockRow) (start : ℕ) (before : List ℕ) → start + length (row_lines rows) ≤ length before
    → Listed rows start before before start 0
listed_none rows start before h = record { room = h; put = putting_none (row_lines rows) start before }

module _ {rows : List BlockRow} {start : ℕ} {before after : List ℕ} {at i : ℕ} (l : Listed rows start before after at i) where
  pub listed_length : length after ≡ length before
  listed_length = putting_length l.put l.room

  module _ (past : BlockRow) (h : i < length rows) where
    next : row_lines (drop i rows) ≡ row_line (get_or rows i past) ++ row_lines (drop (i + 1) rows)
    next = ap row_lines (drop-first past rows i h)

    pub listed_room : at + length (row_line (get_or rows i past)) ≤ length after
    listed_room = putting_room l.put l.room (row_line (get_or rows i past)) (row_lines (drop (i + 1) rows)) next

    pub listed_more : {more : List ℕ} {to : ℕ} → Puts at after more to (row_line (get_or rows i past)) → Listed rows start before more to (i + 1)
    listed_more p = record {
      room = l.room;
      put = putting_more l.put l.room (row_line (get_or rows i past)) (row_lines (drop (i + 1) rows)) next p;
    }

  pub listed_all : length rows ≤ i → Puts start before after at (row_lines rows)
  listed_all h = putting_all l.put l.room (ap row_lines (drop-none rows i h))
