-- The loop that puts the lines of a book's files, before the last line: after i turns the first i are put. Assumes nothing.
use Prim.Native.Nat.{ℕ, ◌+◌, ◌≤◌, ◌<◌}
use mathlib.Core.Path.{◌≡◌, sym, ap, ◌∙◌}
use mathlib.Core.List.{List, [], ◌++◌, append_assoc, append-nil}
use native.Mathlib.Omega.{arith}
use lib.ListN.{length, drop, get_or}
use Rattle.lists.proofs.Find.{drop-first, drop-none}
use Rattle.premise.specs.declared.File.{File}
use Rattle.book.specs.Book.{files_of}
use Rattle.book_files.proofs.Tidy.{past}
use Rattle.tape_text.specs.Numbers.{Puts}
use Rattle.tape_text.specs.Text.{file_line, total_line}
use Rattle.tape_output.specs.declared.Playing.{Playing}
use Rattle.tape_output.specs.Output.{file_lines, ending}
use Rattle.tape_output.specs.Stretches.{ending_most, Ready}
use Rattle.tape_output.proofs.Lines.{ending_most_lem}
use Rattle.tape_text.proofs.Putting.{Putting, putting_none, putting_length, putting_room, putting_more, putting_last}

abbrev pub line_of : File → List ℕ
line_of f = file_line f.premise f.retailer f.since

-- the last line, and what is left of the end after the first i files
abbrev pub last_line : Playing → List ℕ
last_line p = total_line p.reader.accepted p.reader.refused

abbrev pub ending_from : Playing → ℕ → List ℕ
ending_from p i = file_lines (drop i (files_of p.book)) ++ last_line p

pub record Filed (p : Playing) (start : ℕ) (before after : List ℕ) (at i : ℕ) : Type 0 where
  pub room : start + length (ending p) ≤ length before
  pub put : Putting (ending p) (ending_from p i) start before after at

pub filed_none : (p : Playing) (start : ℕ) (b : List ℕ) → Ready p → start + ending_most ≤ length b → Filed p start b b start 0
unfolding ending
filed_none p start b ready room =
    record {
      room = omega (arith, ending_most_lem p ready);
      put = putting_none (ending p) start b;
    }

module _ {p : Playing} {start : ℕ} {b c : List ℕ} {at i : ℕ} (l : Filed p start b c at i) where
  pub filed_length : length c ≡ length b
  filed_length = putting_length l.put l.room

  -- one file more
  module _ (h : i < length (files_of p.book)) where
    abbrev file : File
    file = get_or (files_of p.book) i past

    next : ending_from p i ≡ line_of file ++ ending_from p (i + 1)
    next =
        ap (λ (fs : List File). file_lines fs ++ last_line p) (drop-first past (files_of p.book) i h)
        ∙ append_assoc (line_of file) (file_lines (drop (i + 1) (files_of p.book))) (last_line p)

    pub filed_room : at + length (line_of file) ≤ length c
    filed_room = putting_room l.put l.room (line_of file) (ending_from p (i + 1)) next

    pub filed_more : {d : List ℕ} {to : ℕ} → Puts at c d to (line_of file) → Filed p start b d to (i + 1)
    filed_more q = record {
      room = l.room;
      put = putting_more l.put l.room (line_of file) (ending_from p (i + 1)) next q;
    }

  -- the last line
  module _ (h : length (files_of p.book) ≤ i) where
    last : Putting (ending p) (last_line p) start b c at
    last = rw (drop-none (files_of p.book) i h) at l.put

    pub filed_last : at + length (last_line p) ≤ length c
    filed_last = putting_room last l.room (last_line p) [] (sym (append-nil (last_line p)))

    pub filed_all : {d : List ℕ} {to : ℕ} → Puts at c d to (last_line p) → Puts start b d to (ending p)
    filed_all q = putting_last last l.room q
