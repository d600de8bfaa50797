-- Document 01, "The book": T and up to 64 files in rising P.
use Rattle.std.specs.Prelude.{ℕ, ◌-◌, min, List, [], ◌∷◌, ◌++◌, Bool, true, cond, ◌&&◌, eqb, leb, ltb, length, take, drop, replicate}
use Rattle.std.specs.Prelude.{Option, Some, None}
use Rattle.lists.specs.Search.{all_of}
use Rattle.days.specs.Days.{last_day, is_day}
use Rattle.records.specs.Layout.{Layout, wide}
use Rattle.premise.specs.declared.File.{File}
use Rattle.premise.specs.Orders.{blank_file}
use Rattle.premise.specs.WellKept.{file_kept_by, file_blank}
use Rattle.book.specs.declared.Book.{Book}
use Rattle.book.specs.Totals.{waiting_in, same_totals}

-- up to 64 files
abbrev pub most_files : ℕ
most_files = 64

-- the files that a book holds
abbrev pub files_of : Book → List File
files_of b = take b.count b.files

-- The book with a day and some files, its other places zero. Document 02, change 11: "The book keeps four totals that every call keeps
-- true": they are made of the files, so that books of one day and equal files are equal, and every book that a call makes has them.
unfoldable pub book_of : ℕ → List File → Book
book_of today files =
    record {
      today = today;
      count = length files;
      waiting = waiting_in files;
      files = files ++ replicate (most_files - length files) blank_file;
    }

-- A fresh one is made from a start day; above 4,095 it starts at 4,095.
abbrev pub fresh_book : ℕ → Book
fresh_book start = book_of (min start last_day) []

-- premise numbers rise, and the first is above a number
abbrev pub rises_from : ℕ → List File → Bool
rises_from n [] = true
rises_from n (f ∷ fs) = ltb n f.premise && rises_from f.premise fs

-- Well kept: T and every file in range, P rising, unused places zero. (It has 64 places by its type; the definition, over lists, says so.)
-- Document 02, change 7: retailers are in range by the layout's limit. Change 11: "A book whose totals are off is not well kept."
unfoldable pub book_kept_by : Layout → Book → Bool
book_kept_by layout b =
    is_day b.today
    && leb b.count most_files
    && eqb (length b.files) most_files
    && all_of (file_kept_by layout) (files_of b)
    && rises_from 0 (files_of b)
    && same_totals b.waiting (waiting_in (files_of b))
    && all_of file_blank (drop b.count b.files)

abbrev pub book_kept : Book → Bool
book_kept = book_kept_by wide

-- the file of a premise, or none
unfoldable pub file_for : ℕ → List File → Option File
file_for premise [] = None
file_for premise (f ∷ fs) = cond (eqb f.premise premise) (Some f) (file_for premise fs)

-- a file put in by its premise number, in the place of the one that has it
unfoldable pub put_in : File → List File → List File
put_in f [] = f ∷ []
put_in f (g ∷ gs) = cond (ltb f.premise g.premise) (f ∷ g ∷ gs) (cond (eqb f.premise g.premise) (f ∷ gs) (g ∷ put_in f gs))

-- the file of a premise taken out
unfoldable pub taken_out : ℕ → List File → List File
taken_out premise [] = []
taken_out premise (g ∷ gs) = cond (eqb g.premise premise) gs (g ∷ taken_out premise gs)

-- the files with another file, or none, for a premise
abbrev pub with_file : ℕ → Option File → List File → List File
with_file premise None fs = taken_out premise fs
with_file premise (Some f) fs = put_in f fs
