-- The whole output, from a calendar, a tape and the bytes of a sheet.
use Rattle.std.specs.Prelude.{ℕ, ◌/◌, List, length}
use Rattle.book.specs.declared.Book.{Book}
use Rattle.book.specs.Book.{fresh_book}
use Rattle.book.specs.CallsInRow.{records_of}
use Rattle.sheet_rules.specs.declared.BlockRow.{BlockRow}
use Rattle.sheet_rules.specs.Sheet.{number, sheet_answer, rows_after}
use Rattle.tape_book.specs.Played.{book_after}
use Rattle.block_sheet.specs.RowBytes.{row_length, rows_of}
use Rattle.block_sheet.specs.Lines.{sheet_text}

-- the text of a sheet over a book: the answer, and the rows as they stand after the call
unfoldable pub sheet_of : Book → List BlockRow → List ℕ
sheet_of b rows = sheet_text (number (sheet_answer b rows)) (rows_after (sheet_answer b rows) b rows)

abbrev pub sheet_output : List ℕ → List ℕ → List ℕ → List ℕ
sheet_output calendar tape blocks =
    sheet_of (book_after calendar (fresh_book 0) (records_of (length tape) tape)) (rows_of (length blocks / row_length) blocks)
