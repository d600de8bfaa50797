-- `empty` meets its contract: 64 unused places are those of a book with no file.
use lib.ListN.{replicate}
use Rattle.book.specs.Book.{most_files, book_of}
use Rattle.book_files.proofs.start.empty.Goals as goal

pub returns : goal.returns
unfolding book_of
returns c =
    λ i. record {
      today = c.args.today;
      count = 0;
      waiting = c.nothing-waiting.ensures i;
      files = replicate most_files (c.blank_file-none.ensures i);
    }
