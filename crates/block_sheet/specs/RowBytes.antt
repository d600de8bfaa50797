-- The rows of a sheet as bytes: 28 bytes each, low byte first: block 4, first P 8, last P 8, files 4, dark 4; at most 64 rows.
use Rattle.std.specs.Prelude.{ℕ, zero, suc, ◌-◌, List, [], ◌∷◌, ◌++◌, length, take, drop, replicate}
use Rattle.records.specs.Layout.{number}
use Rattle.sheet_rules.specs.declared.BlockRow.{BlockRow}
use Rattle.sheet_rules.specs.Theorems.{spare}

abbrev pub row_length : ℕ
row_length = 28

abbrev pub most_rows : ℕ
most_rows = 64

-- the row that some bytes begin with
unfoldable pub row_of : List ℕ → BlockRow
row_of bytes =
    record {
      block = number (take 4 bytes);
      first = number (take 8 (drop 4 bytes));
      last = number (take 8 (drop 12 bytes));
      files = number (take 4 (drop 20 bytes));
      dark = number (take 4 (drop 24 bytes));
    }

-- the first n rows of some bytes
abbrev pub rows_of : ℕ → List ℕ → List BlockRow
rows_of zero bytes = []
rows_of (suc n) bytes = row_of bytes ∷ rows_of n (drop row_length bytes)

-- rows in 64 places, those behind them spare
abbrev pub padded : List BlockRow → List BlockRow
padded rows = rows ++ replicate (most_rows - length rows) spare
