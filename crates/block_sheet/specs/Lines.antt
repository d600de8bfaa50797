-- What the program prints: first the answer; then for each row `b`, its block, its first and last P, its files, and the dark ones.
use Rattle.std.specs.Prelude.{ℕ, ◌+◌, ◌*◌, List, [], ◌∷◌, ◌++◌}
use Rattle.tape_text.specs.Numbers.{most_digits, newline, decimal, lettered, lettered_most}
use Rattle.sheet_rules.specs.declared.BlockRow.{BlockRow}
use Rattle.block_sheet.specs.RowBytes.{most_rows}

-- the letter `b`
abbrev pub block_letter : ℕ
block_letter = 98

unfoldable pub row_line : BlockRow → List ℕ
row_line r = lettered block_letter (r.block ∷ r.first ∷ r.last ∷ r.files ∷ r.dark ∷ [])

abbrev pub row_lines : List BlockRow → List ℕ
row_lines [] = []
row_lines (r ∷ rs) = row_line r ++ row_lines rs

unfoldable pub sheet_text : ℕ → List BlockRow → List ℕ
sheet_text answer rows = decimal answer ++ (newline ∷ row_lines rows)

-- the most bytes that it takes
abbrev pub sheet_text_most : ℕ
sheet_text_most = most_digits + 1 + lettered_most 5 * most_rows
