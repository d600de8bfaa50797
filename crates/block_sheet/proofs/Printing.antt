-- What is printed: the rows by value, with spare ones behind them, give the sheet's answer and rows. Assumes nothing.
use Prim.Native.Nat.{ℕ, ◌-◌}
use mathlib.Core.Path.{◌≡◌, ap, ap₂, ◌∙◌}
use mathlib.Core.List.{List}
use lib.ListN.{length, take}
use Rattle.tape_text.specs.Numbers.{Puts}
use Rattle.tape_text.proofs.Puts.{puts_as}
use Rattle.book.specs.declared.Book.{Book}
use Rattle.sheet_rules.specs.declared.BlockRow.{BlockRow}
use Rattle.sheet_rules.specs.Sheet.{SheetAnswer, number, sheet_answer, rows_after, Fills}
use Rattle.sheet_rules.proofs.Spare.{spare_rows_hidden}
use Rattle.block_sheet.specs.RowBytes.{most_rows, padded}
use Rattle.block_sheet.specs.Lines.{sheet_text}
use Rattle.block_sheet.specs.Output.{sheet_of}

pub printed : (b c : Book) (rows given after : List BlockRow) (answer : SheetAnswer) (n count : ℕ) {stop : ℕ} {before out : List ℕ}
    → b ≡ c → given ≡ padded rows → Fills b given answer after → n ≡ number answer → count ≡ length rows
    → Puts 0 before out stop (sheet_text n (take count after)) → Puts 0 before out stop (sheet_of c rows)
unfolding sheet_of
printed b c rows given after answer n count same are fills e l p =
    let hidden = spare_rows_hidden c rows (most_rows - length rows) in
    let a : answer ≡ sheet_answer c rows = fills.answered ∙ ap₂ sheet_answer same are ∙ hidden.answer in
    let r : take count after ≡ rows_after (sheet_answer c rows) c rows =
    ap₂ (λ (m : ℕ) (xs : List BlockRow). take m xs) l
    (fills.rows ∙ ap₂ (λ (d : Book) (xs : List BlockRow). rows_after (sheet_answer d xs) d xs) same are
    ∙ ap (λ (x : SheetAnswer). rows_after x c (padded rows)) hidden.answer)
    ∙ hidden.filled in
    puts_as (ap₂ sheet_text (e ∙ ap number a) r) p
