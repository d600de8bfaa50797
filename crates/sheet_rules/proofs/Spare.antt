-- Rows behind others that are sound and not looked at do not show. Assumes nothing.
use Prim.Native.Nat.{ℕ, zero, suc}
use mathlib.Core.Path.{◌≡◌, refl, ap}
use mathlib.Core.List.{List, [], ◌∷◌, ◌++◌, map}
use mathlib.Core.Bool.{Bool, true, ◌&&◌}
use lib.ListN.{length, take, replicate}
use Rattle.std.specs.Prelude.{Ok, Err}
use lib.Seq.{take_at}
use Rattle.lists.specs.Search.{all_of}
use Rattle.book.specs.declared.Book.{Book}
use Rattle.book.specs.Book.{book_kept}
use Rattle.sheet_rules.specs.declared.BlockRow.{BlockRow}
use Rattle.sheet_rules.specs.declared.SheetRefusal.TheVariants.{NotWellKept, UnsoundRow}
use Rattle.sheet_rules.specs.Sheet.{SheetAnswer, counted, row_sound, is_sound, answer_by, sheet_answer, rows_after}
use Rattle.sheet_rules.specs.Theorems.{spare, SpareRowsHidden}

all_spare : (n : ℕ) → all_of is_sound (replicate n spare) ≡ true
unfolding row_sound
all_spare zero = refl
all_spare (suc n) = all_spare n

still_sound : (rows : List BlockRow) (n : ℕ) → all_of is_sound (rows ++ replicate n spare) ≡ all_of is_sound rows
still_sound [] n = all_spare n
still_sound (r ∷ rs) n = ap (λ (b : Bool). is_sound r && b) (still_sound rs n)

mapped_front : (f : BlockRow → BlockRow) (rows others : List BlockRow) → take (length rows) (map f (rows ++ others)) ≡ map f rows
mapped_front f [] others = refl
mapped_front f (r ∷ rs) others = ap (λ (l : List BlockRow). f r ∷ l) (mapped_front f rs others)

front : (answer : SheetAnswer) (b : Book) (rows others : List BlockRow)
    → take (length rows) (rows_after answer b (rows ++ others)) ≡ rows_after answer b rows
unfolding rows_after
front (Ok filled) b rows others = mapped_front (counted b) rows others
front (Err NotWellKept) b rows others = take_at rows others (length rows) refl
front (Err UnsoundRow) b rows others = take_at rows others (length rows) refl

pub spare_rows_hidden : SpareRowsHidden
unfolding sheet_answer
spare_rows_hidden b rows n =
    record {
      answer = ap (answer_by (book_kept b)) (still_sound rows n);
      filled = front (sheet_answer b rows) b rows (replicate n spare);
    }
