-- The sums' premises are met by one sample; in another, whose ranges overlap, the sums are one too many. Assumes nothing.
use Prim.Native.Nat.{◌≤◌}
use mathlib.Core.Path.{◌≡◌, refl}
use mathlib.Core.Bool.{Bool, true, false, cond, and-false}
use native.Mathlib.Omega.{arith}
use Rattle.std.specs.Prelude.{Ok}
use lib.Dec.{leb}
use borrow.Author.Tests.{leb-true, leb-false, lt-leb}
use Rattle.lists.specs.Search.{count_of}
use Rattle.premise.specs.WellKept.{order_kept_by, is_blank, file_kept_by, file_blank}
use Rattle.book.specs.Totals.{waiting_in}
use Rattle.book.specs.Book.{book_of, book_kept_by}
use Rattle.sheet_rules.specs.Sheet.{number, in_range, tally_of, counted, row_sound, sheet_answer, rows_after, Fills}
use Rattle.sheet_rules.specs.Theorems.{spans, Apart, Covers}
use Rattle.sheet_rules.specs.Samples.{three, falling, falling_filled, SumsMet}
use Rattle.sheet_rules.proofs.Sums.{sums_are_the_books}

most : (a : Bool) → cond a 1 0 ≤ 1
most true = omega arith
most false = omega arith

-- no number lies in two of the first rows
apart : Apart falling
apart p = go (leb 20 p) refl (leb 40 p) refl
  where
    go : (a : Bool) → leb 20 p ≡ a → (b : Bool) → leb 40 p ≡ b → count_of (spans p) falling ≤ 1
    go true e true f =
        rw (e, f, lt-leb p 39 (omega (arith, leb-true 40 p f)), lt-leb p 19 (omega (arith, leb-true 40 p f)), and-false (leb 10 p))
        (omega (arith, most (leb p 49)))
    go true e false f = rw (e, f, lt-leb p 19 (omega (arith, leb-true 20 p e)), and-false (leb 10 p)) (omega (arith, most (leb p 39)))
    go false e true f = absurd (omega (arith, leb-true 40 p f, leb-false 20 p e))
    go false e false f = rw (e, f) (omega (arith, most (in_range 10 19 p)))

pub sums_met : SumsMet
unfolding order_kept_by is_blank file_kept_by file_blank waiting_in book_of book_kept_by number tally_of counted row_sound sheet_answer rows_after
sums_met =
    let promised : Fills three falling (Ok tt) falling_filled = record { answered = refl; rows = refl } in
    let covers : Covers falling three = (refl, (refl, (refl, tt))) in
    record {
      promised = promised;
      apart = apart;
      covers = covers;
      sums = sums_are_the_books three falling falling_filled (Ok tt) promised refl apart covers;
      twice = refl;
      twice_dark = refl;
    }
