-- What it asks to move a well_kept book's totals to a file that is stored at a place, and what that leaves. Assumes nothing.
use Prim.Native.Nat.{ℕ, ◌≤◌, ◌<◌}
use mathlib.Core.Path.{◌≡◌, refl, sym, subst, subst⁻¹, ◌∙◌}
use native.Mathlib.Omega.{arith}
use lib.ListN.{length, get_or, set}
use lib.Seq.{get_or-take}
use Rattle.premise.specs.declared.File.{File}
use Rattle.premise.specs.Orders.{blank_file, places}
use Rattle.premise.specs.WellKept.{Tidy}
use Rattle.book.specs.declared.Book.{Book}
use Rattle.book.specs.declared.Waiting.{Waiting}
use Rattle.book.specs.Totals.{waiting_in, moved, Counts}
use Rattle.book.specs.Book.{most_files, files_of}
use Rattle.book.specs.Laws.{BookKept}
use Rattle.book.proofs.Kept.{count_is, totals_are}
use Rattle.book.proofs.Totals.{counts_at, moved_store}
use Rattle.book_files.proofs.Tidy.{past}

-- an unused file is tidy
blank_tidy : Tidy blank_file
unfolding places
blank_tidy = record { few = omega arith; whole = refl }

pub none_tidy : {none : File} → none ≡ blank_file → Tidy none
none_tidy e = subst⁻¹ Tidy e blank_tidy

module _ (b : Book) (k : BookKept b) where
  few : length (files_of b) ≤ most_files
  few = omega (arith, k.tidy.few, count_is b k.tidy)

  module _ (at : ℕ) (h : at < b.count) where
    inside : at < length (files_of b)
    inside = omega (arith, h, count_is b k.tidy)

    read : get_or (files_of b) at past ≡ get_or b.files at past
    read = get_or-take b.count b.files at past h

    -- the orders of the file at a place are among its own
    pub place_counted : Counts b.waiting (get_or b.files at past)
    place_counted =
        subst (Counts b.waiting) read
        (subst⁻¹ (λ (w : Waiting). Counts w (get_or (files_of b) at past)) (totals_are b k.tidy)
        (counts_at (files_of b) at past inside few k.files))

    pub stored_totals : (g : File) {totals : Waiting} → totals ≡ moved b.waiting (get_or b.files at past) g
        → totals ≡ waiting_in (set (files_of b) at g)
    stored_totals g sum =
        sum ∙ (λ i. moved (totals_are b k.tidy i) (sym read i) g) ∙ moved_store (files_of b) at past g inside
