-- Laws of a tidy book: its files as a list, and the book with other files. Assumes nothing.
use Prim.Native.Nat.{ℕ, zero, suc, ◌-◌, ◌<◌}
use mathlib.Core.Path.{◌≡◌, refl, ap, ◌∙◌, sym}
use mathlib.Core.List.{List, [], ◌++◌}
use native.Mathlib.Omega.{arith}
use lib.ListN.{length, drop, get_or, replicate, length-append, length-replicate, get_or-replicate}
use lib.Seq.{drop_at, get_or-take}
use Rattle.premise.specs.declared.File.{File}
use Rattle.premise.specs.Orders.{blank_file}
use Rattle.book.specs.declared.Book.{Book}
use Rattle.book.specs.declared.Waiting.{Waiting}
use Rattle.book.specs.Totals.{waiting_in}
use Rattle.book.specs.Book.{most_files, files_of, book_of}
use Rattle.book.specs.Laws.{TidyBook}
use Rattle.book.proofs.Kept.{count_is}

-- what is read past an array's end
abbrev pub past : File
past = record { premise = 0; retailer = 0; since = 0; window = 0; agreement = 0; entered = 0; count = 0; orders = [] }

-- a book with its count, its totals and its places set; the totals as they were
abbrev pub with_totals : Book → ℕ → Waiting → List File → Book
with_totals b n totals fs = record { today = b.today; count = n; waiting = totals; files = fs }

abbrev pub with_places : Book → ℕ → List File → Book
with_places b n fs = with_totals b n b.waiting fs

-- ---- unused places
unfoldable pub spare : ℕ → List File
spare k = replicate k blank_file

pub spare-length : (k : ℕ) → length (spare k) ≡ k
unfolding spare
spare-length k = length-replicate k blank_file

pub spare-drop : (k j : ℕ) → drop j (spare k) ≡ spare (k - j)
unfolding spare
spare-drop k zero = let e : k - 0 ≡ k = omega arith in rw e
spare-drop zero (suc j) = let e : 0 - suc j ≡ 0 = omega arith in rw e
spare-drop (suc k) (suc j) = let e : suc k - suc j ≡ k - j = omega arith in rw e (spare-drop k j)

pub spare_at : (k j : ℕ) → j < k → get_or (spare k) j past ≡ blank_file
unfolding spare
spare_at k j h = get_or-replicate k j blank_file past h

-- ---- a book made of its files
pub book_is : (today n : ℕ) (totals : Waiting) (places fs : List File) → n ≡ length fs → totals ≡ waiting_in fs
    → places ≡ fs ++ spare (most_files - length fs)
    → ◌≡◌ {A = Book} (record { today = today; count = n; waiting = totals; files = places }) (book_of today fs)
unfolding book_of spare
book_is today n totals places fs e w f = λ i. record { today = today; count = e i; waiting = w i; files = f i }

files_of_lem : (today : ℕ) (fs : List File) → (book_of today fs).files ≡ fs ++ spare (most_files - length fs)
unfolding book_of spare
files_of_lem today fs = refl

-- the file at a place
pub at_file : (b : Book) (i : ℕ) → i < b.count → get_or b.files i past ≡ get_or (files_of b) i past
at_file b i h = sym (get_or-take b.count b.files i past h)

module _ (b : Book) (tidy : TidyBook b) where
  pub split : b.files ≡ files_of b ++ spare (most_files - b.count)
  split =
      ap (λ (x : Book). x.files) tidy.whole ∙ files_of_lem b.today (files_of b)
      ∙ ap (λ (n : ℕ). files_of b ++ spare (most_files - n)) (count_is b tidy)

  pub length_files : length b.files ≡ most_files
  length_files =
      ap length split ∙ length-append (files_of b) (spare (most_files - b.count))
      ∙ omega (arith, count_is b tidy, spare-length (most_files - b.count), tidy.few)

  pub unused : drop b.count b.files ≡ spare (most_files - b.count)
  unused = ap (drop b.count) split ∙ drop_at (files_of b) (spare (most_files - b.count)) b.count (count_is b tidy)
