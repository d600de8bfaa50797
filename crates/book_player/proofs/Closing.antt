-- The file at a place taken out of a tidy book: what moving the files behind it one place down, and no file in the last, leave. Assumes
-- nothing.
use Prim.Native.Nat.{ℕ, suc, ◌+◌, ◌-◌, ◌<◌}
use mathlib.Core.Path.{◌≡◌, refl, sym, ap, ◌∙◌}
use mathlib.Core.List.{List, [], ◌∷◌, ◌++◌}
use native.Mathlib.Omega.{arith}
use lib.ListN.{length, take, drop, get_or, set, length-append, length-drop}
use lib.Seq.{paste, set_at, length-take-le, take-append-le, take_at, drop_at}
use Rattle.std.proofs.lemmas.List.{drop-append-le}
use Rattle.lists.specs.Shift.{removed}
use Rattle.lists.proofs.Find.{drop-first}
use Rattle.lists.proofs.Shift.{removed-length}
use Rattle.premise.specs.declared.File.{File}
use Rattle.premise.specs.Orders.{blank_file}
use Rattle.book.specs.declared.Book.{Book}
use Rattle.book.specs.Totals.{waiting_in}
use Rattle.book.specs.Book.{most_files, files_of, book_of}
use Rattle.book.specs.Laws.{TidyBook}
use Rattle.book.proofs.Kept.{count_is}
use Rattle.book_files.proofs.Tidy.{past, with_places, spare, book_is, split}
use Rattle.book_player.proofs.Opening.{pasted}

-- the elements behind a place move down, and another takes the last of them
taken_out : {X : Type 0} (d : X) (at : ℕ) (l rest : List X) (x : X) → at < length l
    → set (paste (l ++ rest) at (drop (at + 1) (l ++ rest)) (length l - (at + 1))) (length l - 1) x ≡ removed at l ++ (x ∷ rest)
unfolding removed
taken_out {X = X} d at l rest x h =
    let all : List X = l ++ rest in
    let k : ℕ = length l - (at + 1) in
    let last : ℕ = length l - 1 in
    let long : length all ≡ length l + length rest = length-append l rest in
    let front : take at all ≡ take at l = take-append-le at l rest (omega arith) in
    let moved : take k (drop (at + 1) all) ≡ drop (at + 1) l =
    ap (take k) (drop-append-le (at + 1) l rest (omega arith)) ∙ take_at (drop (at + 1) l) rest k (length-drop (at + 1) l) in
    let next : last + 1 ≡ length l = omega arith in
    let end : drop (at + k) all ≡ get_or all last d ∷ rest =
    ap (λ (n : ℕ). drop n all) (omega arith)
    ∙ drop-first d all last (omega (arith, long))
    ∙ ap (λ (r : List X). get_or all last d ∷ r) (ap (λ (n : ℕ). drop n all) next ∙ drop_at l rest (length l) refl) in
    ap (λ (p : List X). set p last x)
    (pasted all at (drop (at + 1) all) k (omega (arith, long)) (omega (arith, long, length-drop (at + 1) all))
    ∙ (λ i. (front i ++ moved i) ++ end i))
    ∙ set_at (take at l ++ drop (at + 1) l) (get_or all last d) rest x last
    (length-append (take at l) (drop (at + 1) l)
    ∙ omega (arith, length-take-le at l (omega arith), length-drop (at + 1) l))

module _ (b : Book) (tidy : TidyBook b) (at : ℕ) (h : at < b.count) where
  inside : at < length (files_of b)
  inside = omega (arith, count_is b tidy)

  shrunk_count : length (removed at (files_of b)) ≡ b.count - 1
  shrunk_count = omega (arith, removed-length past at (files_of b) [] [] (omega (arith, inside)) inside, count_is b tidy)

  -- the last place that was used is unused: the file is taken out, and moves no total
  pub closed : (l : List File) → l ≡ paste b.files at (drop (at + 1) b.files) (b.count - (at + 1)) → (none : File) → none ≡ blank_file
      → b.waiting ≡ waiting_in (removed at (files_of b))
      → with_places b (b.count - 1) (set l (b.count - 1) none) ≡ book_of b.today (removed at (files_of b))
  unfolding spare
  closed l moved none blank totals =
      let rest = spare (most_files - b.count) in
      let n = sym (count_is b tidy) in
      let one_more : suc (most_files - b.count) ≡ most_files - (b.count - 1) = omega (arith, tidy.few) in
      let places : set l (b.count - 1) none ≡ removed at (files_of b) ++ spare (most_files - (b.count - 1)) =
      (λ i. set (moved i) (b.count - 1) (blank i))
      ∙ (λ i. set (paste (split b tidy i) at (drop (at + 1) (split b tidy i)) (n i - (at + 1))) (n i - 1) blank_file)
      ∙ taken_out past at (files_of b) rest blank_file inside
      ∙ ap (λ (m : ℕ). removed at (files_of b) ++ spare m) one_more in
      book_is b.today (b.count - 1) b.waiting (set l (b.count - 1) none) (removed at (files_of b)) (sym shrunk_count) totals
      (places ∙ ap (λ (m : ℕ). removed at (files_of b) ++ spare (most_files - m)) (sym shrunk_count))
