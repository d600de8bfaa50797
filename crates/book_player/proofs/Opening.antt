-- A file put in at a place of a tidy book: what moving the files from there on one place up, and it in the place, leave. Assumes nothing.
use Prim.Native.Nat.{ℕ, suc, ◌+◌, ◌-◌, ◌≤◌, ◌<◌}
use mathlib.Core.Path.{◌≡◌, sym, ap, ap₂, ◌∙◌}
use mathlib.Core.List.{List, [], ◌∷◌, ◌++◌, append_assoc}
use native.Mathlib.Numerals.{add-one}
use native.Mathlib.Omega.{arith}
use lib.ListN.{length, take, drop, get_or, set, length-append, length-drop, take-append-drop}
use lib.Seq.{paste, set_at, take-suc, length-take-le, take-append-le, take_at, drop-append-add}
use Rattle.std.proofs.lemmas.List.{drop-append-le}
use Rattle.std.proofs.lemmas.List.Edits.{take-paste, drop-paste}
use Rattle.lists.specs.Shift.{inserted}
use Rattle.lists.proofs.Shift.{inserted-length}
use Rattle.premise.specs.declared.File.{File}
use Rattle.premise.specs.Orders.{blank_file}
use Rattle.book.specs.declared.Book.{Book}
use Rattle.book.specs.Totals.{waiting_in}
use Rattle.book.specs.Book.{most_files, files_of, book_of}
use Rattle.book.specs.Laws.{TidyBook}
use Rattle.book.proofs.Kept.{count_is}
use Rattle.book_files.proofs.Tidy.{past, with_places, spare, book_is, split}

-- the elements of a list in two parts, as a copy within it leaves them
pub pasted : {X : Type 0} (l : List X) (at : ℕ) (s : List X) (k : ℕ) → at ≤ length l → k ≤ length s
    → paste l at s k ≡ (take at l ++ take k s) ++ drop (at + k) l
pasted l at s k inside few =
    sym (take-append-drop (at + k) (paste l at s k))
    ∙ ap₂ (λ (a b : List _). a ++ b) (take-paste l at s k inside few) (drop-paste l at s k inside few)

take_one : {X : Type 0} (d : X) (l : List X) (i : ℕ) → i < length l → take (i + 1) l ≡ take i l ++ (get_or l i d ∷ [])
take_one d l i h = rw (add-one i, take-suc l i d h)

-- the elements from a place on move up, over the first that is to go, and another takes the place
put_in : {X : Type 0} (d : X) (at : ℕ) (l : List X) (s : X) (rest : List X) (x : X) → at ≤ length l
    → set (paste (l ++ (s ∷ rest)) (at + 1) (drop at (l ++ (s ∷ rest))) (length l - at)) at x ≡ inserted at x l ++ rest
unfolding inserted
put_in {X = X} d at l s rest x h =
    let all : List X = l ++ (s ∷ rest) in
    let k : ℕ = length l - at in
    let long : length all ≡ length l + suc (length rest) = length-append l (s ∷ rest) in
    let front : take at all ≡ take at l = take-append-le at l (s ∷ rest) h in
    let behind : drop at all ≡ drop at l ++ (s ∷ rest) = drop-append-le at l (s ∷ rest) h in
    let moved : take k (drop at all) ≡ drop at l = ap (take k) behind ∙ take_at (drop at l) (s ∷ rest) k (length-drop at l) in
    let end : drop (at + 1 + k) all ≡ rest =
    ap (λ (n : ℕ). drop n all) (omega arith) ∙ drop-append-add l (s ∷ rest) 1 in
    let first : take (at + 1) all ≡ take at l ++ (get_or all at d ∷ []) =
    take_one d all at (omega (arith, long)) ∙ ap (λ (a : List X). a ++ (get_or all at d ∷ [])) front in
    ap (λ (p : List X). set p at x)
    (pasted all (at + 1) (drop at all) k (omega (arith, long)) (omega (arith, long, length-drop at all))
    ∙ (λ i. (first i ++ moved i) ++ end i)
    ∙ ap (λ (p : List X). p ++ rest) (append_assoc (take at l) (get_or all at d ∷ []) (drop at l))
    ∙ append_assoc (take at l) (get_or all at d ∷ drop at l) rest)
    ∙ set_at (take at l) (get_or all at d) (drop at l ++ rest) x at (length-take-le at l h)
    ∙ sym (append_assoc (take at l) (x ∷ drop at l) rest)

module _ (b : Book) (tidy : TidyBook b) (at : ℕ) (f : File) (h : at ≤ b.count) (free : b.count < most_files) where
  inside : at ≤ length (files_of b)
  inside = omega (arith, count_is b tidy)

  grown_count : length (inserted at f (files_of b)) ≡ b.count + 1
  grown_count = inserted-length past at (files_of b) [] [] inside f ∙ ap (λ (n : ℕ). n + 1) (count_is b tidy)

  -- the places with an unused one behind the files
  with_free : b.files ≡ files_of b ++ (blank_file ∷ spare (most_files - (b.count + 1)))
  unfolding spare
  with_free =
      let e : most_files - b.count ≡ suc (most_files - (b.count + 1)) = omega arith in
      split b tidy ∙ ap (λ (n : ℕ). files_of b ++ spare n) e

  -- the file is put in, and moves no total
  pub opened : (l : List File) → l ≡ paste b.files (at + 1) (drop at b.files) (b.count - at)
      → b.waiting ≡ waiting_in (inserted at f (files_of b))
      → with_places b (b.count + 1) (set l at f) ≡ book_of b.today (inserted at f (files_of b))
  opened l moved totals =
      let rest = spare (most_files - (b.count + 1)) in
      let places : set l at f ≡ inserted at f (files_of b) ++ rest =
      ap (λ (x : List File). set x at f) moved
      ∙ (λ i. set (paste (with_free i) (at + 1) (drop at (with_free i)) (sym (count_is b tidy) i - at)) at f)
      ∙ put_in past at (files_of b) blank_file rest f inside in
      book_is b.today (b.count + 1) b.waiting (set l at f) (inserted at f (files_of b)) (sym grown_count) totals
      (places ∙ ap (λ (n : ℕ). inserted at f (files_of b) ++ spare (most_files - n)) (sym grown_count))
