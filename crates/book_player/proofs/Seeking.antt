-- What the search for a premise among the files of a tidy book finds. Assumes nothing.
use Prim.Native.Nat.{ℕ, zero, suc, ◌≤◌, ◌<◌}
use mathlib.Core.Path.{◌≡◌, refl, sym, ap, ◌∙◌}
use mathlib.Core.List.{List, [], ◌∷◌}
use mathlib.Core.Bool.{Bool, true, false}
use native.Mathlib.Omega.{arith}
use lib.Dec.{leb, ltb}
use lib.ListN.{length, get_or}
use denote.Ref.{Bor}
use Rattle.std.specs.Prelude.{Option, Some, None}
use Rattle.std.specs.Option.{MatchOption}
use Rattle.std.specs.Slice.{IsItemAt}
use Rattle.std.specs.List.Sorted.{IsNonDecreasingBy, IsPartitionedBy, IsPartitionPoint}
use Rattle.std.proofs.lemmas.List.Sorted.{IsPartitionedBy-ltb}
use borrow.Author.Tests.{leb-true, leb-false, ltb-true, ltb-false}
use Rattle.lists.proofs.TestLaws.{by_test}
use Rattle.premise.specs.declared.File.{File}
use Rattle.book.specs.declared.Book.{Book}
use Rattle.book.specs.Laws.{BookKept}
use Rattle.book.proofs.Files.{Rising, rises_rising}
use Rattle.book.specs.Book.{files_of}
use Rattle.book_files.specs.Places.{before}
use Rattle.book_files.proofs.Before.{Here, Elsewhere, before_here, before_next}
use Rattle.book_files.proofs.Tidy.{past}

-- The place reached is the premise's, and the number that stands there is its own exactly if the file there is. (0 is no premise's, and
-- stands for no file.)
pub record Sought (premise : ℕ) (b : Book) (at there : ℕ) : Type 0 where
  pub place : at ≡ before premise (files_of b)
  pub held : 0 < premise → there ≡ premise → Here past premise (files_of b)
  pub free : (there ≡ premise → ⊥) → Elsewhere past premise (files_of b)

-- where the numbers before a place are below the premise's, and the one at it is not
before_is : (premise : ℕ) (fs : List File) (at : ℕ) → at ≤ length fs → ((k : ℕ) → k < at → (get_or fs k past).premise < premise)
    → (at < length fs → premise ≤ (get_or fs at past).premise) → at ≡ before premise fs
before_is premise [] at inside below above = omega arith
before_is premise (f ∷ fs) zero inside below above =
    sym (before_here premise {f = f} {left = f ∷ fs} {rest = fs} refl (above (omega arith)))
before_is premise (f ∷ fs) (suc at) inside below above =
    ap suc (before_is premise fs at (omega arith) (λ k h. below (suc k) (omega arith)) (λ h. above (omega arith)))
    ∙ sym (before_next premise {f = f} {left = f ∷ fs} {rest = fs} refl (below 0 (omega arith)))

-- the numbers rise
above : (n : ℕ) (fs : List File) → Rising n fs → (j : ℕ) (d : File) → j < length fs → n < (get_or fs j d).premise
above n [] r j d h = absurd (omega arith)
above n (f ∷ fs) r zero d h = r.0
above n (f ∷ fs) r (suc j) d h = let m = above f.premise fs r.1 j d (omega arith) in omega (arith, m, r.0)

rising_up : (n : ℕ) (fs : List File) → Rising n fs → IsNonDecreasingBy (λ (f : File). f.premise) fs
rising_up n [] r i j d le lt = absurd (omega arith)
rising_up n (f ∷ fs) r zero zero d le lt = omega arith
rising_up n (f ∷ fs) r zero (suc j) d le lt = let m = above f.premise fs r.1 j d (omega arith) in omega (arith, m)
rising_up n (f ∷ fs) r (suc i) zero d le lt = absurd (omega arith)
rising_up n (f ∷ fs) r (suc i) (suc j) d le lt = rising_up f.premise fs r.1 i j d (omega arith) (omega arith)

-- so that a search by halves finds the place
pub halves : (premise : ℕ) (b : Book) → BookKept b → IsPartitionedBy (λ (f : File). ltb f.premise premise) (files_of b)
halves premise b k =
    IsPartitionedBy-ltb (λ (f : File). f.premise) (files_of b) premise (rising_up 0 (files_of b) (rises_rising 0 (files_of b) k.rising))

-- the number read at a place; 0 where no file stands there
abbrev Reads : List File → ℕ → ℕ → Type 0
Reads fs at there = (at < length fs → there ≡ (get_or fs at past).premise) × (length fs ≤ at → there ≡ 0)

pub reads : (fs : List File) (at there : ℕ) (got : Option (Bor File)) {Post : Bor File → Type 0} → IsItemAt fs at got
    → MatchOption got (there ≡ 0) Post → ((x : Bor File) → Post x → there ≡ x.now.premise) → Reads fs at there
reads fs at there None item m e = ((λ h. absurd (omega (arith, h, item.3))), λ _. m)
reads fs at there (Some x) item m e = (
  (λ _. e x m ∙ ap (λ (f : File). f.premise) (item.4 (omega arith) past)),
  λ h. absurd (omega (arith, h, item.3.0)),
)

pub sought : (premise : ℕ) (b : Book) (at there : ℕ) → at ≤ length (files_of b)
    → IsPartitionPoint (λ (f : File). ltb f.premise premise ≡ true) (λ (f : File). ltb f.premise premise ≡ false) (files_of b) at
    → Reads (files_of b) at there → Sought premise b at there
sought premise b at there inside point read =
    let place : at ≡ before premise (files_of b) =
    before_is premise (files_of b) at inside (λ k h. ltb-true _ premise (point.0 k past (omega arith) h))
    (λ h. ltb-false _ premise (point.1 at past (omega arith) h)) in
    let number : at < length (files_of b) → there ≡ (get_or (files_of b) (before premise (files_of b)) past).premise =
    λ h. read.0 h ∙ ap (λ (i : ℕ). (get_or (files_of b) i past).premise) place in
    record {
      place = place;
      held = λ some is.
          let within : at < length (files_of b) =
          by_test (λ (_ : Bool). at < length (files_of b)) (leb (length (files_of b)) at) true false
          (λ past_all. absurd (omega (arith, some, is, read.1 (leb-true (length (files_of b)) at past_all))))
          (λ inside_all. leb-false (length (files_of b)) at inside_all) in
          (omega (arith, within, place), sym (number within) ∙ is);
      free = λ other h is. other (number (omega (arith, h, place)) ∙ is);
    }
