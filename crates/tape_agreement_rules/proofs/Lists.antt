-- Lists that are the same by a test; the smallest of some numbers that pass one; facts of each element. Assumes nothing.
use Prim.Native.Nat.{ℕ, ◌<◌, min}
use mathlib.Core.Path.{◌≡◌, refl, ap₂, subst, sym, ◌∙◌}
use mathlib.Core.List.{List, [], ◌∷◌, ◌++◌}
use Rattle.std.specs.Prelude.{Option, Some, None}
use mathlib.Core.Bool.{Bool, true, false, cond, ◌&&◌, ◌||◌, false≢true}
use native.Mathlib.Omega.{arith}
use lib.Dec.{eqb, leb}
use borrow.Author.Tests.{eqb-true, eqb-false, eq-eqb, leb-true, leb-false}
use Rattle.lists.specs.Search.{any_of, Each}
use Rattle.lists.proofs.TestLaws.{and_left, and_right, or_left, or_right, or_either}
use Rattle.lists.proofs.SearchLaws.{each_map}
use Rattle.tape_agreement_rules.specs.Agreement.{same_by, same_bytes, same_records, smaller, smallest_of}

-- ---- the same by a test
module _ {A : Type 0} (same : A → A → Bool) where
  same_is : ((x y : A) → same x y ≡ true → x ≡ y) → (xs ys : List A) → same_by same xs ys ≡ true → xs ≡ ys
  same_is is [] [] e = refl
  same_is is [] (y ∷ ys) e = absurd (false≢true e)
  same_is is (x ∷ xs) [] e = absurd (false≢true e)
  same_is is (x ∷ xs) (y ∷ ys) e =
      ap₂ (λ (z : A) (zs : List A). z ∷ zs) (is x y (and_left (same x y) (same_by same xs ys) e))
      (same_is is xs ys (and_right (same x y) (same_by same xs ys) e))

  same_self : ((x : A) → same x x ≡ true) → (xs : List A) → same_by same xs xs ≡ true
  same_self self [] = refl
  same_self self (x ∷ xs) = ap₂ (λ (a b : Bool). a && b) (self x) (same_self self xs)

pub bytes_same : (xs ys : List ℕ) → same_bytes xs ys ≡ true → xs ≡ ys
bytes_same = same_is eqb eqb-true

pub bytes_self : (xs : List ℕ) → same_bytes xs xs ≡ true
bytes_self = same_self eqb (λ n. eq-eqb n n refl)

pub records_same : (xs ys : List (List ℕ)) → same_records xs ys ≡ true → xs ≡ ys
records_same = same_is same_bytes bytes_same

pub records_self : (xs : List (List ℕ)) → same_records xs xs ≡ true
records_self = same_self same_bytes bytes_self

pub records_differ : (xs ys : List (List ℕ)) → same_records xs ys ≡ false → xs ≡ ys → ⊥
records_differ xs ys e same = false≢true (sym e ∙ subst (λ (zs : List (List ℕ)). same_records xs zs ≡ true) same (records_self xs))

-- ---- each element
module _ {A : Type 0} (P : A → Type 0) where
  pub each_left : (xs ys : List A) → Each P (xs ++ ys) → Each P xs
  each_left [] ys h = tt
  each_left (x ∷ xs) ys h = (h.0, each_left xs ys h.1)

  pub each_right : (xs ys : List A) → Each P (xs ++ ys) → Each P ys
  each_right [] ys h = h
  each_right (x ∷ xs) ys h = each_right xs ys h.1

-- a number stands among some
abbrev pub among : ℕ → List ℕ → Bool
among n ns = any_of (λ (m : ℕ). eqb m n) ns

pub of_each : (P : ℕ → Type 0) (n : ℕ) (ns : List ℕ) → among n ns ≡ true → Each P ns → P n
of_each P n [] e h = absurd (false≢true e)
of_each P n (m ∷ ns) e h =
    or_either (eqb m n) (among n ns) e (λ here. subst P (eqb-true m n here) h.0) (λ later. of_each P n ns later h.1)

pub none_is : (n : ℕ) (ns : List ℕ) → among n ns ≡ false → Each (λ (m : ℕ). m ≡ n → ⊥) ns
none_is n [] e = tt
none_is n (m ∷ ns) e =
    (eqb-false m n (or_left (eqb m n) (among n ns) e), none_is n ns (or_right (eqb m n) (among n ns) e))

-- ---- the smallest that passes
pub record SmallestIs (test : ℕ → Bool) (ns : List ℕ) (m : ℕ) : Type 0 where
  pub stands : among m ns ≡ true
  pub passes : test m ≡ true
  pub below : Each (λ (n : ℕ). n < m → test n ≡ false) ns

abbrev pub Smallest : (ℕ → Bool) → List ℕ → Option ℕ → Type 0
Smallest test ns None = Each (λ (n : ℕ). test n ≡ false) ns
Smallest test ns (Some m) = SmallestIs test ns m

or-true : (a b : Bool) → b ≡ true → (a || b) ≡ true
or-true true b e = refl
or-true false b e = e

pub smallest : (test : ℕ → Bool) (ns : List ℕ) → Smallest test ns (smallest_of test ns)
smallest test [] = tt
smallest test (n ∷ ns) = go (test n) refl (smallest_of test ns) (smallest test ns)
  where
    first : test n ≡ true → Each (λ (k : ℕ). k < n → test k ≡ false) ns → SmallestIs test (n ∷ ns) n
    first t below = record { stands = rw (eq-eqb n n refl); passes = t; below = ((λ l. absurd (omega arith)), below) }

    later : (m : ℕ) → (n < m → test n ≡ false) → SmallestIs test ns m → SmallestIs test (n ∷ ns) m
    later m t s = record {
      stands = or-true (eqb n m) (among m ns) s.stands;
      passes = s.passes;
      below = (t, s.below);
    }

    both : test n ≡ true → (m : ℕ) → SmallestIs test ns m → (b : Bool) → leb n m ≡ b → SmallestIs test (n ∷ ns) (min n m)
    both t m s true l =
        let le = leb-true n m l in
        let e : n ≡ min n m = omega (arith, le) in
        subst (SmallestIs test (n ∷ ns)) e
        (first t (each_map (λ (k : ℕ). k < m → test k ≡ false) (λ (k : ℕ). k < n → test k ≡ false) (λ k f b. f (omega (arith, b, le))) ns
        s.below))
    both t m s false l =
        let less = leb-false n m l in
        let e : m ≡ min n m = omega (arith, less) in
        subst (SmallestIs test (n ∷ ns)) e (later m (λ b. absurd (omega (arith, b, less))) s)

    go : (t : Bool) → test n ≡ t → (o : Option ℕ) → Smallest test ns o → Smallest test (n ∷ ns) (cond t (smaller n o) o)
    go true t None s = first t (each_map (λ (k : ℕ). test k ≡ false) (λ (k : ℕ). k < n → test k ≡ false) (λ k f b. f) ns s)
    go true t (Some m) s = both t m s (leb n m) refl
    go false t None s = (t, s)
    go false t (Some m) s = later m (λ l. t) s
