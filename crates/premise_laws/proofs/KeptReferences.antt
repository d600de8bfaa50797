-- F distinct in a file goes by the list of references alone; an order taken away keeps it, and so does a new one whose reference none has.
-- Assumes nothing.
use Prim.Native.Nat.{ℕ}
use mathlib.Core.Path.{◌≡◌, refl, sym, ap, ap₂, ◌∙◌}
use mathlib.Core.List.{List, [], ◌∷◌, ◌++◌, map}
use mathlib.Core.Bool.{Bool, true, false, not, ◌&&◌, ◌||◌}
use lib.Dec.{eqb}
use borrow.Author.Tests.{not-true, eqb-false, ne_eqb}
use Rattle.lists.specs.Search.{any_of, without_first}
use Rattle.lists.proofs.TestLaws.{by_test, and_left, and_right, or_left, or_right}
use Rattle.lists.proofs.SearchLaws.{any_append, any-map, any_without}
use Rattle.premise.specs.declared.Order.{Order}
use Rattle.premise.specs.WellKept.{distinct}

-- whether an order has a reference
abbrev pub has_reference : ℕ → Order → Bool
has_reference reference o = eqb o.reference reference

-- the references of some orders
abbrev pub references : List Order → List ℕ
references os = map (λ (o : Order). o.reference) os

abbrev differ : List ℕ → Bool
differ [] = true
differ (n ∷ ns) = not (any_of (λ (m : ℕ). eqb m n) ns) && differ ns

distinct_is : (os : List Order) → distinct os ≡ differ (references os)
distinct_is [] = refl
distinct_is (o ∷ os) =
    ap₂ (λ (a b : Bool). not a && b) (sym (any-map (λ (m : ℕ). eqb m o.reference) (λ (x : Order). x.reference) os)) (distinct_is os)

pub distinct_same : (os after : List Order) → references after ≡ references os → distinct os ≡ true → distinct after ≡ true
distinct_same os after e h = distinct_is after ∙ ap differ e ∙ sym (distinct_is os) ∙ h

-- the first order's reference stands nowhere after it, and the others differ
module _ (o : Order) (os : List Order) (h : distinct (o ∷ os) ≡ true) where
  pub first_alone : any_of (has_reference o.reference) os ≡ false
  first_alone = not-true (any_of (has_reference o.reference) os) (and_left (not (any_of (has_reference o.reference) os)) (distinct os) h)

  pub rest_distinct : distinct os ≡ true
  rest_distinct = and_right (not (any_of (has_reference o.reference) os)) (distinct os) h

pub distinct_without : (q : Order → Bool) (os : List Order) → distinct os ≡ true → distinct (without_first q os) ≡ true
distinct_without q [] h = refl
distinct_without q (o ∷ os) h =
    let rest = rest_distinct o os h in
    let others = distinct_without q os rest in
    by_test (λ (xs : List Order). distinct xs ≡ true) (q o) os (o ∷ without_first q os) (λ e. rest)
    (λ e. ap₂ (λ (a b : Bool). not a && b) (any_without (has_reference o.reference) q os (first_alone o os h)) others)

pub distinct_more : (os : List Order) (new : Order) → distinct os ≡ true → any_of (has_reference new.reference) os ≡ false
    → distinct (os ++ (new ∷ [])) ≡ true
distinct_more [] new h k = refl
distinct_more (o ∷ os) new h k =
    let others = or_right (has_reference new.reference o) (any_of (has_reference new.reference) os) k in
    let first = or_left (has_reference new.reference o) (any_of (has_reference new.reference) os) k in
    let other = ne_eqb new.reference o.reference (λ q. eqb-false o.reference new.reference first (sym q)) in
    ap₂ (λ (a b : Bool). not a && b)
    (any_append (has_reference o.reference) os (new ∷ []) (first_alone o os h) (ap (λ (b : Bool). b || false) other))
    (distinct_more os new (rest_distinct o os h) others)
