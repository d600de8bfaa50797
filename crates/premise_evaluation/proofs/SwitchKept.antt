-- The switch that is kept for a day, order against order: a contender gives way if another one of its day is preferred to it. Assumes
-- nothing.
use Prim.Native.Nat.{ℕ, zero, suc, ◌+◌, ◌<◌, ◌≤◌}
use mathlib.Core.Path.{◌≡◌, refl, sym, ap, ap₂, ◌∙◌}
use mathlib.Core.List.{List, [], ◌∷◌}
use mathlib.Core.Bool.{Bool, true, false, not, ◌&&◌, ◌||◌, false≢true}
use native.Mathlib.Omega.{arith}
use lib.Dec.{eqb, ltb}
use lib.ListN.{length, get_or}
use borrow.Author.Tests.{eq-eqb, ne_eqb, lt-ltb, le-ltb}
use Rattle.lists.specs.Search.{any_of, place_from, place_of, is_at, or_else}
use Rattle.std.specs.Prelude.{Option, Some, None}
use Rattle.premise.specs.declared.Order.{Order}
use Rattle.premise.specs.Orders.{blank, scheduled, cancel_pending, has_status, is_switch}
use Rattle.premise.specs.Evaluation.{contends, contends_for, switch_of_day, gives_way}
use Rattle.premise_laws.specs.Changes.{any_at}
use Rattle.premise_evaluation.specs.Ousting.{is_preferred}
use Rattle.premise_evaluation.proofs.PlaceTests.{any_same, any_or, any_and, any_plain}

-- ---- a search for the oldest that passes
-- an order that passes, and is older than a place
abbrev older : (Order → Bool) → ℕ → ℕ → Order → Bool
older p i j x = p x && ltb j i

none_older : (p : Order → Bool) (i k : ℕ) (os : List Order) → i ≤ k → any_at (older p i) k os ≡ false
none_older p i k [] h = refl
none_older p i k (x ∷ xs) h = ap₂ (λ (a b : Bool). a || b) (fails (p x) (le-ltb k i h)) (none_older p i (suc k) xs (omega (arith, h)))
  where
    fails : {b : Bool} (a : Bool) → b ≡ false → (a && b) ≡ false
    fails true e = e
    fails false e = refl

-- Where the order at a place passes, the search finds another if an older one passes.
finds_older : (p : Order → Bool) (g : Option ℕ) (i k m : ℕ) (os : List Order) → i ≡ k + m → m < length os → p (get_or os m blank) ≡ true
    → not (is_at (or_else (place_from p k os) g) i) ≡ any_at (older p i) k os
finds_older p g i k m [] s h e = absurd (omega arith)
finds_older p g i k zero (x ∷ xs) s h e =
    rw (e, eq-eqb k i (omega (arith, s)), le-ltb k i (omega (arith, s)), none_older p i (suc k) xs (omega (arith, s)))
finds_older p g i k (suc m) (x ∷ xs) s h e =
    go (p x) refl (finds_older p g i (suc k) m xs (omega (arith, s)) (omega arith) e)
  where
    go : (b : Bool) → p x ≡ b → not (is_at (or_else (place_from p (suc k) xs) g) i) ≡ any_at (older p i) (suc k) xs
        → not (is_at (or_else (place_from p k (x ∷ xs)) g) i) ≡ any_at (older p i) k (x ∷ xs)
    go true q ih = rw (q, ne_eqb k i (λ z. omega (arith, z, s)), lt-ltb k i (omega (arith, s)))
    go false q ih = rw q ih

-- Where the order at a place does not pass, the search finds another if one passes at all.
finds_any : (p : Order → Bool) (g : Option ℕ) (i k : ℕ) (os : List Order)
    → ((m : ℕ) → i ≡ k + m → m < length os → p (get_or os m blank) ≡ false)
    → not (is_at (or_else (place_from p k os) g) i) ≡ (any_of p os || not (is_at g i))
finds_any p g i k [] fails = refl
finds_any p g i k (x ∷ xs) fails =
    go (p x) refl (finds_any p g i (suc k) xs (λ m s h. fails (suc m) (omega (arith, s)) (omega (arith, h))))
  where
    go : (b : Bool) → p x ≡ b → not (is_at (or_else (place_from p (suc k) xs) g) i) ≡ (any_of p xs || not (is_at g i))
        → not (is_at (or_else (place_from p k (x ∷ xs)) g) i) ≡ (any_of p (x ∷ xs) || not (is_at g i))
    go true q ih = rw (q, ne_eqb k i (λ z. false≢true (sym (fails 0 (omega (arith, z)) (omega arith)) ∙ q)))
    go false q ih = rw q ih

or_nothing : (f : Option ℕ) → or_else f None ≡ f
or_nothing (Some i) = refl
or_nothing None = refl

-- ---- the switch that is kept
module _ (near : ℕ → Bool) (day : ℕ) where
  -- a contender that is Scheduled
  abbrev scheduled_for : Order → Bool
  scheduled_for x = contends_for near day x && has_status scheduled x

  scheduled_older : (i j : ℕ) (x : Order)
      → older scheduled_for i j x ≡ (contends_for near day x && (has_status scheduled x && ltb j i))
  scheduled_older i j x = assoc (contends_for near day x) (has_status scheduled x) (ltb j i)
    where
      assoc : (a b c : Bool) → (a && b && c) ≡ (a && (b && c))
      assoc true b c = refl
      assoc false b c = refl

  either_older : (i j : ℕ) (x : Order)
      → (scheduled_for x || older (contends_for near day) i j x)
      ≡ (contends_for near day x && (has_status scheduled x || has_status cancel_pending x && ltb j i))
  unfolding contends
  either_older i j x =
      go (is_switch x) (has_status scheduled x) (has_status cancel_pending x) (near x.scheduled) (eqb x.scheduled day) (ltb j i)
    where
      go : (w s c n e l : Bool)
          → (w && (s || c) && n && e && s || w && (s || c) && n && e && l) ≡ (w && (s || c) && n && e && (s || c && l))
      go false s c n e l = refl
      go true true c true true l = refl
      go true true c true false l = refl
      go true true c false e l = refl
      go true false true true true l = refl
      go true false true true false l = refl
      go true false true false e l = refl
      go true false false n e l = refl

  module _ (os : List Order) (i : ℕ) (h : i < length os) where
    -- where the order at the place is a Scheduled contender
    kept_scheduled : scheduled_for (get_or os i blank) ≡ true
        → not (is_at (switch_of_day near os day) i)
        ≡ any_at (λ (j : ℕ) (x : Order). contends_for near day x && (has_status scheduled x && ltb j i)) 0 os
    unfolding switch_of_day
    kept_scheduled e =
        finds_older scheduled_for (place_of (contends_for near day) os) i 0 i os (omega arith) h e
        ∙ any_same (older scheduled_for i) (λ (j : ℕ) (x : Order). contends_for near day x && (has_status scheduled x && ltb j i))
        (scheduled_older i) 0 os

    -- where it is one that is not Scheduled
    kept_pending : scheduled_for (get_or os i blank) ≡ false → contends_for near day (get_or os i blank) ≡ true
        → not (is_at (switch_of_day near os day) i)
        ≡ any_at (λ (j : ℕ) (x : Order). contends_for near day x && (has_status scheduled x || has_status cancel_pending x && ltb j i)) 0 os
    unfolding switch_of_day
    kept_pending d e =
        let contender = place_of (contends_for near day) os in
        finds_any scheduled_for contender i 0 os
        (λ m s k. ap (λ (j : ℕ). scheduled_for (get_or os j blank)) (omega (arith, s)) ∙ d)
        ∙ ap₂ (λ (a b : Bool). a || b) (sym (any_plain scheduled_for 0 os))
        (ap (λ (f : Option ℕ). not (is_at f i)) (sym (or_nothing contender))
        ∙ finds_older (contends_for near day) None i 0 i os (omega arith) h e)
        ∙ sym (any_or (λ (j : ℕ) (x : Order). scheduled_for x) (older (contends_for near day) i) 0 os)
        ∙ any_same (λ (j : ℕ) (x : Order). scheduled_for x || older (contends_for near day) i j x)
        (λ (j : ℕ) (x : Order). contends_for near day x && (has_status scheduled x || has_status cancel_pending x && ltb j i))
        (either_older i) 0 os

-- a contender gives way if another one of its day is preferred to it
pub gives_way_to : (near : ℕ → Bool) (os : List Order) (i : ℕ) (o : Order) → i < length os → get_or os i blank ≡ o
    → gives_way near os i o
    ≡ any_at (λ (j : ℕ) (x : Order). contends near o && (contends_for near o.scheduled x && is_preferred i o j x)) 0 os
unfolding gives_way
gives_way_to near os i o h e =
    by_contender (contends near o) refl
    ∙ sym (any_and (contends near o) (λ (j : ℕ) (x : Order). contends_for near o.scheduled x && is_preferred i o j x) 0 os)
  where
    by_status : contends near o ≡ true → (s : Bool) → has_status scheduled o ≡ s
        → not (is_at (switch_of_day near os o.scheduled) i)
        ≡ any_at (λ (j : ℕ) (x : Order). contends_for near o.scheduled x && is_preferred i o j x) 0 os
    by_status c true s =
        rw s (kept_scheduled near o.scheduled os i h (rw (e, c, s, eq-eqb o.scheduled o.scheduled refl)))
    by_status c false s =
        rw s (kept_pending near o.scheduled os i h (rw (e, c, s, eq-eqb o.scheduled o.scheduled refl))
        (rw (e, c, eq-eqb o.scheduled o.scheduled refl)))

    by_contender : (b : Bool) → contends near o ≡ b
        → (contends near o && not (is_at (switch_of_day near os o.scheduled) i))
        ≡ (contends near o && any_at (λ (j : ℕ) (x : Order). contends_for near o.scheduled x && is_preferred i o j x) 0 os)
    by_contender true c = ap (λ (b : Bool). contends near o && b) (by_status c (has_status scheduled o) refl)
    by_contender false c = rw c
