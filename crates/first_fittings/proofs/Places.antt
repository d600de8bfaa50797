-- Where each byte of a turned record comes from: turned alike, places and bytes say the same. Assumes nothing.
use Prim.Native.Nat.{ℕ, zero, suc, ◌+◌, ◌≤◌, ◌<◌}
use mathlib.Core.Path.{◌≡◌, refl, sym, ap, ap₂, ◌∙◌}
use mathlib.Core.List.{List, [], ◌∷◌, ◌++◌, map, map-append, reverse, reverse_aux}
use native.Mathlib.Omega.{arith}
use lib.ListN.{length, take, drop, get_or}
use lib.Seq.{drop-cons}
use Rattle.first_fittings_rules.specs.Layout.{old_length, widths, turned, turned_record}

module _ (f : ℕ → ℕ) where
  map-take : (n : ℕ) (l : List ℕ) → map f (take n l) ≡ take n (map f l)
  map-take zero l = refl
  map-take (suc n) [] = refl
  map-take (suc n) (x ∷ xs) = ap (λ (l : List ℕ). f x ∷ l) (map-take n xs)

  map-drop : (n : ℕ) (l : List ℕ) → map f (drop n l) ≡ drop n (map f l)
  map-drop zero l = refl
  map-drop (suc n) [] = refl
  map-drop (suc n) (x ∷ xs) = map-drop n xs

  map-reverse : (l done : List ℕ) → map f (reverse_aux l done) ≡ reverse_aux (map f l) (map f done)
  map-reverse [] done = refl
  map-reverse (x ∷ xs) done = map-reverse xs (x ∷ done)

  -- what is done to each byte may be done before they are turned
  map_turned : (fields l : List ℕ) → map f (turned fields l) ≡ turned fields (map f l)
  map_turned [] l = refl
  map_turned (width ∷ others) l =
      map-append f (reverse (take width l)) (turned others (drop width l))
      ∙ ap₂ (λ (a b : List ℕ). a ++ b)
      (map-reverse (take width l) [] ∙ ap reverse (map-take width l))
      (map_turned others (drop width l) ∙ ap (turned others) (map-drop width l))

  get_d_mapped : (l : List ℕ) (i d e : ℕ) → i < length l → get_or (map f l) i d ≡ f (get_or l i e)
  get_d_mapped [] i d e h = absurd (omega arith)
  get_d_mapped (x ∷ xs) zero d e h = refl
  get_d_mapped (x ∷ xs) (suc i) d e h = get_d_mapped xs i d e (omega arith)

-- so many places from one on
abbrev count : ℕ → ℕ → List ℕ
count first zero = []
count first (suc n) = first ∷ count (suc first) n

-- the bytes at them
counted : (l : List ℕ) (first n : ℕ) → first + n ≤ length l → map (λ (i : ℕ). get_or l i 0) (count first n) ≡ take n (drop first l)
counted l first zero h = refl
counted l first (suc n) h =
    rw (drop-cons l first 0 (omega arith)) (ap (λ (r : List ℕ). get_or l first 0 ∷ r) (counted l (suc first) n (omega arith)))

-- the code's table
abbrev pub places : List ℕ
places = 0 ∷ 1 ∷ 3 ∷ 2 ∷ 7 ∷ 6 ∷ 5 ∷ 4 ∷ 15 ∷ 14 ∷ 13 ∷ 12 ∷ 11 ∷ 10 ∷ 9 ∷ 8 ∷ 19 ∷ 18 ∷ 17 ∷ 16 ∷ []

-- it has each place once its field is turned, and is its own inverse: computed
places_turned : turned widths (count 0 old_length) ≡ places
places_turned = refl

pub places_inverse : map (λ (i : ℕ). get_or places i 0) places ≡ count 0 old_length
places_inverse = refl

turned_mapped : (bytes : List ℕ) → old_length ≤ length bytes → turned_record bytes ≡ map (λ (p : ℕ). get_or bytes p 0) places
unfolding turned_record
turned_mapped bytes k =
    ap (turned widths) (sym (counted bytes 0 old_length k))
    ∙ sym (map_turned (λ (p : ℕ). get_or bytes p 0) widths (count 0 old_length))
    ∙ ap (map (λ (p : ℕ). get_or bytes p 0)) places_turned

module _ (i : ℕ) (h : i < old_length) where
  pub turned_at : (bytes : List ℕ) → old_length ≤ length bytes → get_or (turned_record bytes) i 0 ≡ get_or bytes (get_or places i 0) 0
  turned_at bytes k = ap (λ (l : List ℕ). get_or l i 0) (turned_mapped bytes k) ∙ get_d_mapped (λ (p : ℕ). get_or bytes p 0) places i 0 0 h
