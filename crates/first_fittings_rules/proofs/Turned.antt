-- Bytes turned field by field: as many as before, the same numbers high byte first, and turned again the bytes. Assumes nothing.
use Prim.Native.Nat.{ℕ, ◌+◌, ◌*◌, ◌≤◌}
use mathlib.Core.Path.{◌≡◌, refl, ap, ap₂, ◌∙◌}
use mathlib.Core.List.{List, [], ◌∷◌, ◌++◌, reverse, reverse-cons, reverse-reverse}
use native.Mathlib.Omega.{arith}
use lib.ListN.{length, take, drop, length-append, length-drop, length-reverse, take-append-drop}
use lib.Seq.{length-take-le, take_at, drop_at}
use Rattle.first_fittings_rules.specs.Layout.{old_length, widths, total, turned, low_first, high_from, high_first, numbers, turned_record}
use Rattle.first_fittings_rules.specs.ThereAndBack.{TurnedTwice, SameNumbers}

-- a first field and the others
module _ (width : ℕ) (others bytes : List ℕ) (e : length bytes ≡ width + total others) where
  first-length : length (reverse (take width bytes)) ≡ width
  first-length = length-reverse (take width bytes) ∙ length-take-le width bytes (omega (arith, e))

  others_length : length (drop width bytes) ≡ total others
  others_length = length-drop width bytes ∙ omega (arith, e)

pub length-turned : (widths bytes : List ℕ) → length bytes ≡ total widths → length (turned widths bytes) ≡ total widths
length-turned [] bytes e = refl
length-turned (width ∷ others) bytes e =
    length-append (reverse (take width bytes)) (turned others (drop width bytes))
    ∙ ap₂ (λ (a b : ℕ). a + b) (first-length width others bytes e)
    (length-turned others (drop width bytes) (others_length width others bytes e))

pub turned_twice : TurnedTwice
turned_twice [] [] e = refl
turned_twice [] (byte ∷ bytes) e = absurd (omega (arith, e))
turned_twice (width ∷ others) bytes e =
    let first = reverse (take width bytes) in
    let rest = turned others (drop width bytes) in
    let k = first-length width others bytes e in
    ap₂ (λ (a b : List ℕ). reverse a ++ turned others b) (take_at first rest width k) (drop_at first rest width k)
    ∙ ap₂ (λ (a b : List ℕ). a ++ b) (reverse-reverse (take width bytes))
    (turned_twice others (drop width bytes) (others_length width others bytes e))
    ∙ take-append-drop width bytes

-- ---- the numbers
high_more : (n : ℕ) (bytes : List ℕ) (byte : ℕ) → high_from n (bytes ++ (byte ∷ [])) ≡ 256 * high_from n bytes + byte
high_more n [] byte = refl
high_more n (first ∷ bytes) byte = high_more (256 * n + first) bytes byte

high_turned : (bytes : List ℕ) → high_first (reverse bytes) ≡ low_first bytes
high_turned [] = refl
high_turned (byte ∷ bytes) = ap high_first (reverse-cons byte bytes) ∙ high_more 0 (reverse bytes) byte ∙ omega (arith, high_turned bytes)

pub same_numbers : SameNumbers
same_numbers [] bytes e = refl
same_numbers (width ∷ others) bytes e =
    let first = reverse (take width bytes) in
    let rest = turned others (drop width bytes) in
    let k = first-length width others bytes e in
    ap₂ (λ (n : ℕ) (ns : List ℕ). n ∷ ns)
    (ap high_first (take_at first rest width k) ∙ high_turned (take width bytes))
    (ap (numbers high_first others) (drop_at first rest width k)
    ∙ same_numbers others (drop width bytes) (others_length width others bytes e))

pub length_record : (bytes : List ℕ) → old_length ≤ length bytes → length (turned_record bytes) ≡ old_length
unfolding turned_record
length_record bytes h = length-turned widths (take old_length bytes) (length-take-le old_length bytes h)
