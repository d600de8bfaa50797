-- Laws of the layout, over any width and any field. Assumes nothing.
use Prim.Native.Nat.{ℕ, zero, suc, ◌/◌, ◌^◌, ◌<◌}
use mathlib.Core.Path.{◌≡◌, refl, ap, ap₂}
use mathlib.Core.List.{List, [], ◌∷◌}
use native.Mathlib.Nat.{mod-lt, mod-add-div, pow-suc, one-le-pow}
use native.Mathlib.Omega.{arith}
use lib.ListN.{length, take, drop, get_or}
use Rattle.records.specs.Layout.{Field, Bytes, number, bytes_of, field_of}

-- A number that goes into so many bytes is read back from them.
pub number_bytes : (width n : ℕ) → n < 256 ^ width → number (bytes_of width n) ≡ n
number_bytes zero n h = omega arith
number_bytes (suc width) n h =
    let below : n / 256 < 256 ^ width = omega (arith, rw pow-suc at h) in
    rw (number_bytes width (n / 256) below) (mod-add-div n 256)

pub length-bytes : (width n : ℕ) → length (bytes_of width n) ≡ width
length-bytes zero n = refl
length-bytes (suc width) n = ap suc (length-bytes width (n / 256))

pub bytes_are : (width n : ℕ) → Bytes (bytes_of width n)
bytes_are zero n = tt
bytes_are (suc width) n = (mod-lt n (omega arith), bytes_are width (n / 256))

pub bytes_drop : (n : ℕ) (xs : List ℕ) → Bytes xs → Bytes (drop n xs)
bytes_drop zero xs h = h
bytes_drop (suc n) [] h = tt
bytes_drop (suc n) (x ∷ xs) h = bytes_drop n xs h.1

pub bytes_take : (n : ℕ) (xs : List ℕ) → Bytes xs → Bytes (take n xs)
bytes_take zero xs h = tt
bytes_take (suc n) [] h = tt
bytes_take (suc n) (x ∷ xs) h = (h.0, bytes_take n xs h.1)

-- every element is a byte, where each index has one: what the checker knows of a lent slice
pub bytes_each : (xs : List ℕ) → ((i : ℕ) → get_or xs i 0 < 256) → Bytes xs
bytes_each [] h = tt
bytes_each (x ∷ xs) h = (h 0, bytes_each xs (λ i. h (suc i)))

pub bytes_at : (xs : List ℕ) → Bytes xs → (i : ℕ) → get_or xs i 0 < 256
bytes_at [] h i = omega arith
bytes_at (x ∷ xs) h zero = h.0
bytes_at (x ∷ xs) h (suc i) = bytes_at xs h.1 i

-- so many bytes give a number that goes into them
number_below : (width : ℕ) (xs : List ℕ) → Bytes xs → number (take width xs) < 256 ^ width
number_below zero xs h = omega arith
number_below (suc width) [] h = one-le-pow (suc width) 256 (omega arith)
number_below (suc width) (x ∷ xs) h = rw pow-suc (omega (arith, number_below width xs h.1))

-- A field of bytes is within its width.
pub field_below : (field : Field) (xs : List ℕ) → Bytes xs → field_of field xs < 256 ^ field.width
unfolding field_of
field_below field xs h = number_below field.width (drop field.start xs) (bytes_drop field.start xs h)

-- As many bytes that give the same number are the same.
pub number_decides : (xs ys : List ℕ) → Bytes xs → Bytes ys → length xs ≡ length ys → number xs ≡ number ys → xs ≡ ys
number_decides [] [] h k l e = refl
number_decides [] (y ∷ ys) h k l e = absurd (omega arith)
number_decides (x ∷ xs) [] h k l e = absurd (omega arith)
number_decides (x ∷ xs) (y ∷ ys) h k l e =
    ap₂ (λ (b : ℕ) (bs : List ℕ). b ∷ bs) (omega (arith, h.0, k.0))
    (number_decides xs ys h.1 k.1 (omega arith) (omega (arith, h.0, k.0)))
