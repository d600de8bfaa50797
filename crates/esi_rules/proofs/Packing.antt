-- Packed decimal: digits are read back from their packed bytes and bytes packed again from their halves, by induction on pairs of digits,
-- in
-- which an odd last digit is a case. So packed bytes and count decide which digits they are of. Assumes nothing.
use Prim.Native.Nat.{ℕ, zero, suc, ◌+◌, ◌-◌, ◌*◌, ◌/◌, ◌%◌, ◌<◌, ◌≤◌}
use mathlib.Core.Path.{◌≡◌, refl, ap, ap₂, ◌∙◌}
use mathlib.Core.List.{List, [], ◌∷◌, ◌++◌}
use mathlib.Core.Bool.{true, ◌&&◌}
use native.Mathlib.Omega.{arith}
use lib.ListN.{length, take, drop, get_or, replicate, length-append, length-replicate, get_or-replicate}
use borrow.Author.Tests.{eqb-true}
use Rattle.lists.specs.Search.{all_of}
use Rattle.lists.proofs.TestLaws.{and_left, and_right}
use Rattle.records.specs.Layout.{Bytes}
use Rattle.esi_rules.specs.Packed.{Digits, unused, is_unused, pair, halves, pack, packed}
use Rattle.esi_rules.specs.Theorems.{Unpacks, PackedDecides, PackedAloneDecides}

abbrev both : ℕ
both = pair unused unused

cons : {x y : ℕ} {xs ys : List ℕ} → x ≡ y → xs ≡ ys → ◌≡◌ {A = List ℕ} (x ∷ xs) (y ∷ ys)
cons p q = ap₂ (λ (a : ℕ) (l : List ℕ). a ∷ l) p q

-- ---- unpacking
unpack_filled : (digits rest : List ℕ) → Digits digits → take (length digits) (halves (pack digits ++ rest)) ≡ digits
unpack_filled [] rest h = refl
unpack_filled (a ∷ []) rest h = cons (omega (arith, h.0)) refl
unpack_filled (a ∷ b ∷ ds) rest h =
    cons (omega (arith, h.1.0)) (cons (omega (arith, h.1.0)) (unpack_filled ds rest h.1.1))

pub unpacks : Unpacks
unpacks width digits h = unpack_filled digits (replicate (width - length (pack digits)) both) h

-- 15 is no digit: where the digits of one end and those of another go on, the bytes differ
alone : (m n : ℕ) (these those : List ℕ) → Digits these → Digits those → pack these ++ replicate m both ≡ pack those ++ replicate n both
    → these ≡ those
alone m n [] [] h k e = refl
alone zero n [] (c ∷ []) h k e = absurd (let z : ◌≡◌ {A = ℕ} 0 1 = cc in omega arith)
alone zero n [] (c ∷ d ∷ ds) h k e = absurd (let z : ◌≡◌ {A = ℕ} 0 1 = cc in omega arith)
alone (suc m) n [] (c ∷ []) h k e = let z : both ≡ pair c unused = cc in absurd (omega (arith, k.0, z))
alone (suc m) n [] (c ∷ d ∷ ds) h k e = let z : both ≡ pair c d = cc in absurd (omega (arith, k.0, k.1.0, z))
alone m n (a ∷ []) (c ∷ []) h k e = let z : pair a unused ≡ pair c unused = cc in cons (omega (arith, z)) refl
alone m n (a ∷ []) (c ∷ d ∷ ds) h k e = let z : pair a unused ≡ pair c d = cc in absurd (omega (arith, k.1.0, z))
alone m zero (a ∷ []) [] h k e = absurd (let z : ◌≡◌ {A = ℕ} 0 1 = cc in omega arith)
alone m (suc n) (a ∷ []) [] h k e = let z : pair a unused ≡ both = cc in absurd (omega (arith, h.0, z))
alone m zero (a ∷ b ∷ bs) [] h k e = absurd (let z : ◌≡◌ {A = ℕ} 0 1 = cc in omega arith)
alone m (suc n) (a ∷ b ∷ bs) [] h k e = let z : pair a b ≡ both = cc in absurd (omega (arith, h.0, h.1.0, z))
alone m n (a ∷ b ∷ bs) (c ∷ []) h k e = let z : pair a b ≡ pair c unused = cc in absurd (omega (arith, h.1.0, z))
alone m n (a ∷ b ∷ bs) (c ∷ d ∷ ds) h k e =
    let z : pair a b ≡ pair c d = cc in
    let rest : pack bs ++ replicate m both ≡ pack ds ++ replicate n both = cc in
    cons (omega (arith, h.1.0, k.1.0, z)) (cons (omega (arith, h.1.0, k.1.0, z)) (alone m n bs ds h.1.1 k.1.1 rest))

pub packed_alone_decides : PackedAloneDecides
packed_alone_decides width these those h k e = alone (width - length (pack these)) (width - length (pack those)) these those h k e

pub packed_decides : PackedDecides
packed_decides width these those h k bytes counts = packed_alone_decides width these those h k bytes

-- ---- packing what was unpacked
module _ (byte : ℕ) where
  high_unused : byte < 256 → (byte / 16 ≡ 15) → (byte % 16 ≡ 15) → both ≡ byte
  high_unused h p q = omega arith

pub all_unused : (bytes : List ℕ) → Bytes bytes → all_of is_unused (halves bytes) ≡ true → replicate (length bytes) both ≡ bytes
all_unused [] h e = refl
all_unused (b ∷ bs) h e =
    let p = eqb-true (b / 16) unused (and_left (is_unused (b / 16)) (is_unused (b % 16) && all_of is_unused (halves bs)) e) in
    let r = and_right (is_unused (b / 16)) (is_unused (b % 16) && all_of is_unused (halves bs)) e in
    let q = eqb-true (b % 16) unused (and_left (is_unused (b % 16)) (all_of is_unused (halves bs)) r) in
    cons (high_unused b h.0 p q) (all_unused bs h.1 (and_right (is_unused (b % 16)) (all_of is_unused (halves bs)) r))

fill : (width taken : ℕ) → replicate (suc width - suc taken) both ≡ replicate (width - taken) both
fill width taken = let e : suc width - suc taken ≡ width - taken = omega arith in ap (λ (n : ℕ). replicate n both) e

pub packs_back : (count : ℕ) (bytes : List ℕ) → Bytes bytes → all_of is_unused (drop count (halves bytes)) ≡ true
    → packed (length bytes) (take count (halves bytes)) ≡ bytes
packs_back zero bytes h e =
    let n : length bytes - 0 ≡ length bytes = omega arith in
    ap (λ (k : ℕ). replicate k both) n ∙ all_unused bytes h e
packs_back (suc count) [] h e = refl
packs_back (suc zero) (b ∷ bs) h e =
    let q = eqb-true (b % 16) unused (and_left (is_unused (b % 16)) (all_of is_unused (halves bs)) e) in
    let n : suc (length bs) - 1 ≡ length bs = omega arith in
    cons (omega (arith, q)) (ap (λ (k : ℕ). replicate k both) n ∙ all_unused bs h.1
    (and_right (is_unused (b % 16)) (all_of is_unused (halves bs)) e))
packs_back (suc (suc count)) (b ∷ bs) h e =
    let used = pack (take count (halves bs)) in
    cons (omega arith) (ap (λ (l : List ℕ). used ++ l) (fill (length bs) (length used)) ∙ packs_back count bs h.1 e)

-- ---- the bytes one by one
-- how many there are
length-pack : (digits : List ℕ) → 2 * length (pack digits) ≤ suc (length digits)
length-pack [] = omega arith
length-pack (a ∷ []) = omega arith
length-pack (a ∷ b ∷ ds) = omega (arith, length-pack ds)

pub length-packed : (width : ℕ) (digits : List ℕ) → length digits ≤ 2 * width → length (packed width digits) ≡ width
length-packed width digits h =
    length-append (pack digits) (replicate (width - length (pack digits)) both)
    ∙ omega (arith, length-pack digits, length-replicate (width - length (pack digits)) both)

-- each is a byte
filled_bytes : (n : ℕ) (digits : List ℕ) → Digits digits → Bytes (pack digits ++ replicate n both)
filled_bytes zero [] h = tt
filled_bytes (suc n) [] h = (omega arith, filled_bytes n [] tt)
filled_bytes n (a ∷ []) h = (omega (arith, h.0), filled_bytes n [] tt)
filled_bytes n (a ∷ b ∷ ds) h = (omega (arith, h.0, h.1.0), filled_bytes n ds h.1.1)

pub packed_bytes : (width : ℕ) (digits : List ℕ) → Digits digits → Bytes (packed width digits)
packed_bytes width digits h = filled_bytes (width - length (pack digits)) digits h

-- the byte at a place has the digits at twice the place and behind it, and unused halves where there are none
filled_at : (n : ℕ) (digits : List ℕ) (i : ℕ) → i < length (pack digits) + n
    → get_or (pack digits ++ replicate n both) i 0 ≡ pair (get_or digits (2 * i) unused) (get_or digits (2 * i + 1) unused)
filled_at n [] i h = get_or-replicate n i both 0 (omega arith)
filled_at n (a ∷ []) zero h = refl
filled_at n (a ∷ []) (suc i) h =
    let e : 2 * suc i ≡ suc (suc (2 * i)) = omega arith in
    let f : 2 * suc i + 1 ≡ suc (suc (2 * i + 1)) = omega arith in
    rw (f, e) (get_or-replicate n i both 0 (omega arith))
filled_at n (a ∷ b ∷ ds) zero h = refl
filled_at n (a ∷ b ∷ ds) (suc i) h =
    let e : 2 * suc i ≡ suc (suc (2 * i)) = omega arith in
    let f : 2 * suc i + 1 ≡ suc (suc (2 * i + 1)) = omega arith in
    rw (f, e) (filled_at n ds i (omega arith))

pub packed_at : (width : ℕ) (digits : List ℕ) (i : ℕ) → i < width
    → get_or (packed width digits) i 0 ≡ pair (get_or digits (2 * i) unused) (get_or digits (2 * i + 1) unused)
packed_at width digits i h = filled_at (width - length (pack digits)) digits i (omega arith)
