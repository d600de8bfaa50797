-- The first twelve bytes of a record that breaks no rule are the packed digits of its ESI ID and their count; as numbers they decide which
-- ESI ID it is, since packing does. Assumes nothing.
use Prim.Native.Nat.{ℕ, ◌+◌, ◌*◌, ◌≤◌}
use mathlib.Core.Path.{◌≡◌, refl, sym, ap, ap₂, ◌∙◌}
use mathlib.Core.List.{List, [], ◌∷◌, ◌++◌}
use mathlib.Core.Bool.{Bool, true, false, not, ◌&&◌, ◌||◌, false≢true}
use native.Mathlib.Omega.{arith}
use lib.Dec.{eqb}
use lib.ListN.{length, take, drop, get_or, length-append, length-take, length-drop, take-append-drop}
use lib.Seq.{length-take-le, take_all, take-suc, take_at, drop_at, drop-cons, drop-drop}
use borrow.Author.Tests.{leb-true, eqb-true, eq-eqb}
use Rattle.lists.specs.Search.{all_of, Each}
use Rattle.lists.proofs.TestLaws.{and_left, and_right}
use Rattle.lists.proofs.SearchLaws.{each_of_all, each_map}
use Rattle.records.specs.Layout.{Bytes, number, field_of}
use Rattle.records.proofs.Decode.{field_of_first}
use Rattle.records.proofs.Fields.{bytes_drop, bytes_take, number_decides}
use Rattle.esi_rules.specs.Packed.{last_digit, is_digit, Digits, is_unused, halves, packed}
use Rattle.esi_rules.specs.Distinct.{distinct}
use Rattle.esi_rules.specs.Directory.{id_width, zero_field, records, digit_count, premise_of, used_halves, long_count, is_count, halves_kept}
use Rattle.esi_rules.specs.Directory.{record_kept, same_digits, same_id, same_premise, none_twice}
use Rattle.esi_rules.specs.LookUp.{has_digits}
use Rattle.esi_rules.specs.Keys.{key_width, first_width, last_width, key_of, key_bytes, same_key, has_key, clashes}
use Rattle.esi_rules.proofs.Packing.{packed_decides, packs_back, length-packed, packed_bytes}
use Rattle.esi_rules.proofs.Rows.{Long, Shaped, shaped, each_both}
use Rattle.esi_rules.proofs.Distinctness.{distinct_either, distinct_agree}

-- two tests that each say the other
agree : (a b : Bool) → (a ≡ true → b ≡ true) → (b ≡ true → a ≡ true) → a ≡ b
agree true b f g = sym (f refl)
agree false true f g = g refl
agree false false f g = refl

-- ---- the same digits
pub same_refl : (ds : List ℕ) → same_digits ds ds ≡ true
same_refl [] = refl
same_refl (d ∷ ds) = ap₂ (λ (a b : Bool). a && b) (eq-eqb d d refl) (same_refl ds)

pub same_true : (xs ys : List ℕ) → same_digits xs ys ≡ true → xs ≡ ys
same_true [] [] h = refl
same_true [] (y ∷ ys) h = absurd (false≢true h)
same_true (x ∷ xs) [] h = absurd (false≢true h)
same_true (x ∷ xs) (y ∷ ys) h =
    ap₂ (λ (d : ℕ) (l : List ℕ). d ∷ l)
    (eqb-true x y (and_left (eqb x y) (same_digits xs ys) h))
    (same_true xs ys (and_right (eqb x y) (same_digits xs ys) h))

pub same_swap : (xs ys : List ℕ) → same_digits xs ys ≡ same_digits ys xs
same_swap xs ys = agree (same_digits xs ys) (same_digits ys xs) (turned xs ys) (turned ys xs)
  where
    turned : (cs ds : List ℕ) → same_digits cs ds ≡ true → same_digits ds cs ≡ true
    turned cs ds h = rw (same_true cs ds h) (same_refl ds)

-- ---- numbers decide their bytes
key_decides : (xs ys : List ℕ) → length xs ≡ key_width → length ys ≡ key_width → Bytes xs → Bytes ys → same_key (key_of xs) (key_of ys) ≡ true
    → xs ≡ ys
unfolding key_of
key_decides xs ys l m h k e =
    let first =
    and_left (eqb (number (take 8 xs)) (number (take 8 ys))) (eqb (number (take 4 (drop 8 xs))) (number (take 4 (drop 8 ys)))) e in
    let last =
    and_right (eqb (number (take 8 xs)) (number (take 8 ys))) (eqb (number (take 4 (drop 8 xs))) (number (take 4 (drop 8 ys)))) e in
    let front =
    number_decides (take 8 xs) (take 8 ys) (bytes_take 8 xs h) (bytes_take 8 ys k) (omega (arith, length-take 8 xs, length-take 8 ys))
    (eqb-true (number (take 8 xs)) (number (take 8 ys)) first) in
    let behind =
    number_decides (take 4 (drop 8 xs)) (take 4 (drop 8 ys)) (bytes_take 4 (drop 8 xs) (bytes_drop 8 xs h))
    (bytes_take 4 (drop 8 ys) (bytes_drop 8 ys k))
    (omega (arith, length-take 4 (drop 8 xs), length-take 4 (drop 8 ys), length-drop 8 xs, length-drop 8 ys))
    (eqb-true (number (take 4 (drop 8 xs))) (number (take 4 (drop 8 ys))) last) in
    sym (take-append-drop 8 xs)
    ∙ ap₂ (λ (a b : List ℕ). a ++ b) front (sym (take_all 4 (drop 8 xs) (omega (arith, length-drop 8 xs))) ∙ behind ∙ take_all 4 (drop 8 ys)
    (omega (arith, length-drop 8 ys)))
    ∙ take-append-drop 8 ys

-- a key from a place on, by its two numbers
pub key_is : (bytes : List ℕ) (at first last : ℕ) → first ≡ number (take first_width (drop at bytes))
    → last ≡ number (take last_width (drop (at + first_width) bytes))
    → record { first = first; last = last } ≡ key_of (drop at bytes)
unfolding key_of
key_is bytes at first last e f =
    let g = f ∙ ap (λ (l : List ℕ). number (take last_width l)) (sym (drop-drop first_width at bytes)) in
    λ i. record { first = e i; last = g i }

-- a key is read from the first bytes alone
pub key_of_first : (n : ℕ) (row : List ℕ) → key_width ≤ n → key_of (take n row) ≡ key_of row
unfolding key_of field_of
key_of_first n row h =
    λ i. record {
      first = field_of_first (record { start = 0; width = 8 }) n row (omega arith) i;
      last = field_of_first (record { start = 8; width = 4 }) n row (omega arith) i;
    }

-- ---- the key of digits
-- what an ESI ID's digits are
pub record AnId (digits : List ℕ) : Type 0 where
  pub each : Digits digits
  pub most : length digits ≤ long_count

pub length_key : (digits : List ℕ) → AnId digits → length (key_bytes digits) ≡ key_width
length_key digits h = length-append (packed id_width digits) (length digits ∷ []) ∙ omega (arith, length-packed id_width digits h.most)

bytes-append : (xs ys : List ℕ) → Bytes xs → Bytes ys → Bytes (xs ++ ys)
bytes-append [] ys h k = k
bytes-append (x ∷ xs) ys h k = (h.0, bytes-append xs ys h.1 k)

key_bytes_lem : (digits : List ℕ) → AnId digits → Bytes (key_bytes digits)
key_bytes_lem digits h =
    bytes-append (packed id_width digits) (length digits ∷ []) (packed_bytes id_width digits h.each) (omega (arith, h.most), tt)

-- equal first twelve bytes are those of equal digits
bytes_decide : (these those : List ℕ) → AnId these → AnId those → key_bytes these ≡ key_bytes those → these ≡ those
bytes_decide these those h k e =
    let l = length-packed id_width these h.most in
    let m = length-packed id_width those k.most in
    let front : packed id_width these ≡ packed id_width those =
    sym (take_at (packed id_width these) (length these ∷ []) id_width l) ∙ ap (take id_width) e
    ∙ take_at (packed id_width those) (length those ∷ []) id_width m in
    let counts : ◌≡◌ {A = List ℕ} (length these ∷ []) (length those ∷ []) =
    sym (drop_at (packed id_width these) (length these ∷ []) id_width l) ∙ ap (drop id_width) e
    ∙ drop_at (packed id_width those) (length those ∷ []) id_width m in
    let count : length these ≡ length those = cc in
    packed_decides id_width these those h.each k.each front count

pub same_key_lem : (these those : List ℕ) → AnId these → AnId those
    → same_key (key_of (key_bytes these)) (key_of (key_bytes those)) ≡ same_digits these those
same_key_lem these those h k = agree (same_key (key_of (key_bytes these)) (key_of (key_bytes those))) (same_digits these those) to from
  where
    to : same_key (key_of (key_bytes these)) (key_of (key_bytes those)) ≡ true → same_digits these those ≡ true
    to e =
        rw (bytes_decide these those h k (key_decides (key_bytes these) (key_bytes those) (length_key these h) (length_key those k)
        (key_bytes_lem these h) (key_bytes_lem those k) e)) (same_refl those)

    from : same_digits these those ≡ true → same_key (key_of (key_bytes these)) (key_of (key_bytes those)) ≡ true
    from e =
        let key = key_of (key_bytes those) in
        rw (same_true these those e) (ap₂ (λ (a b : Bool). a && b) (eq-eqb key.first key.first refl)
        (eq-eqb key.last key.last refl))

-- ---- a record that breaks no rule
pub record Kept (row : List ℕ) : Type 0 where
  pub shape : Shaped row
  pub rules : record_kept row ≡ true

-- what its rules say
pub record Rules (row : List ℕ) : Type 0 where
  pub count : is_count (digit_count row) ≡ true
  pub used : all_of is_digit (used_halves row) ≡ true
  pub unused : all_of is_unused (drop (digit_count row) (halves (take id_width row))) ≡ true
  pub premise : not (eqb (premise_of row) 0) ≡ true

pub rules_of : (row : List ℕ) → record_kept row ≡ true → Rules row
unfolding record_kept halves_kept
rules_of row h =
    let a = is_count (digit_count row) in
    let b = all_of is_digit (used_halves row) in
    let c = all_of is_unused (drop (digit_count row) (halves (take id_width row))) in
    let d = not (eqb (premise_of row) 0) in
    let z = eqb (field_of zero_field row) 0 in
    let ab = and_left (a && (b && c)) (d && z) h in
    let bc = and_right a (b && c) ab in
    record {
      count = and_left a (b && c) ab;
      used = and_left b c bc;
      unused = and_right b c bc;
      premise = and_left d z (and_right (a && (b && c)) (d && z) h);
    }

pub count_most : (n : ℕ) → is_count n ≡ true → n ≤ long_count
count_most n h = go (eqb n 17) refl
  where
    go : (b : Bool) → eqb n 17 ≡ b → n ≤ 22
    go true e = omega (arith, eqb-true n 17 e)
    go false e = omega (arith, eqb-true n 22 (rw e at h))

length-halves : (bytes : List ℕ) → length (halves bytes) ≡ 2 * length bytes
length-halves [] = refl
length-halves (b ∷ bs) = omega (arith, length-halves bs)

pub used_length : (row : List ℕ) → Long row → record_kept row ≡ true → length (used_halves row) ≡ digit_count row
used_length row l k =
    omega (
      arith,
      length-take (digit_count row) (halves (take id_width row)),
      length-halves (take id_width row),
      length-take-le id_width row (omega (arith, l)),
      count_most (digit_count row) (rules_of row k).count,
    )

pub digits_of_all : (ds : List ℕ) → all_of is_digit ds ≡ true → Digits ds
digits_of_all ds h =
    each_map (λ (d : ℕ). is_digit d ≡ true) (λ (d : ℕ). d ≤ last_digit) (λ d e. leb-true d last_digit e) ds (each_of_all is_digit ds h)

pub kept_id : (row : List ℕ) → Kept row → AnId (used_halves row)
kept_id row k =
    let r = rules_of row k.rules in
    record {
      each = digits_of_all (used_halves row) r.used;
      most = omega
          (arith, used_length row k.shape.long k.rules, count_most (digit_count row) r.count);
    }

pub count_byte : (row : List ℕ) → Long row → digit_count row ≡ get_or row 11 0
unfolding field_of
count_byte row l = rw (drop-cons row 11 0 (omega (arith, l))) (omega arith)

-- its first twelve bytes are those of its digits
kept_bytes : (row : List ℕ) → Kept row → take key_width row ≡ key_bytes (used_halves row)
kept_bytes row k =
    let l = length-take-le id_width row (omega (arith, k.shape.long)) in
    let back =
    packs_back (digit_count row) (take id_width row) (bytes_take id_width row k.shape.bytes) (rules_of row k.rules).unused in
    let front : take id_width row ≡ packed id_width (used_halves row) = sym (rw l at back) in
    take-suc row 11 0 (omega (arith, k.shape.long))
    ∙ ap₂ (λ (l : List ℕ) (n : ℕ). l ++ (n ∷ [])) front
    (sym (used_length row k.shape.long k.rules ∙ count_byte row k.shape.long))

pub kept_key : (row : List ℕ) → Kept row → key_of row ≡ key_of (key_bytes (used_halves row))
kept_key row k = sym (key_of_first key_width row (omega arith)) ∙ ap key_of (kept_bytes row k)

-- to have the key of digits is to have the digits
pub has_key_lem : (digits : List ℕ) → AnId digits → (row : List ℕ) → Kept row → has_key (key_of (key_bytes digits)) row ≡ has_digits digits row
has_key_lem digits h row k = rw (kept_key row k) (same_key_lem (used_halves row) digits (kept_id row k) h)

-- to have a record's key or P is to have its ESI ID or P
pub has_either_lem : (row other : List ℕ) → Kept row → Kept other → clashes row other ≡ (same_id row other || same_premise row other)
has_either_lem row other h k =
    ap (λ (b : Bool). b || same_premise row other)
    (ap (λ key. has_key key other) (kept_key row h) ∙ has_key_lem (used_halves row) (kept_id row h) other k ∙ same_swap (used_halves other)
    (used_halves row))

-- ---- all records of a directory
pub all_kept : (directory : List ℕ) → Bytes directory → all_of record_kept (records directory) ≡ true → Each Kept (records directory)
all_kept directory b h =
    each_both Shaped (λ (row : List ℕ). record_kept row ≡ true) Kept (λ row s r. record { shape = s; rules = r }) (records directory)
    (shaped directory b)
    (each_of_all record_kept (records directory) h)

pub either_twice : (rs : List (List ℕ)) → Each Kept rs → distinct clashes rs ≡ none_twice rs
either_twice rs h =
    distinct_agree Kept clashes (λ (row other : List ℕ). same_id row other || same_premise row other) has_either_lem rs h
    ∙ distinct_either same_id same_premise rs
