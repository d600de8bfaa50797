-- Texts of ASCII digits: the digits that they write, and the text of some digits. Assumes nothing.
use Prim.Native.Nat.{ℕ, zero, suc, ◌+◌, ◌-◌, ◌*◌, ◌<◌, ◌≤◌}
use mathlib.Core.Path.{◌≡◌, refl, sym, ap, ap₂, ◌∙◌}
use mathlib.Core.List.{List, [], ◌∷◌}
use mathlib.Core.Bool.{Bool, true, false, ◌&&◌}
use native.Mathlib.Omega.{arith}
use lib.Dec.{leb}
use lib.ListN.{length, drop, get_or, set, replicate, length-map, drop_of_length-le, get_or-append}
use lib.Seq.{get_or_at}
use borrow.Author.Tests.{leb-true, le-leb}
use Rattle.lists.specs.Search.{all_of}
use Rattle.lists.proofs.Over.{over, over_set, over_end}
use Rattle.lists.proofs.TestLaws.{and_left, and_right}
use Rattle.esi_rules.specs.Packed.{last_digit, Digits, unused, pair, packed}
use Rattle.esi_rules.specs.Directory.{id_width, is_count}
use Rattle.esi_rules.specs.LookUp.{ascii_zero, is_ascii_digit, is_id_text, digits_of, text_of}
use Rattle.esi_rules.specs.Keys.{key_width, key_bytes}
use Rattle.esi_rules.specs.Theorems.{TextsDecide}
use Rattle.esi_rules.proofs.Packing.{packed_decides, length-packed, packed_at}
use Rattle.esi_rules.proofs.KeyLaws.{AnId, count_most, length_key}

-- what an ASCII digit is
pub record Ascii (byte : ℕ) : Type 0 where
  pub from : ascii_zero ≤ byte
  pub to : byte ≤ ascii_zero + last_digit

pub ascii : (byte : ℕ) → is_ascii_digit byte ≡ true → Ascii byte
ascii byte h =
    let a = leb ascii_zero byte in
    let b = leb byte (ascii_zero + last_digit) in
    record { from = leb-true ascii_zero byte (and_left a b h); to = leb-true byte (ascii_zero + last_digit) (and_right a b h) }

ascii_test : (byte : ℕ) → ascii_zero ≤ byte → byte ≤ ascii_zero + last_digit → is_ascii_digit byte ≡ true
ascii_test byte h k = ap₂ (λ (a b : Bool). a && b) (le-leb ascii_zero byte h) (le-leb byte (ascii_zero + last_digit) k)

-- ---- the digits of a text
pub digits_are : (text : List ℕ) → all_of is_ascii_digit text ≡ true → Digits (digits_of text)
digits_are [] h = tt
digits_are (b ∷ bs) h =
    let a = ascii b (and_left (is_ascii_digit b) (all_of is_ascii_digit bs) h) in
    (omega arith, digits_are bs (and_right (is_ascii_digit b) (all_of is_ascii_digit bs) h))

pub text_id : (text : List ℕ) → is_id_text text ≡ true → AnId (digits_of text)
unfolding is_id_text
text_id text h =
    record {
      each = digits_are text (and_right (is_count (length text)) (all_of is_ascii_digit text) h);
      most =
          omega (
            arith,
            length-map text (λ (byte : ℕ). byte - ascii_zero),
            count_most (length text)
                (and_left (is_count (length text)) (all_of is_ascii_digit text) h),
          );
    }

-- texts of the same digits are the same
text_back : (text : List ℕ) → all_of is_ascii_digit text ≡ true → text_of (digits_of text) ≡ text
text_back [] h = refl
text_back (b ∷ bs) h =
    let a = ascii b (and_left (is_ascii_digit b) (all_of is_ascii_digit bs) h) in
    ap₂ (λ (x : ℕ) (xs : List ℕ). x ∷ xs) (omega arith) (text_back bs (and_right (is_ascii_digit b) (all_of is_ascii_digit bs) h))

pub texts_decide : TextsDecide
texts_decide these those h k bytes counts =
    let longs : length (digits_of these) ≡ length (digits_of those) =
    omega (arith, length-map these (λ (byte : ℕ). byte - ascii_zero), length-map those (λ (byte : ℕ). byte - ascii_zero)) in
    let digits = packed_decides id_width (digits_of these) (digits_of those) (digits_are these h) (digits_are those k) bytes longs in
    sym (text_back these h) ∙ ap text_of digits ∙ text_back those k

-- ---- the text of digits
pub digits_back : (ds : List ℕ) → digits_of (text_of ds) ≡ ds
digits_back [] = refl
digits_back (d ∷ ds) = ap₂ (λ (x : ℕ) (xs : List ℕ). x ∷ xs) (omega arith) (digits_back ds)

text_ascii : (ds : List ℕ) → Digits ds → all_of is_ascii_digit (text_of ds) ≡ true
text_ascii [] h = refl
text_ascii (d ∷ ds) h = ap₂ (λ (a b : Bool). a && b) (ascii_test (ascii_zero + d) (omega arith) (omega (arith, h.0))) (text_ascii ds h.1)

pub text_of_id : (ds : List ℕ) → Digits ds → is_count (length ds) ≡ true → is_id_text (text_of ds) ≡ true
unfolding is_id_text
text_of_id ds h c = ap₂ (λ (a b : Bool). a && b) (ap is_count (length-map ds (λ (digit : ℕ). ascii_zero + digit)) ∙ c) (text_ascii ds h)

-- ---- the half at a place
pub half_digit : (text : List ℕ) (place : ℕ) → place < length text → get_or (digits_of text) place unused ≡ get_or text place 0 - ascii_zero
half_digit [] place h = absurd (omega arith)
half_digit (b ∷ bs) zero h = refl
half_digit (b ∷ bs) (suc place) h = half_digit bs place (omega arith)

pub half_none : (text : List ℕ) (place : ℕ) → length text ≤ place → get_or (digits_of text) place unused ≡ unused
half_none [] place h = refl
half_none (b ∷ bs) zero h = absurd (omega arith)
half_none (b ∷ bs) (suc place) h = half_none bs place (omega arith)

pub ascii_at : (text : List ℕ) (place : ℕ) → place < length text → is_id_text text ≡ true → Ascii (get_or text place 0)
unfolding is_id_text
ascii_at text place h e = at text place h (and_right (is_count (length text)) (all_of is_ascii_digit text) e)
  where
    at : (bs : List ℕ) (i : ℕ) → i < length bs → all_of is_ascii_digit bs ≡ true → Ascii (get_or bs i 0)
    at [] i l k = absurd (omega arith)
    at (b ∷ bs) zero l k = ascii b (and_left (is_ascii_digit b) (all_of is_ascii_digit bs) k)
    at (b ∷ bs) (suc i) l k = at bs i (omega arith) (and_right (is_ascii_digit b) (all_of is_ascii_digit bs) k)

-- ---- the test of a text: its length, then its bytes
module _ (text : List ℕ) where
  pub id_text_count : is_count (length text) ≡ false → is_id_text text ≡ false
  unfolding is_id_text
  id_text_count h = rw h

  pub id_text_rest : is_count (length text) ≡ true → is_id_text text ≡ all_of is_ascii_digit text
  unfolding is_id_text
  id_text_rest h = rw h

-- ---- the packed digits of a text, written byte by byte over zeros
abbrev pub zeros : List ℕ
zeros = replicate key_width 0

module _ (digits : List ℕ) (h : AnId digits) {bytes : List ℕ} where
  pub packed_turn : (i : ℕ) → i < id_width → bytes ≡ over i (key_bytes digits) zeros → (byte : ℕ)
      → byte ≡ pair (get_or digits (2 * i) unused) (get_or digits (2 * i + 1) unused)
      → set bytes i byte ≡ over (i + 1) (key_bytes digits) zeros
  packed_turn i k e byte f =
      let inside : i < length (packed id_width digits) = omega (arith, length-packed id_width digits h.most) in
      let same : byte ≡ get_or (key_bytes digits) i 0 =
      f ∙ sym (get_or-append (packed id_width digits) (length digits ∷ []) 0 i inside ∙ packed_at id_width digits i k) in
      rw (e, same) (over_set 0 (key_bytes digits) zeros i (omega arith) (omega (arith, length_key digits h)))

  pub packed_last : bytes ≡ over id_width (key_bytes digits) zeros → (n : ℕ) → n ≡ length digits → set bytes id_width n ≡ key_bytes digits
  packed_last e n f =
      let same : n ≡ get_or (key_bytes digits) id_width 0 =
      f ∙ sym (get_or_at (packed id_width digits) (length digits) [] 0 id_width (length-packed id_width digits h.most)) in
      let none : drop key_width (key_bytes digits) ≡ drop key_width zeros =
      drop_of_length-le (key_bytes digits) {i = key_width} (omega (arith, length_key digits h)) in
      rw (e, same) (over_set 0 (key_bytes digits) zeros id_width (omega arith) (omega (arith, length_key digits h)) ∙ over_end 0
      (key_bytes digits) zeros key_width none)
