-- A notice's fields over the front of a list: one behind another, each in the bytes that std gives. Assumes nothing.
use Prim.Native.Nat.{ℕ, zero, suc, ◌+◌, ◌/◌, ◌%◌, ◌^◌, ◌<◌, ◌≤◌}
use mathlib.Core.Path.{◌≡◌, refl, sym, ap, ap₂, ◌∙◌}
use mathlib.Core.List.{List, [], ◌∷◌, ◌++◌}
use Rattle.std.proofs.Math.Nat.{div-div-eq-div-mul, pow-suc}
use native.Mathlib.Omega.{arith}
use lib.ListN.{length, take, drop, set}
use lib.Seq.{take_at, drop_at, drop-drop}
use borrow.Rule.Slice.PartMut.{put_mid}
use Rattle.std.specs.Int.{w16, w32, w64, byte_at, bytes_low_first, to_le_bytes}
use Rattle.records.specs.declared.Notice.{Notice}
use Rattle.records.specs.Layout.{record_length, bytes_of}
use Rattle.records.specs.Notices.{encode_by, encode}

-- what std calls a number's bytes from one on, low byte first
byte_is : (i n : ℕ) → byte_at i n ≡ n / 256 ^ i % 256
byte_is zero n =
    let whole : n ≡ n / 1 = omega arith in
    ap (λ (m : ℕ). m % 256) whole
byte_is (suc i) n = refl

low_first : (i width n : ℕ) → bytes_low_first i width n ≡ bytes_of width (n / 256 ^ i)
low_first i zero n = refl
low_first i (suc width) n =
    let next : n / 256 ^ suc i ≡ n / 256 ^ i / 256 = ap (λ (m : ℕ). n / m) (pow-suc 256 i) ∙ sym (div-div-eq-div-mul n (256 ^ i) 256) in
    ap₂ (λ (b : ℕ) (bs : List ℕ). b ∷ bs) (byte_is i n) (low_first (suc i) width n ∙ ap (bytes_of width) next)

all_bytes : (width n : ℕ) → bytes_low_first 0 width n ≡ bytes_of width n
all_bytes width n =
    let whole : n / 1 ≡ n = omega arith in
    low_first 0 width n ∙ ap (bytes_of width) whole

-- A field's bytes are put behind those that stand in front: the rest is as it was before.
put_behind : (done before b bytes : List ℕ) (at width n : ℕ) → length done ≡ at → b ≡ done ++ drop at before
    → bytes ≡ bytes_low_first 0 width n → put_mid at width b bytes ≡ done ++ (bytes_of width n ++ drop (at + width) before)
put_behind done before b bytes at width n k e p =
    let front : take at b ≡ done = ap (take at) e ∙ take_at done (drop at before) at k in
    let back : drop at b ≡ drop at before = ap (drop at) e ∙ drop_at done (drop at before) at k in
    ap₂ (λ (l r : List ℕ). l ++ (bytes ++ r)) front (ap (drop width) back ∙ drop-drop width at before)
    ∙ ap (λ (l : List ℕ). done ++ (l ++ drop (at + width) before)) (p ∙ all_bytes width n)

-- The first two fields are a byte each.
two_bytes : (b : List ℕ) (code kind : ℕ) → record_length ≤ length b → code < 256 → kind < 256
    → set (set b 0 code) 1 kind ≡ bytes_of 1 code ++ bytes_of 1 kind ++ drop 2 b
two_bytes [] code kind h c k = absurd (omega arith)
two_bytes (x ∷ []) code kind h c k = absurd (omega arith)
two_bytes (x ∷ y ∷ b) code kind h c k =
    let low : code ≡ code % 256 = omega arith in
    let next : kind ≡ kind % 256 = omega arith in
    ap₂ (λ (l r : ℕ). l ∷ r ∷ b) low next

-- A notice's fields, one behind another, make up its bytes.
pub put_notice : (n : Notice) (b day reference premise addressee : List ℕ) → record_length ≤ length b → n.code < 256 → n.kind < 256
    → day ≡ to_le_bytes w16 n.day → reference ≡ to_le_bytes w32 n.reference → premise ≡ to_le_bytes w64 n.premise
    → addressee ≡ to_le_bytes w64 n.addressee
    → put_mid 16 8 (put_mid 8 8 (put_mid 4 4 (put_mid 2 2 (set (set b 0 n.code) 1 n.kind) day) reference) premise) addressee
    ≡ encode n ++ drop record_length b
unfolding encode_by
put_notice n b day reference premise addressee long code kind e f g h =
    let two = bytes_of 1 n.code ++ bytes_of 1 n.kind in
    let four = two ++ bytes_of 2 n.day in
    let eight = four ++ bytes_of 4 n.reference in
    let sixteen = eight ++ bytes_of 8 n.premise in
    put_behind sixteen b _ addressee 16 8 n.addressee refl
    (put_behind eight b _ premise 8 8 n.premise refl
    (put_behind four b _ reference 4 4 n.reference refl
    (put_behind two b _ day 2 2 n.day refl (two_bytes b n.code n.kind long code kind) e) f) g) h
