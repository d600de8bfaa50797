-- Laws of `Puts`: texts put one after another, each behind what stands in the buffer, or a byte put before one. Assumes nothing.
use Prim.Native.Nat.{ℕ, suc, ◌+◌, ◌≤◌, ◌<◌}
use mathlib.Core.Path.{◌≡◌, sym, ap, ap₂, ◌∙◌}
use mathlib.Core.List.{List, [], ◌∷◌, ◌++◌, append_assoc}
use native.Mathlib.Numerals.{add-one}
use native.Mathlib.Omega.{arith}
use lib.ListN.{length, take, drop, set, length-append}
use lib.Seq.{drop_at, take-take, take-append-le, set_split, length-take-le}
use Rattle.lists.specs.Put.{put_at}
use Rattle.lists.proofs.Put.{put_none, length_put, put_put}
use Rattle.tape_text.specs.Numbers.{Puts}

-- nothing put
pub puts_none : (start : ℕ) (b : List ℕ) → Puts start b b start []
puts_none start b = record { end = omega arith; bytes = sym (put_none start b) }

-- the same text by another name
pub puts_as : {start stop : ℕ} {b c xs ys : List ℕ} → xs ≡ ys → Puts start b c stop xs → Puts start b c stop ys
puts_as e p = rw e at p

pub room_as : (start : ℕ) (b : List ℕ) {xs ys : List ℕ} → xs ≡ ys → start + length ys ≤ length b → start + length xs ≤ length b
room_as start b e room = rw e room

-- the buffer keeps its length
pub puts_length : {start stop : ℕ} {b c xs : List ℕ} → Puts start b c stop xs → start + length xs ≤ length b → length c ≡ length b
puts_length {start} {stop} {b} {c} {xs} p room = ap length p.bytes ∙ length_put start xs b room

-- what was put from the start on ends within the buffer
pub put_within : {before after text : List ℕ} {stop : ℕ} → Puts 0 before after stop text → stop ≤ length after
put_within {before} {after} {text} {stop} p =
    omega (arith, p.end, ap length p.bytes, length-append text (drop (0 + length text) before))

-- a byte put just before a text
pub puts_before : {at stop : ℕ} {b c xs : List ℕ} (x : ℕ) → Puts (at + 1) b c stop xs → at + 1 + length xs ≤ length b
    → Puts at b (set c at x) stop (x ∷ xs)
puts_before {at} {stop} {b} {c} {xs} x p room =
    let first : length (take (at + 1) b) ≡ at + 1 = length-take-le (at + 1) b (omega arith) in
    let rest = drop (at + 1 + length xs) b in
    let e : c ≡ take (at + 1) b ++ (xs ++ rest) = p.bytes ∙ append_assoc (take (at + 1) b) xs rest in
    let t : take at c ≡ take at b =
    ap (take at) e ∙ take-append-le at (take (at + 1) b) (xs ++ rest) (omega arith) ∙ take-take at (at + 1) b (omega arith) in
    let d : drop (suc at) c ≡ xs ++ rest =
    ap (λ (n : ℕ). drop n c) (sym (add-one at)) ∙ ap (drop (at + 1)) e ∙ drop_at (take (at + 1) b) (xs ++ rest) (at + 1) first in
    let next : at + 1 + length xs ≡ at + suc (length xs) = omega arith in
    record {
      end = p.end ∙ next;
      bytes =
          set_split c at x (omega (arith, puts_length p room))
          ∙ ap₂ (λ (l r : List ℕ). l ++ (x ∷ r)) t d
          ∙ sym (append_assoc (take at b) (x ∷ xs) rest)
          ∙ ap (λ (n : ℕ). take at b ++ (x ∷ xs) ++ drop n b) next;
    }

-- one byte
pub puts_one : (at : ℕ) (b : List ℕ) (x : ℕ) → at < length b → Puts at b (set b at x) (at + 1) (x ∷ [])
puts_one at b x inside = puts_before x (puts_none (at + 1) b) (omega arith)

-- ---- one text after another
pub room_first : (start : ℕ) (b xs ys : List ℕ) → start + length (xs ++ ys) ≤ length b → start + length xs ≤ length b
room_first start b xs ys room = omega (arith, length-append xs ys)

module _ {start m : ℕ} {b c xs : List ℕ} (p : Puts start b c m xs) where
  -- room for both leaves room for the second
  pub room_then : (ys : List ℕ) → start + length (xs ++ ys) ≤ length b → m + length ys ≤ length c
  room_then ys room = omega (arith, length-append xs ys, p.end, puts_length p (room_first start b xs ys room))

  pub puts_then : {n : ℕ} {d ys : List ℕ} → Puts m c d n ys → start + length (xs ++ ys) ≤ length b → Puts start b d n (xs ++ ys)
  puts_then {n} {d} {ys} q room =
      record {
        end = omega (arith, q.end, p.end, length-append xs ys);
        bytes = q.bytes ∙ ap₂ (λ (at : ℕ) (l : List ℕ). put_at at ys l) p.end p.bytes ∙ put_put start xs ys b room;
      }

-- a byte, and a text behind it
module _ (start : ℕ) (b : List ℕ) (x : ℕ) (ys : List ℕ) (room : start + length (x ∷ ys) ≤ length b) where
  one : Puts start b (set b start x) (start + 1) (x ∷ [])
  one = puts_one start b x (omega arith)

  pub room_after_one : start + 1 + length ys ≤ length (set b start x)
  room_after_one = room_then one ys room

  pub puts_after_one : {n : ℕ} {d : List ℕ} → Puts (start + 1) (set b start x) d n ys → Puts start b d n (x ∷ ys)
  puts_after_one q = puts_then one q room
