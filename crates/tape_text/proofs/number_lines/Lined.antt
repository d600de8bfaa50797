-- The loop that puts numbers with a space before each: what it has put, and what is left of the line. Assumes nothing.
use Prim.Native.Nat.{ℕ, ◌+◌, ◌≤◌, ◌<◌}
use mathlib.Core.Path.{◌≡◌, sym, ap}
use mathlib.Core.List.{List, [], ◌∷◌, ◌++◌}
use native.Mathlib.Omega.{arith}
use lib.ListN.{length, drop, get_or}
use Rattle.lists.proofs.Find.{drop-first, drop-none}
use Rattle.tape_text.specs.Numbers.{space, newline, decimal, spaced, Puts}
use Rattle.tape_text.proofs.Puts.{puts_as, room_then, puts_then}
use Rattle.tape_text.proofs.Putting.{Putting, putting_none, putting_length, putting_room, putting_more, putting_last}

-- The first i numbers are put.
pub record Lined (numbers : List ℕ) (start : ℕ) (before after : List ℕ) (at i : ℕ) : Type 0 where
  pub put : Putting (spaced numbers) (spaced (drop i numbers)) start before after at

pub lined_none : (numbers : List ℕ) (start : ℕ) (b : List ℕ) → Lined numbers start b b start 0
lined_none numbers start b = record { put = putting_none (spaced numbers) start b }

-- a number as it stands in the line
abbrev pub next : List ℕ → ℕ → List ℕ
next numbers i = space ∷ decimal (get_or numbers i 0)

module _ {numbers : List ℕ} {start : ℕ} {b c : List ℕ} {at i : ℕ} (l : Lined numbers start b c at i)
    (room : start + length (spaced numbers) ≤ length b) where
  pub lined_length : length c ≡ length b
  lined_length = putting_length l.put room

  -- one number more: a space, and the number behind it
  module _ (h : i < length numbers) where
    abbrev rest : List ℕ
    rest = spaced (drop (i + 1) numbers)

    first : spaced (drop i numbers) ≡ next numbers i ++ rest
    first = ap spaced (drop-first 0 numbers i h)

    pub lined_room : at + length (next numbers i) ≤ length c
    lined_room = putting_room l.put room (next numbers i) rest first

    -- .. of which the space is put
    module _ {d : List ℕ} {m : ℕ} (p : Puts at c d m (space ∷ [])) where
      pub lined_number : m + length (decimal (get_or numbers i 0)) ≤ length d
      lined_number = room_then p (decimal (get_or numbers i 0)) lined_room

      pub lined_more : {e : List ℕ} {to : ℕ} → Puts m d e to (decimal (get_or numbers i 0)) → Lined numbers start b e to (i + 1)
      lined_more q = record { put = putting_more l.put room (next numbers i) rest first (puts_then p q lined_room) }

  -- the end of the line
  module _ (h : length numbers ≤ i) where
    last : spaced (drop i numbers) ≡ newline ∷ []
    last = ap spaced (drop-none numbers i h)

    pub lined_inside : at < length c
    lined_inside = omega (arith, putting_room l.put room (newline ∷ []) [] last)

    pub lined_all : {d : List ℕ} {to : ℕ} → Puts at c d to (newline ∷ []) → Puts start b d to (spaced numbers)
    lined_all p = putting_last l.put room (puts_as (sym last) p)
