-- A text that a loop puts piece by piece, each behind the one before: what is put, and what is left of it. Assumes nothing.
use Prim.Native.Nat.{ℕ, ◌+◌, ◌≤◌}
use mathlib.Core.Path.{◌≡◌, refl, sym, ap, ◌∙◌}
use mathlib.Core.List.{List, [], ◌++◌, append_assoc, append-nil}
use lib.ListN.{length}
use Rattle.tape_text.specs.Numbers.{Puts}
use Rattle.tape_text.proofs.Puts.{puts_none, puts_as, puts_length, room_first, room_then, puts_then}

pub record Putting (whole left : List ℕ) (start : ℕ) (before after : List ℕ) (at : ℕ) : Type 0 where
  pub done : List ℕ
  pub parts : whole ≡ done ++ left
  pub put : Puts start before after at done

pub putting_none : (whole : List ℕ) (start : ℕ) (b : List ℕ) → Putting whole whole start b b start
putting_none whole start b = record { done = []; parts = refl; put = puts_none start b }

module _ {whole left : List ℕ} {start : ℕ} {b c : List ℕ} {at : ℕ} (s : Putting whole left start b c at)
    (room : start + length whole ≤ length b) where
  pub putting_length : length c ≡ length b
  putting_length = puts_length s.put (room_first start b s.done left (rw s.parts at room))

  -- a piece more
  module _ (piece rest : List ℕ) (e : left ≡ piece ++ rest) where
    parts_more : whole ≡ s.done ++ piece ++ rest
    parts_more = s.parts ∙ ap (λ (l : List ℕ). s.done ++ l) e ∙ sym (append_assoc s.done piece rest)

    room_more : start + length (s.done ++ piece) ≤ length b
    room_more = room_first start b (s.done ++ piece) rest (rw parts_more at room)

    pub putting_room : at + length piece ≤ length c
    putting_room = room_then s.put piece room_more

    pub putting_more : {d : List ℕ} {to : ℕ} → Puts at c d to piece → Putting whole rest start b d to
    putting_more p = record { done = s.done ++ piece; parts = parts_more; put = puts_then s.put p room_more }

  -- the last piece
  pub putting_last : {d : List ℕ} {to : ℕ} → Puts at c d to left → Puts start b d to whole
  putting_last p = puts_as (sym s.parts) (puts_then s.put p (rw s.parts at room))

  -- nothing is left
  pub putting_all : left ≡ [] → Puts start b c at whole
  putting_all e = puts_as (sym (s.parts ∙ ap (λ (l : List ℕ). s.done ++ l) e ∙ append-nil s.done)) s.put
