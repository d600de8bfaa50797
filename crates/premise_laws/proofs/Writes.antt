-- Laws of `Writes`: notices written one lot after another, each behind those that stand in the buffer. Assumes nothing.
use Prim.Native.Nat.{ℕ, ◌+◌, ◌*◌, ◌-◌, ◌≤◌}
use mathlib.Core.Path.{◌≡◌, refl, sym, ap, ap₂, ◌∙◌}
use mathlib.Core.List.{List, [], ◌∷◌, ◌++◌, append_assoc, append-nil}
use native.Mathlib.Omega.{arith}
use lib.ListN.{length, take, drop, length-append, length-drop, drop_of_length-le}
use lib.Seq.{take_all, drop-drop}
use Rattle.lists.specs.Put.{put_at}
use Rattle.lists.proofs.Put.{put_none, length_put, put_put}
use Rattle.records.specs.declared.Notice.{Notice}
use Rattle.records.specs.Layout.{record_length}
use Rattle.records.specs.Notices.{encode, encode_all}
use Rattle.records.proofs.Notices.{length-encode_all, encode_all-append}
use Rattle.premise.specs.Promises.{Room, Writes}

-- notices written are their bytes put from where the others end
as_put : (standing : ℕ) (b : List ℕ) (xs : List Notice)
    → take (record_length * standing) b ++ encode_all xs ++ drop (record_length * (standing + length xs)) b
    ≡ put_at (record_length * standing) (encode_all xs) b
as_put standing b xs =
    let e : record_length * (standing + length xs) ≡ record_length * standing + length (encode_all xs) = omega (arith, length-encode_all xs) in
    ap (λ (n : ℕ). take (record_length * standing) b ++ encode_all xs ++ drop n b) e

-- nothing written
pub writes_none : (standing : ℕ) (b : List ℕ) → Writes standing b b standing []
writes_none standing b = record { count = omega arith; bytes = sym (as_put standing b [] ∙ put_none (record_length * standing) b) }

-- the buffer keeps its length
module _ (standing : ℕ) (b : List ℕ) (xs : List Notice) (room : Room standing xs b) where
  pub writes_length : (c : List ℕ) (n : ℕ) → Writes standing b c n xs → length c ≡ length b
  writes_length c n w =
      ap length (w.bytes ∙ as_put standing b xs)
      ∙ length_put (record_length * standing) (encode_all xs) b (omega (arith, length-encode_all xs))

-- one lot after another
module _ (standing : ℕ) (b : List ℕ) (xs ys : List Notice) (room : Room standing (xs ++ ys) b) where
  pub room_first : Room standing xs b
  room_first = omega (arith, length-append xs ys)

  module _ (c : List ℕ) (m : ℕ) (w : Writes standing b c m xs) where
    pub room_then : Room m ys c
    room_then = omega (arith, length-append xs ys, w.count, writes_length standing b xs room_first c m w)

    pub writes_then : (d : List ℕ) (n : ℕ) → Writes m c d n ys → Writes standing b d n (xs ++ ys)
    writes_then d n v =
        let at = record_length * standing in
        let stop : record_length * m ≡ at + length (encode_all xs) = omega (arith, w.count, length-encode_all xs) in
        let joined : encode_all (xs ++ ys) ≡ encode_all xs ++ encode_all ys = encode_all-append xs ys in
        let space : at + length (encode_all xs ++ encode_all ys) ≤ length b =
        omega (arith, length-append (encode_all xs) (encode_all ys), length-encode_all xs, length-encode_all ys, length-append xs ys) in
        record {
          count = omega (arith, v.count, w.count, length-append xs ys);
          bytes =
              v.bytes ∙ as_put m c ys
              ∙ ap₂ (λ (i : ℕ) (l : List ℕ). put_at i (encode_all ys) l) stop (w.bytes ∙ as_put standing b xs)
              ∙ put_put at (encode_all xs) (encode_all ys) b space
              ∙ sym (as_put standing b (xs ++ ys) ∙ ap (λ (l : List ℕ). put_at at l b) joined);
        }

-- one notice, written to the part of the buffer from where the others end
pub writes_one : (standing : ℕ) (n : Notice) (b part : List ℕ) → Room standing (n ∷ []) b
    → part ≡ encode n ++ drop record_length (take (length b - record_length * standing) (drop (record_length * standing) b))
    → Writes standing b (take (record_length * standing) b
    ++ (part ++ drop (length b - record_length * standing) (drop (record_length * standing) b))) (standing + 1) (n ∷ [])
writes_one standing n b part room e =
    let at = record_length * standing in
    let all : take (length b - at) (drop at b) ≡ drop at b = take_all (length b - at) (drop at b) (omega (arith, length-drop at b)) in
    let rest : drop (length b - at) (drop at b) ≡ [] =
    drop_of_length-le (drop at b) {i = length b - at} (omega (arith, length-drop at b)) in
    let next : at + record_length ≡ record_length * (standing + 1) = omega arith in
    record {
      count = refl;
      bytes =
          ap₂ (λ (l r : List ℕ). take at b ++ (l ++ r))
          (e ∙ ap (λ (l : List ℕ). encode n ++ drop record_length l) all
          ∙ ap (λ (l : List ℕ). encode n ++ l) (drop-drop record_length at b ∙ ap (λ (i : ℕ). drop i b) next)) rest
          ∙ ap (λ (l : List ℕ). take at b ++ l) (append-nil (encode n ++ drop (record_length * (standing + 1)) b))
          ∙ sym (append_assoc (take at b) (encode n) (drop (record_length * (standing + 1)) b))
          ∙ ap (λ (l : List ℕ). take at b ++ l ++ drop (record_length * (standing + 1)) b) (sym (append-nil (encode n)));
    }
