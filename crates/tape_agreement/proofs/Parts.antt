-- The 24 bytes of two records are the same exactly if the three numbers of eight bytes each are. Assumes nothing.
use Prim.Native.Nat.{ℕ, ◌+◌, ◌≤◌}
use mathlib.Core.Path.{◌≡◌, refl, ap, ap₂, sym, subst, ◌∙◌}
use mathlib.Core.List.{List, ◌++◌}
use mathlib.Core.Bool.{Bool, true, false}
use native.Mathlib.Omega.{arith}
use lib.Dec.{eqb}
use lib.ListN.{length, take, drop, length-take, length-drop, take-append-drop}
use lib.Seq.{length-take-le, drop-drop, take_all}
use borrow.Author.Tests.{eqb-true, eqb-false}
use Rattle.records.specs.Layout.{Bytes, record_length, number, field_of}
use Rattle.records.proofs.Decode.{field_at}
use Rattle.records.proofs.Fields.{bytes_drop, bytes_take, number_decides}
use Rattle.tape_agreement_rules.specs.Agreement.{same_bytes}
use Rattle.tape_agreement_rules.proofs.Lists.{bytes_same, bytes_self}
use Rattle.tape_agreement.specs.Walks.{record_at}

-- ---- lists of 24
abbrev part : ℕ → List ℕ → List ℕ
part start xs = take 8 (drop start xs)

in_three : (xs : List ℕ) → length xs ≡ record_length → xs ≡ part 0 xs ++ (part 8 xs ++ part 16 xs)
in_three xs l =
    let last : drop 8 (drop 8 xs) ≡ part 16 xs =
    drop-drop 8 8 xs ∙ sym (take_all 8 (drop 16 xs) (omega (arith, length-drop 16 xs))) in
    sym (take-append-drop 8 xs)
    ∙ ap (λ (rest : List ℕ). part 0 xs ++ rest)
    (sym (take-append-drop 8 (drop 8 xs)) ∙ ap (λ (rest : List ℕ). part 8 xs ++ rest) last)

part_same : (start : ℕ) (xs ys : List ℕ) → length xs ≡ length ys → Bytes xs → Bytes ys → number (part start xs) ≡ number (part start ys)
    → part start xs ≡ part start ys
part_same start xs ys l u v e =
    number_decides (part start xs) (part start ys) (bytes_take 8 (drop start xs) (bytes_drop start xs u))
    (bytes_take 8 (drop start ys) (bytes_drop start ys v))
    (omega (arith, l, length-take 8 (drop start xs), length-take 8 (drop start ys), length-drop start xs, length-drop start ys)) e

-- ---- two records on two tapes
module _ (ours : List ℕ) (here : ℕ) (theirs : List ℕ) (there : ℕ) (h : here + record_length ≤ length ours)
    (k : there + record_length ≤ length theirs) where
  abbrev one : List ℕ
  one = record_at ours here

  abbrev other : List ℕ
  other = record_at theirs there

  -- eight bytes of a tape are eight of the record
  part_at : (tape : List ℕ) (at start : ℕ) → start + 8 ≤ record_length
      → number (part start (record_at tape at)) ≡ number (take 8 (drop (at + start) tape))
  unfolding field_of
  part_at tape at start l = field_at (record { start = start; width = 8 }) tape at l

  pub parts_apart : (start : ℕ) → start + 8 ≤ record_length
      → (number (take 8 (drop (here + start) ours)) ≡ number (take 8 (drop (there + start) theirs)) → ⊥)
      → same_bytes one other ≡ false
  parts_apart start l apart = go (same_bytes one other) refl
    where
      go : (b : Bool) → same_bytes one other ≡ b → b ≡ false
      go true e =
          absurd (apart (sym (part_at ours here start l) ∙ ap (λ (xs : List ℕ). number (part start xs)) (bytes_same one other e)
          ∙ part_at theirs there start l))
      go false e = refl

  -- the first eight
  from_start : (tape : List ℕ) (at : ℕ) → number (take 8 (drop (at + 0) tape)) ≡ number (take 8 (drop at tape))
  from_start tape at = let e : at + 0 ≡ at = omega arith in ap (λ (n : ℕ). number (take 8 (drop n tape))) e

  pub starts_apart : (number (take 8 (drop here ours)) ≡ number (take 8 (drop there theirs)) → ⊥) → same_bytes one other ≡ false
  starts_apart apart = parts_apart 0 (omega arith) (λ e. apart (sym (from_start ours here) ∙ e ∙ from_start theirs there))

  pub parts_decide : Bytes ours → Bytes theirs
      → number (take 8 (drop here ours)) ≡ number (take 8 (drop there theirs))
      → number (take 8 (drop (here + 8) ours)) ≡ number (take 8 (drop (there + 8) theirs))
      → same_bytes one other ≡ eqb (number (take 8 (drop (here + 16) ours))) (number (take 8 (drop (there + 16) theirs)))
  parts_decide u v first second =
      go (eqb (number (take 8 (drop (here + 16) ours))) (number (take 8 (drop (there + 16) theirs)))) refl
    where
      long : length one ≡ record_length
      long = length-take-le record_length (drop here ours) (omega (arith, length-drop here ours))

      long₂ : length other ≡ record_length
      long₂ = length-take-le record_length (drop there theirs) (omega (arith, length-drop there theirs))

      alike : (start : ℕ) → start + 8 ≤ record_length
          → number (take 8 (drop (here + start) ours)) ≡ number (take 8 (drop (there + start) theirs)) → part start one ≡ part start other
      alike start l e =
          part_same start one other (long ∙ sym long₂) (bytes_take record_length (drop here ours) (bytes_drop here ours u))
          (bytes_take record_length (drop there theirs) (bytes_drop there theirs v))
          (part_at ours here start l ∙ e ∙ sym (part_at theirs there start l))

      go : (b : Bool) → eqb (number (take 8 (drop (here + 16) ours))) (number (take 8 (drop (there + 16) theirs))) ≡ b
          → same_bytes one other ≡ b
      go true e =
          let equal = eqb-true (number (take 8 (drop (here + 16) ours))) (number (take 8 (drop (there + 16) theirs))) e in
          let same : one ≡ other =
          in_three one long
          ∙ ap₂ (λ (xs ys : List ℕ). xs ++ ys) (alike 0 (omega arith) (from_start ours here ∙ first ∙ sym (from_start theirs there)))
          (ap₂ (λ (xs ys : List ℕ). xs ++ ys) (alike 8 (omega arith) second) (alike 16 (omega arith) equal))
          ∙ sym (in_three other long₂) in
          subst (λ (xs : List ℕ). same_bytes one xs ≡ true) same (bytes_self one)
      go false e =
          parts_apart 16 (omega arith) (eqb-false (number (take 8 (drop (here + 16) ours))) (number (take 8 (drop (there + 16) theirs))) e)
