-- The loop that writes what a tape's records become, either way: record behind record into the unwritten rest. Assumes nothing.
use Prim.Native.Nat.{ℕ, ◌+◌, ◌*◌, ◌-◌, ◌/◌, ◌≤◌, ◌<◌}
use mathlib.Core.Path.{◌≡◌, refl, sym, ap, ap₂, ◌∙◌}
use mathlib.Core.List.{List, [], ◌++◌, map, append-nil, append_assoc}
use native.Mathlib.Nat.{mul-zero, mul-suc, mul-le-mul_left, mul-div-le, mul_comm, le-div_iff_mul-le}
use native.Mathlib.Numerals.{add-one}
use native.Mathlib.Omega.{arith}
use lib.ListN.{length, take, drop, length-append, length-drop, drop_of_length-le}
use lib.Seq.{take_all, take_at, drop_at, drop-drop}
use Rattle.first_fittings_rules.specs.Layout.{cut, joined}
use Rattle.first_fittings_rules.specs.Conversions.{Way, converted}
use Rattle.first_fittings_rules.proofs.Tapes.{map_more, cut_more}
use Rattle.first_fittings_rules.proofs.Ways.{Into, part_length}

-- what the first records of a tape become
abbrev part : Way → List ℕ → ℕ → List ℕ
part way tape i = joined (map way.becomes (cut way.size i tape))

-- after i records
pub record Writing (way : Way) (into : ℕ) (tape before now : List ℕ) (i : ℕ) : Type 0 where
  pub within : i ≤ length tape / way.size
  pub long : length now ≡ length before
  pub so_far : now ≡ part way tape i ++ drop (into * i) before

-- a part of the buffer from a place on is lent, and comes back with other bytes
abbrev lent : List ℕ → ℕ → List ℕ
lent now at = take (length now - at) (drop at now)

abbrev handed : List ℕ → ℕ → List ℕ → List ℕ
handed now at after = take at now ++ (after ++ drop (length now - at) (drop at now))

module _ (now : List ℕ) (at : ℕ) where
  lent_all : lent now at ≡ drop at now
  lent_all = take_all (length now - at) (drop at now) (omega (arith, length-drop at now))

  handed_all : (after : List ℕ) → handed now at after ≡ take at now ++ after
  handed_all after =
      let none : drop (length now - at) (drop at now) ≡ [] =
      drop_of_length-le (drop at now) {i = length now - at} (omega (arith, length-drop at now)) in
      ap (λ (l : List ℕ). take at now ++ (after ++ l)) none ∙ ap (λ (l : List ℕ). take at now ++ l) (append-nil after)

module _ (way : Way) (into : ℕ) (long : Into way into) (tape before : List ℕ) where
  pub writing_start : Writing way into tape before before 0
  writing_start =
      let e : 0 ≡ into * 0 = sym (mul-zero into) in
      record { within = omega arith; long = refl; so_far = ap (λ (k : ℕ). drop k before) e }

  module _ (room : into * (length tape / way.size) ≤ length before) (now : List ℕ) (i : ℕ) (w : Writing way into tape before now i) where
    done : (n : ℕ) → n ≤ length tape / way.size → length (part way tape n) ≡ into * n
    done n h = part_length way into long n tape (omega (arith, mul-le-mul_left way.size h, mul-div-le (length tape) way.size))

    front : take (into * i) now ≡ part way tape i
    front = ap (take (into * i)) w.so_far ∙ take_at (part way tape i) (drop (into * i) before) (into * i) (done i w.within)

    rest : drop (into * i) now ≡ drop (into * i) before
    rest = ap (drop (into * i)) w.so_far ∙ drop_at (part way tape i) (drop (into * i) before) (into * i) (done i w.within)

    more : part way tape i ++ way.becomes (take way.size (drop (way.size * i) tape)) ≡ part way tape (i + 1)
    more =
        sym (map_more way.becomes (cut way.size i tape) (take way.size (drop (way.size * i) tape)))
        ∙ ap (λ (rs : List (List ℕ)). joined (map way.becomes rs)) (sym (cut_more way.size i tape))

    -- there is room for the next
    pub room_left : (at : ℕ) → at ≡ into * i → i < length tape / way.size → into ≤ length (lent now at)
    room_left at p h =
        let fits : into * (i + 1) ≤ length before =
        omega (arith, mul-le-mul_left {m = i + 1} {n = length tape / way.size} into (omega arith)) in
        let turned : into * i + into ≡ into * (i + 1) = omega (arith, mul-suc into i, ap (λ (k : ℕ). into * k) (add-one i)) in
        omega (arith, ap length (lent_all now at), length-drop at now, w.long, p)

    -- what the next record becomes stands behind what is done, and the rest stays
    pub writing_more : (at next : ℕ) (bytes after : List ℕ) → at ≡ into * i → next ≡ i + 1 → i < length tape / way.size
        → bytes ≡ take way.size (drop (way.size * i) tape)
        → after ≡ way.becomes bytes ++ drop into (lent now at)
        → Writing way into tape before (handed now at after) next
    writing_more at next bytes after p q h is e =
        let made = way.becomes (take way.size (drop (way.size * i) tape)) in
        let left = drop (into * (i + 1)) before in
        let turned : into * i + into ≡ into * (i + 1) = omega (arith, mul-suc into i, ap (λ (k : ℕ). into * k) (add-one i)) in
        let behind : after ≡ made ++ left =
        e
        ∙ ap₂ (λ (b l : List ℕ). way.becomes b ++ drop into l) is
        (lent_all now at ∙ ap (λ (k : ℕ). drop k now) p ∙ rest)
        ∙ ap (λ (l : List ℕ). made ++ l) (drop-drop into (into * i) before ∙ ap (λ (k : ℕ). drop k before) turned) in
        let all : handed now at after ≡ part way tape (i + 1) ++ left =
        handed_all now at after
        ∙ ap₂ (λ (a b : List ℕ). a ++ b) (ap (λ (k : ℕ). take k now) p ∙ front) behind
        ∙ sym (append_assoc (part way tape i) made left)
        ∙ ap (λ (l : List ℕ). l ++ left) more in
        let fits : into * (i + 1) ≤ length before =
        omega (arith, mul-le-mul_left {m = i + 1} {n = length tape / way.size} into (omega arith)) in
        rw q record {
          within = omega arith;
          long =
              ap length all
              ∙ length-append (part way tape (i + 1)) left
              ∙ omega (arith, done (i + 1) (omega arith), length-drop (into * (i + 1)) before, fits);
          so_far = all;
        }

    pub writing_end : (count : ℕ) → i ≡ length tape / way.size → count ≡ length tape / way.size
        → now ≡ converted way tape ++ drop (into * count) before
    unfolding converted
    writing_end count last e =
        w.so_far ∙ ap₂ (λ (a b : ℕ). part way tape a ++ drop (into * b) before) last (last ∙ sym e)

-- room for so many records
pub room_for : (into n room : ℕ) → 0 < into → n ≤ room / into → into * n ≤ room
room_for into n room some h = omega (arith, (le-div_iff_mul-le {k = into} {x = n} {y = room} some).0 h, mul_comm n into)
