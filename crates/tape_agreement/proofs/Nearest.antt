-- The next premise that is named: it lies above the last one, and none that is named stands between. Assumes nothing.
use Prim.Native.Nat.{ℕ, ◌<◌, ◌≤◌}
use mathlib.Core.Path.{◌≡◌, refl}
use mathlib.Core.List.{List, [], ◌∷◌, ◌++◌}
use mathlib.Core.Bool.{Bool, true, false, cond, ◌&&◌}
use native.Mathlib.Omega.{arith}
use lib.Dec.{ltb}
use borrow.Author.Tests.{ltb-true, ltb-false}
use Rattle.lists.specs.Search.{Each}
use Rattle.lists.proofs.SearchLaws.{each_append}
use Rattle.std.specs.Prelude.{Option, Some, None}
use Rattle.records.specs.declared.Record.{Record}
use Rattle.records.specs.Records.{reading, kind_day_mark}
use Rattle.premise.specs.Steps.{is}
use Rattle.tape_agreement_rules.specs.Agreement.{named, premises_of}
use Rattle.tape_agreement.specs.Walks.{nearer, nearest}

-- ---- what it is
-- of some premises none lies above the last one and below a number
abbrev pub NoneBetween : ℕ → ℕ → List ℕ → Type 0
NoneBetween last n ns = Each (λ (m : ℕ). last < m → n ≤ m) ns

pub record Next (last limit n : ℕ) (ns : List ℕ) : Type 0 where
  pub most : n ≤ limit
  pub above : last < limit → last < n
  pub between : NoneBetween last n ns

nearer_is : (last so_far : ℕ) (d : Option Record) → Next last so_far (nearer last so_far d) (named d)
nearer_is last so_far None = record { most = omega arith; above = λ h. h; between = tt }
nearer_is last so_far (Some r) = by_mark (is kind_day_mark r)
  where
    by_place : (b c : Bool) → ltb last r.premise ≡ b → ltb r.premise so_far ≡ c
        → Next last so_far (cond (b && c) r.premise so_far) (r.premise ∷ [])
    by_place true true e f =
        let above = ltb-true last r.premise e in
        let below = ltb-true r.premise so_far f in
        record { most = omega (arith, below); above = λ h. above; between = ((λ h. omega arith), tt) }
    by_place true false e f =
        let beyond = ltb-false r.premise so_far f in
        record { most = omega arith; above = λ h. h; between = ((λ h. beyond), tt) }
    by_place false c e f =
        let below = ltb-false last r.premise e in
        record { most = omega arith; above = λ h. h; between = ((λ h. absurd (omega (arith, h, below))), tt) }

    by_mark : (b : Bool) → Next last so_far (cond b so_far (cond (ltb last r.premise && ltb r.premise so_far) r.premise so_far))
        (cond b [] (r.premise ∷ []))
    by_mark true = record { most = omega arith; above = λ h. h; between = tt }
    by_mark false = by_place (ltb last r.premise) (ltb r.premise so_far) refl refl

lower : (last n m : ℕ) (ns : List ℕ) → m ≤ n → NoneBetween last n ns → NoneBetween last m ns
lower last n m [] h u = tt
lower last n m (k ∷ ns) h u = ((λ l. let le = u.0 l in omega (arith, le, h)), lower last n m ns h u.1)

-- one tape, then what the other one has below that
then_next : (last limit n m : ℕ) (ns ms : List ℕ) → Next last limit n ns → Next last n m ms → Next last limit m (ns ++ ms)
then_next last limit n m ns ms a b =
    let le = a.most in
    let less = b.most in
    record {
      most = omega (arith, le, less);
      above = λ h. b.above (a.above h);
      between = each_append (λ (k : ℕ). last < k → m ≤ k) ns ms (lower last n m ns less a.between) b.between;
    }

nearest_is : (last limit : ℕ) (rs : List (List ℕ)) → Next last limit (nearest last limit rs) (premises_of rs)
nearest_is last limit [] = record { most = omega arith; above = λ h. h; between = tt }
nearest_is last limit (bytes ∷ rs) =
    then_next last limit (nearer last limit (reading bytes)) (nearest last (nearer last limit (reading bytes)) rs) (named (reading bytes))
    (premises_of rs) (nearer_is last limit (reading bytes)) (nearest_is last (nearer last limit (reading bytes)) rs)

pub next_is : (last limit : ℕ) (us them : List (List ℕ))
    → Next last limit (nearest last (nearest last limit us) them) (premises_of us ++ premises_of them)
next_is last limit us them =
    then_next last limit (nearest last limit us) (nearest last (nearest last limit us) them) (premises_of us) (premises_of them)
    (nearest_is last limit us) (nearest_is last (nearest last limit us) them)
