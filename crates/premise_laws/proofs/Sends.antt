-- How many notices a pass gives, where each step sends, with what its order may then still send, at most what the order might have sent
-- before. Assumes nothing.
use Prim.Native.Nat.{ℕ, suc, ◌+◌, ◌≤◌}
use mathlib.Core.Path.{◌≡◌, refl}
use mathlib.Core.List.{List, [], ◌∷◌}
use mathlib.Core.Bool.{Bool, true, false, cond}
use native.Mathlib.Omega.{arith}
use lib.ListN.{length, length-append}
use Rattle.lists.specs.Search.{all_of}
use Rattle.lists.proofs.TestLaws.{and_left, and_right}
use Rattle.records.specs.declared.Notice.{Notice}
use Rattle.premise.specs.declared.Order.{Order}
use Rattle.premise.specs.Passes.{Change, pass_from}

-- what a list of orders may send, by what each may
abbrev pub total : (Order → ℕ) → List Order → ℕ
total most [] = 0
total most (o ∷ os) = most o + total most os

-- a list of at most so many notices
pub record AtMost (many : ℕ) (ns : List Notice) : Type 0 where
  pub fact : length ns ≤ many

-- a change that sends, with what its order may then still send, at most so many
pub record Sends (still : Order → ℕ) (most : ℕ) (c : Change) : Type 0 where
  pub fact : length c.notices + still c.order ≤ most

pub few_none : {many : ℕ} → AtMost many []
few_none = record { fact = omega arith }

pub few_one : {n : Notice} → AtMost 1 (n ∷ [])
few_one = record { fact = omega arith }

pub few_more : {n : Notice} {ns : List Notice} → AtMost 1 ns → AtMost 2 (n ∷ ns)
few_more h = record { fact = omega (arith, h.fact) }

pub few_either : (b : Bool) {many : ℕ} {xs ys : List Notice} → AtMost many xs → AtMost many ys → AtMost many (cond b xs ys)
few_either true h k = h
few_either false h k = k

pub ruleset few = (few_none, few_one, few_more, few_either)

module _ {still : Order → ℕ} {most : ℕ} where
  pub sends_none : {o : Order} → still o ≤ most → Sends still most (record { order = o; notices = [] })
  sends_none h = record { fact = omega arith }

  pub sends_one : {o : Order} {ns : List Notice} → AtMost 1 ns → still o ≡ 0 → most ≡ 1
      → Sends still most (record { order = o; notices = ns })
  sends_one h e m = record { fact = omega (arith, h.fact) }

  pub sends_two : {o : Order} {ns : List Notice} → AtMost 2 ns → still o ≡ 0 → most ≡ 2
      → Sends still most (record { order = o; notices = ns })
  sends_two h e m = record { fact = omega (arith, h.fact) }

  pub sends_either : (b : Bool) {x y : Change} → (b ≡ true → Sends still most x) → Sends still most y → Sends still most (cond b x y)
  sends_either true h k = h refl
  sends_either false h k = k

-- A pass whose step stays within what each order may send, where the orders pass a test, stays within the sum.
pub pass_few : (fine : Order → Bool) (most still : Order → ℕ) (g : ℕ → Order → Change)
    → ((i : ℕ) (o : Order) → fine o ≡ true → Sends still (most o) (g i o))
    → (i : ℕ) (os : List Order) → all_of fine os ≡ true
    → length (pass_from g i os).notices + total still (pass_from g i os).orders ≤ total most os
pass_few fine most still g h i [] e = omega arith
pass_few fine most still g h i (o ∷ os) e =
    omega (
      arith,
      (h i o (and_left (fine o) (all_of fine os) e)).fact,
      pass_few fine most still g h (suc i) os (and_right (fine o) (all_of fine os) e),
      length-append (g i o).notices (pass_from g (suc i) os).notices,
    )

-- the same where the step stays within for any order
any : Order → Bool
any o = true

all_any : (os : List Order) → all_of any os ≡ true
unfolding any
all_any [] = refl
all_any (o ∷ os) = all_any os

pub each_few : (most still : Order → ℕ) (g : ℕ → Order → Change) → ((i : ℕ) (o : Order) → Sends still (most o) (g i o))
    → (i : ℕ) (os : List Order) → length (pass_from g i os).notices + total still (pass_from g i os).orders ≤ total most os
each_few most still g h i os = pass_few any most still g (λ i o e. h i o) i os (all_any os)
