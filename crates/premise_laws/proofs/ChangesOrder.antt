-- An order that is due is one that the evaluation changes; of one that it leaves, what each pass asks is not so. Assumes nothing.
use Prim.Native.Nat.{ℕ}
use mathlib.Core.Path.{◌≡◌, refl, sym}
use mathlib.Core.List.{List}
use mathlib.Core.Bool.{Bool, true, false, ◌||◌}
use Rattle.lists.proofs.TestLaws.{or_left, or_right}
use Rattle.days.specs.Window.{up_to}
use Rattle.premise.specs.declared.Order.{Order}
use Rattle.premise.specs.Evaluation.{gives_way, is_displaced, is_overtaken, is_due}
use Rattle.premise_laws.specs.Changes.{changes_order}

or_last : (a b : Bool) → b ≡ true → true ≡ (a || b)
or_last true b h = refl
or_last false b h = sym h

-- no pass changes an order: what each asks of it is not so
pub record LetBe (today last agreement : ℕ) (os : List Order) (i : ℕ) (o : Order) : Type 0 where
  pub one : gives_way (up_to last) os i o ≡ false
  pub two : is_displaced (up_to last) os o ≡ false
  pub three : is_overtaken today os o ≡ false
  pub four : is_due (up_to last) agreement o ≡ false

module _ (today last agreement : ℕ) (os : List Order) (i : ℕ) (o : Order) where
  pub changes_due : is_due (up_to last) agreement o ≡ true → true ≡ changes_order today last agreement os i o
  unfolding changes_order
  changes_due e =
      or_last (gives_way (up_to last) os i o || is_displaced (up_to last) os o || is_overtaken today os o) (is_due (up_to last) agreement o) e

  -- ---- no pass
  pub let_be : changes_order today last agreement os i o ≡ false → LetBe today last agreement os i o
  unfolding changes_order
  let_be e =
      let a = gives_way (up_to last) os i o in
      let b = is_displaced (up_to last) os o in
      let c = is_overtaken today os o in
      let three = or_left (a || b || c) (is_due (up_to last) agreement o) e in
      let two = or_left (a || b) c three in
      record {
        one = or_left a b two;
        two = or_right a b two;
        three = or_right (a || b) c three;
        four = or_right (a || b || c) (is_due (up_to last) agreement o) e;
      }
