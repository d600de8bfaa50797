-- Lists of notices of one premise: how they are made, and that passes and steps only join them. Assumes nothing.
use Prim.Native.Nat.{ℕ, suc}
use mathlib.Core.Path.{◌≡◌, subst}
use mathlib.Core.List.{List, [], ◌∷◌}
use mathlib.Core.Bool.{Bool, true, false, cond}
use Rattle.lists.specs.Search.{Each}
use Rattle.records.specs.declared.Notice.{Notice}
use Rattle.premise.specs.declared.Order.{Order}
use Rattle.premise.specs.declared.File.{File}
use Rattle.premise.specs.Passes.{Change, Outcome, Effect, pass_from, and_then}
use Rattle.premise.specs.OnePremise.{followed}
use Rattle.premise_laws.specs.Laws.{Of}
use Rattle.lists.proofs.SearchLaws.{each_append}

module _ (P : Notice → Type 0) where
  pub each_pass : (g : ℕ → Order → Change) → ((i : ℕ) (o : Order) → Each P (g i o).notices) → (i : ℕ) (os : List Order)
      → Each P (pass_from g i os).notices
  each_pass g h i [] = tt
  each_pass g h i (o ∷ os) = each_append P (g i o).notices (pass_from g (suc i) os).notices (h i o) (each_pass g h (suc i) os)

  pub each_then : (first : Outcome) (next : List Order → Outcome) → Each P first.notices
      → ((os : List Order) → Each P (next os).notices) → Each P (and_then first next).notices
  each_then first next h k = each_append P first.notices (next first.orders).notices h (k first.orders)

  pub each_followed : (first : Effect) (next : File → Effect) → Each P first.notices → Each P (next first.file).notices
      → Each P (followed first next).notices
  each_followed first next h k = each_append P first.notices (next first.file).notices h k

-- ---- of a premise
pub of_same : {p q : ℕ} (ns : List Notice) → p ≡ q → Each (Of p) ns → Each (Of q) ns
of_same ns e h = subst (λ (n : ℕ). Each (Of n) ns) e h

-- the same as records, so that a search can go by their shapes: all notices of a list, and those of a change
pub record Says (premise : ℕ) (ns : List Notice) : Type 0 where
  pub all : Each (Of premise) ns

pub record Speaks (premise : ℕ) (c : Change) : Type 0 where
  pub all : Each (Of premise) c.notices

-- how lists of notices and changes are made, whatever is tested
module _ {premise : ℕ} where
  pub says_none : Says premise []
  says_none = record { all = tt }

  pub says_more : {n : Notice} {ns : List Notice} → n.premise ≡ premise → Says premise ns → Says premise (n ∷ ns)
  says_more e h = record { all = (e, h.all) }

  pub says_either : (b : Bool) {xs ys : List Notice} → Says premise xs → Says premise ys → Says premise (cond b xs ys)
  says_either true h k = h
  says_either false h k = k

  pub speaks_change : {o : Order} {ns : List Notice} → Says premise ns → Speaks premise (record { order = o; notices = ns })
  speaks_change h = record { all = h.all }

  pub speaks_either : (b : Bool) {x y : Change} → Speaks premise x → Speaks premise y → Speaks premise (cond b x y)
  speaks_either true h k = h
  speaks_either false h k = k

pub ruleset speaking = (says_none, says_more, says_either, speaks_change, speaks_either)
