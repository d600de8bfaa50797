-- A pass over a file's orders leaves them kept, with the references that they had and no more of a retailer's open, if its step does so for
-- each; so do the clock and the evaluation, and a day mark leaves a well_kept file. Assumes nothing.
use Prim.Native.Nat.{ℕ, suc, ◌≤◌}
use mathlib.Core.Path.{◌≡◌, refl, sym, ap, ap₂, ◌∙◌}
use mathlib.Core.List.{List, [], ◌∷◌}
use mathlib.Core.Bool.{Bool, true, ◌&&◌}
use native.Mathlib.Omega.{arith}
use lib.Dec.{eqb, leb}
use lib.ListN.{length, length-map}
use Rattle.lists.specs.Search.{all_of, Each}
use Rattle.lists.proofs.TestLaws.{and_left, and_right}
use Rattle.lists.proofs.SearchLaws.{count_one}
use Rattle.days.specs.Days.{is_day, is_business_day}
use Rattle.days.specs.Window.{most_width, in_window}
use Rattle.records.specs.Records.{a_premise, a_retailer_or_none}
use Rattle.premise.specs.declared.Order.{Order}
use Rattle.premise.specs.declared.File.{File}
use Rattle.premise.specs.Orders.{most_orders, is_open, is_open_of, open_of, held, with_orders, with_agreement}
use Rattle.premise.specs.Passes.{Change, Outcome, pass_from, and_then}
use Rattle.premise.specs.Clock.{ticked, clock}
use Rattle.premise.specs.Evaluation.{same_day_switch, same_day_switches, drop_on_switch_day, drops_on_switch_days, permit_overtaken, permits_overtaken}
use Rattle.premise.specs.Evaluation.{loss_notice, loss_notices, evaluation, evaluated}
use Rattle.premise.specs.WellKept.{order_kept, distinct}
use Rattle.premise.specs.OnePremise.{marked, marked_with}
use Rattle.premise_laws.specs.Laws.{KeptFor, MarkKeeps, MarkKeepsShares}
use Rattle.premise_laws.proofs.KeptOrders.{OrderKept, orders_facts, orders_test}
use Rattle.premise_laws.proofs.KeptChanges.{Leaves, leaves_ticked, leaves_same_day, leaves_drop, leaves_overtaken, leaves_loss}
use Rattle.premise.proofs.KeptFiles.{held_with, tidy_with, held_few}
use Rattle.premise_laws.proofs.KeptReferences.{references, distinct_same}

-- an open order of a retailer was one before
pub was_of : (retailer : ℕ) (o after : Order) → Leaves o after → is_open_of retailer after ≡ true → is_open_of retailer o ≡ true
was_of retailer o after a e =
    let here = and_left (is_open after) (eqb after.submitter retailer) e in
    let own = and_right (is_open after) (eqb after.submitter retailer) e in
    ap₂ (λ (x y : Bool). x && y) (a.was_open here) (ap (λ (n : ℕ). eqb n retailer) (sym a.submitter) ∙ own)

-- orders afterwards: kept, with the references that they had, and no retailer has more of them open
pub record LeavesAll (before after : List Order) : Type 0 where
  pub references : references after ≡ references before
  pub open_of_lem : (retailer : ℕ) → open_of retailer after ≤ open_of retailer before
  pub kept : Each OrderKept after

pub leaves_then : (os next last : List Order) → LeavesAll os next → LeavesAll next last → LeavesAll os last
leaves_then os next last a b = record {
  references = b.references ∙ a.references;
  open_of_lem = λ retailer. omega (arith, a.open_of_lem retailer, b.open_of_lem retailer);
  kept = b.kept;
}

pub same_many : (os after : List Order) → LeavesAll os after → length after ≡ length os
same_many os after a =
    sym (length-map after (λ (o : Order). o.reference)) ∙ ap length a.references ∙ length-map os (λ (o : Order). o.reference)

-- ---- a pass
pub pass_leaves : (step : ℕ → Order → Change) → ((i : ℕ) (o : Order) → OrderKept o → Leaves o (step i o).order)
    → (i : ℕ) (os : List Order) → Each OrderKept os → LeavesAll os (pass_from step i os).orders
pass_leaves step s i [] k = record { references = refl; open_of_lem = λ retailer. omega arith; kept = tt }
pass_leaves step s i (o ∷ os) k =
    let here = s i o k.0 in
    let rest = pass_leaves step s (suc i) os k.1 in
    record {
      references = ap₂ (λ (n : ℕ) (ns : List ℕ). n ∷ ns) here.reference rest.references;
      open_of_lem = λ retailer.
          count_one (is_open_of retailer) o (step i o).order (was_of retailer o (step i o).order here)
          (open_of retailer (pass_from step (suc i) os).orders) (open_of retailer os) (rest.open_of_lem retailer);
      kept = (here.kept, rest.kept);
    }

pub clock_leaves : (calendar : List ℕ) (today premise : ℕ) (os : List Order) → Each OrderKept os
    → LeavesAll os (clock calendar today premise os).orders
clock_leaves calendar today premise os k =
    pass_leaves (λ (i : ℕ). ticked (is_business_day calendar today) today premise)
    (λ i o h. leaves_ticked (is_business_day calendar today) today premise o h) 0 os k

-- one after another
both_leave : (first : Outcome) (next : List Order → Outcome) (os : List Order) → LeavesAll os first.orders
    → ((xs : List Order) → Each OrderKept xs → LeavesAll xs (next xs).orders) → LeavesAll os (and_then first next).orders
both_leave first next os a n = leaves_then os first.orders (next first.orders).orders a (n first.orders a.kept)

module _ (near : ℕ → Bool) (today : ℕ) (f : File) where
  same_day_leaves : (os : List Order) → Each OrderKept os → LeavesAll os (same_day_switches near f.premise os).orders
  same_day_leaves os k = pass_leaves (same_day_switch near f.premise os)
      (λ i o h. leaves_same_day near today f.premise f.retailer f.agreement os o h i) 0 os k

  drops_leave : (os : List Order) → Each OrderKept os → LeavesAll os (drops_on_switch_days near f os).orders
  drops_leave os k = pass_leaves (λ (i : ℕ). drop_on_switch_day near f.premise f.retailer os)
      (λ i o h. leaves_drop near today f.premise f.retailer f.agreement os o h) 0 os k

  permits_leave : (os : List Order) → Each OrderKept os → LeavesAll os (permits_overtaken today f.premise os).orders
  permits_leave os k = pass_leaves (λ (i : ℕ). permit_overtaken today f.premise os)
      (λ i o h. leaves_overtaken near today f.premise f.retailer f.agreement os o h)
      0 os k

  losses_leave : (os : List Order) → Each OrderKept os → LeavesAll os (loss_notices near f os).orders
  losses_leave os k = pass_leaves (λ (i : ℕ). loss_notice near f.premise f.retailer f.agreement)
      (λ i o h. leaves_loss near today f.premise f.retailer f.agreement os o h) 0
      os k

  pub evaluation_leaves : (os : List Order) → Each OrderKept os → LeavesAll os (evaluation near today f os).orders
  unfolding evaluation
  evaluation_leaves os k =
      let one = same_day_switches near f.premise os in
      let two = and_then one (drops_on_switch_days near f) in
      let three = and_then two (permits_overtaken today f.premise) in
      let a = both_leave one (drops_on_switch_days near f) os (same_day_leaves os k) drops_leave in
      let b = both_leave two (permits_overtaken today f.premise) os a permits_leave in
      both_leave three (loss_notices near f) os b losses_leave

-- ---- a file
-- the file of a premise, its other fields beside the orders in range
pub record HeaderKept (premise : ℕ) (f : File) : Type 0 where
  pub number : f.premise ≡ premise
  pub known : a_premise f.premise ≡ true
  pub retailer : a_retailer_or_none f.retailer ≡ true
  pub since : is_day f.since ≡ true
  pub window : (leb 1 f.window && leb f.window most_width) ≡ true
  pub agreement : a_retailer_or_none f.agreement ≡ true
  pub entered : leb f.entered 1 ≡ true

pub header_of : (premise : ℕ) (f : File) → KeptFor premise f → HeaderKept premise f
header_of premise f k =
    record {
      number = k.number;
      known = k.kept.premise;
      retailer = k.kept.retailer;
      since = k.kept.since;
      window = k.kept.window;
      agreement = k.kept.agreement;
      entered = k.kept.entered;
    }

-- with other orders
pub kept_with : (premise : ℕ) (f : File) (os : List Order) → HeaderKept premise f → length os ≤ most_orders → Each OrderKept os
    → distinct os ≡ true
    → KeptFor premise (with_orders f os)
kept_with premise f os h n k d =
    record {
      number = h.number;
      kept = record {
        premise = h.known;
        retailer = h.retailer;
        since = h.since;
        window = h.window;
        agreement = h.agreement;
        entered = h.entered;
        orders = ap (all_of order_kept) (held_with f os) ∙ orders_test os k;
        references = ap distinct (held_with f os) ∙ d;
        tidy = tidy_with f os n;
      };
    }

-- with another agreement
pub kept_agreement : (premise : ℕ) (f : File) (agreement : ℕ) → a_retailer_or_none agreement ≡ true → KeptFor premise f
    → KeptFor premise (with_agreement f agreement)
kept_agreement premise f agreement h k =
    record {
      number = k.number;
      kept = record {
        premise = k.kept.premise;
        retailer = k.kept.retailer;
        since = k.kept.since;
        window = k.kept.window;
        agreement = h;
        entered = k.kept.entered;
        orders = k.kept.orders;
        references = k.kept.references;
        tidy = record { few = k.kept.tidy.few; whole = k.kept.tidy.whole };
      };
    }

-- a file afterwards: well kept, with the references that it had, and no retailer has more open orders in it
pub record LeavesFile (premise : ℕ) (before after : File) : Type 0 where
  pub kept : KeptFor premise after
  pub references : references (held after) ≡ references (held before)
  pub open_of_lem : (retailer : ℕ) → open_of retailer (held after) ≤ open_of retailer (held before)

file_then : (premise : ℕ) (f next last : File) → LeavesFile premise f next → LeavesFile premise next last → LeavesFile premise f last
file_then premise f next last a b =
    record {
      kept = b.kept;
      references = b.references ∙ a.references;
      open_of_lem = λ retailer. omega (arith, a.open_of_lem retailer, b.open_of_lem retailer);
    }

-- with orders that have the references of those of a well_kept file; R and S may be others
pub file_after : (premise : ℕ) (f g : File) (os : List Order) → KeptFor premise f → HeaderKept premise g → LeavesAll (held f) os
    → LeavesFile premise f (with_orders g os)
file_after premise f g os k h a = record {
  kept = kept_with premise g os h (omega (arith, same_many (held f) os a, held_few f k.kept.tidy)) a.kept
      (distinct_same (held f) os a.references k.kept.references);
  references = rw (held_with g os) a.references;
  open_of_lem = λ retailer. rw (held_with g os) (a.open_of_lem retailer);
}

pub evaluated_leaves : (calendar : List ℕ) (today : ℕ) (f : File) (premise : ℕ) → KeptFor premise f
    → LeavesFile premise f (evaluated calendar today f).file
evaluated_leaves calendar today f premise k =
    file_after premise f f (evaluation (in_window calendar f.window today) today f (held f)).orders k
    (header_of premise f k)
    (evaluation_leaves (in_window calendar f.window today) today f (held f)
    (orders_facts (held f) k.kept.orders))

pub mark_leaves : (calendar : List ℕ) (today : ℕ) (f : File) (premise : ℕ) → KeptFor premise f
    → LeavesFile premise f (marked calendar today f).file
unfolding marked_with
mark_leaves calendar today f premise k =
    let after = (clock calendar today f.premise (held f)).orders in
    let a = file_after premise f f after k (header_of premise f k)
    (clock_leaves calendar today f.premise (held f) (orders_facts (held f) k.kept.orders)) in
    file_then premise f (with_orders f after) (evaluated calendar today (with_orders f after)).file a
    (evaluated_leaves calendar today (with_orders f after) premise a.kept)

pub mark_keeps : MarkKeeps
mark_keeps calendar today f premise k = (mark_leaves calendar today f premise k).kept

pub mark_keeps_shares : MarkKeepsShares
mark_keeps_shares calendar today f retailer k h =
    omega (arith, h, (mark_leaves calendar today f f.premise (record { number = refl; kept = k })).open_of_lem retailer)
