-- A file with other orders, and what it means that a file is well kept: the test `file_kept` and the facts behind it. Assumes nothing.
use Prim.Native.Nat.{ℕ, ◌-◌, ◌≤◌}
use mathlib.Core.Path.{◌≡◌, sym, ap, ◌∙◌}
use mathlib.Core.List.{List, [], ◌∷◌, ◌++◌}
use mathlib.Core.Bool.{Bool, true, ◌&&◌}
use native.Mathlib.Omega.{arith}
use lib.Dec.{eqb, leb}
use lib.ListN.{length, drop, replicate, take-append-drop, length-append, length-take, length-drop, length-replicate}
use lib.Seq.{take-append_seam, drop_at}
use borrow.Author.Tests.{leb-true, le-leb, eqb-true, eq-eqb}
use Rattle.lists.specs.Search.{all_of}
use Rattle.lists.proofs.TestLaws.{pass_each, each_pass}
use Rattle.lists.proofs.SearchLaws.{all_are, all_same}
use Rattle.days.specs.Days.{is_day}
use Rattle.days.specs.Window.{most_width}
use Rattle.records.specs.Records.{a_premise, a_retailer_or_none}
use Rattle.premise.specs.declared.Order.{Order}
use Rattle.premise.specs.declared.File.{File}
use Rattle.premise.specs.Orders.{most_orders, blank, held, places, with_orders}
use Rattle.premise.specs.WellKept.{order_kept, distinct, is_blank, file_kept_by, file_kept, Tidy, FileKept}
use Rattle.premise.specs.Laws.{KeptMeans}
use Rattle.premise.proofs.Blank.{blank_is, blank_passes}

-- ---- a file's places
pub length-places : (os : List Order) → length os ≤ most_orders → length (places os) ≡ most_orders
unfolding places
length-places os h = simp (length-append, length-replicate) (omega arith)

pub held_with : (f : File) (os : List Order) → held (with_orders f os) ≡ os
unfolding places
held_with f os = take-append_seam os (replicate (most_orders - length os) blank)

pub tidy_with : (f : File) (os : List Order) → length os ≤ most_orders → Tidy (with_orders f os)
tidy_with f os h = record { few = h; whole = ap places (sym (held_with f os)) }

pub length-held : (f : File) → Tidy f → length (held f) ≡ f.count
length-held f t =
    let m = length-take f.count f.orders in
    let s : length (held f) ≤ most_orders = omega (arith, t.few) in
    let e = ap length t.whole ∙ length-places (held f) s in
    omega arith

pub held_few : (f : File) → Tidy f → length (held f) ≤ most_orders
held_few f t = omega (arith, length-held f t, t.few)

pub length-orders : (f : File) → Tidy f → length f.orders ≡ most_orders
length-orders f t = ap length t.whole ∙ length-places (held f) (held_few f t)

-- ---- the unused places
whole_of : (f : File) → f.count ≤ most_orders → length f.orders ≡ most_orders → all_of is_blank (drop f.count f.orders) ≡ true
    → f.orders ≡ places (held f)
unfolding places
whole_of f h e b =
    let n = length-take f.count f.orders in
    let m = length-drop f.count f.orders in
    let q : length (drop f.count f.orders) ≡ most_orders - length (held f) = omega arith in
    sym (take-append-drop f.count f.orders)
    ∙ ap (λ (l : List Order). held f ++ l)
    (all_are is_blank blank blank_is (drop f.count f.orders) b ∙ ap (λ (n : ℕ). replicate n blank) q)

unused_of_lem : (f : File) → Tidy f → drop f.count f.orders ≡ replicate (most_orders - length (held f)) blank
unfolding places
unused_of_lem f t = ap (drop f.count) t.whole
    ∙ drop_at (held f) (replicate (most_orders - length (held f)) blank) f.count (length-held f t)

-- ---- well kept
-- the tests of `file_kept` after the first
abbrev tests : File → List Bool
tests f =
    a_retailer_or_none f.retailer
    ∷ is_day f.since
    ∷ (leb 1 f.window && leb f.window most_width)
    ∷ a_retailer_or_none f.agreement
    ∷ leb f.entered 1
    ∷ leb f.count most_orders
    ∷ eqb (length f.orders) most_orders
    ∷ all_of order_kept (held f)
    ∷ distinct (held f)
    ∷ all_of is_blank (drop f.count f.orders)
    ∷ []

file_facts : (f : File) → file_kept f ≡ true → FileKept f
unfolding file_kept_by
file_facts f h =
    let k = pass_each (a_premise f.premise) (tests f) h in
    let few = leb-true f.count most_orders k.1.1.1.1.1.1.0 in
    let long = eqb-true (length f.orders) most_orders k.1.1.1.1.1.1.1.0 in
    record {
      premise = k.0;
      retailer = k.1.0;
      since = k.1.1.0;
      window = k.1.1.1.0;
      agreement = k.1.1.1.1.0;
      entered = k.1.1.1.1.1.0;
      orders = k.1.1.1.1.1.1.1.1.0;
      references = k.1.1.1.1.1.1.1.1.1.0;
      tidy = record { few = few; whole = whole_of f few long k.1.1.1.1.1.1.1.1.1.1.0 };
    }

file_test_lem : (f : File) → FileKept f → file_kept f ≡ true
unfolding file_kept_by
file_test_lem f k =
    let few = le-leb f.count most_orders k.tidy.few in
    let long = eq-eqb (length f.orders) most_orders (length-orders f k.tidy) in
    let unused = ap (all_of is_blank) (unused_of_lem f k.tidy) ∙ all_same is_blank blank blank_passes (most_orders - length (held f)) in
    each_pass (a_premise f.premise) (tests f) (
      k.premise,
      (
        k.retailer,
        (
          k.since,
          (
            k.window,
            (
              k.agreement,
              (k.entered, (few, (long, (k.orders, (k.references, (unused, tt)))))),
            ),
          ),
        ),
      ),
    )

pub kept_means : KeptMeans
kept_means f = (file_facts f, file_test_lem f)
