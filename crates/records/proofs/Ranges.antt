-- References, premises, counters, retailers and windows: what each test says of what goes into the field is the documents' range. Assumes
-- nothing.
use Prim.Native.Nat.{ℕ, ◌≤◌}
use mathlib.Core.Path.{◌≡◌, ap}
use mathlib.Core.Logic.{◌↔◌}
use mathlib.Core.List.{[], ◌∷◌}
use mathlib.Core.Bool.{true, not, ◌&&◌}
use native.Mathlib.Omega.{arith}
use lib.Dec.{eqb, leb}
use borrow.Author.Tests.{eqb-false, not-true, ne_eqb, leb-true, le-leb}
use Rattle.lists.proofs.TestLaws.{and_left, and_right, each_pass}
use Rattle.records.specs.Laws.{UpTo, ReferenceRange, PremiseRange, CounterRange, RetailerRange, RetailerOrNoneRange, WindowRange}

given_up_to : (last n : ℕ) → n ≤ last → (not (eqb n 0) ≡ true) ↔ UpTo last n
given_up_to last n within = (
  (λ h.
      let k = eqb-false n 0 (not-true (eqb n 0) h) in
      record { given = omega (arith, k); within = within }),
  (λ range. ap not (ne_eqb n 0 (λ zero. omega (arith, range.given, zero)))),
)

-- where both ends are tested
pub tested_up_to : (last n : ℕ) → ((leb 1 n && leb n last) ≡ true) ↔ UpTo last n
tested_up_to last n = (
  (λ h. record { given = leb-true 1 n (and_left (leb 1 n) (leb n last) h); within = leb-true n last (and_right (leb 1 n) (leb n last) h) }),
  (λ range. each_pass (leb 1 n) (leb n last ∷ []) (le-leb 1 n range.given, (le-leb n last range.within, tt))),
)

pub reference_range : ReferenceRange
reference_range n goes = given_up_to 4294967295 n (omega (arith, goes))

pub premise_range : PremiseRange
premise_range n goes = given_up_to 18446744073709551615 n (omega (arith, goes))

pub counter_range : CounterRange
counter_range n goes = tested_up_to 4294967295 n

pub retailer_range : RetailerRange
retailer_range n = tested_up_to 9999999999999 n

pub retailer_or_none_range : RetailerOrNoneRange
retailer_or_none_range n = (leb-true n 9999999999999, le-leb n 9999999999999)

pub window_range : WindowRange
window_range n = (leb-true n 5, le-leb n 5)
