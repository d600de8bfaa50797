-- Laws of an order's fields: which case of the status decides the scheduled day, and that the fields in range make up the definition.
-- Assumes nothing.
use Prim.Native.Nat.{ℕ}
use mathlib.Core.Path.{◌≡◌, refl, sym}
use mathlib.Core.Bool.{Bool, true, false, cond, not, ◌&&◌, ◌||◌, and-true, and-false, or-false}
use native.Mathlib.Omega.{arith}
use lib.Dec.{eqb, leb}
use borrow.Author.Tests.{eqb-true, eqb-false, leb-true, leb-false, le-leb, lt-leb}
use Rattle.lists.proofs.TestLaws.{or_either}
use Rattle.days.specs.Days.{last_day, no_day, is_day}
use Rattle.records.specs.Records.{last_counter, a_reference, a_retailer, an_order_kind}
use Rattle.premise.specs.declared.Order.{Order}
use Rattle.premise.specs.Orders.{in_review, permit_pending, scheduled, complete, unexecutable, has_status}
use Rattle.premise.specs.Clock.{most_waited}
use Rattle.premise.specs.WellKept.{day_fits, permit_fits, pending_fits, order_kept_by, order_kept}

-- a day or none is a number up to none's
day_or_none : (day : ℕ) → (is_day day || eqb day no_day) ≡ leb day no_day
day_or_none day = go (is_day day) refl (eqb day no_day) refl
  where
    go : (a : Bool) → is_day day ≡ a → (b : Bool) → eqb day no_day ≡ b → (a || b) ≡ leb day no_day
    go true p b q = sym (le-leb day no_day (omega (arith, leb-true day last_day p)))
    go false p true q = sym (le-leb day no_day (omega (arith, eqb-true day no_day q)))
    go false p false q = sym (lt-leb day no_day (omega (arith, leb-false day last_day p, eqb-false day no_day q)))

module _ (o : Order) where
  -- ---- the scheduled day
  abbrev day : ℕ
  day = o.scheduled

  abbrev undated : Bool
  undated = has_status in_review o || has_status permit_pending o

  abbrev dated : Bool
  dated = has_status scheduled o || has_status complete o

  -- no status is both
  not_dated : undated ≡ true → dated ≡ false
  not_dated e =
      or_either (has_status in_review o) (has_status permit_pending o) e (λ q. rw (eqb-true o.status in_review q))
      (λ q. rw (eqb-true o.status permit_pending q))

  pub day_fits_lem : ((is_day day && not undated) || (eqb day no_day && not dated)) ≡ day_fits o
  day_fits_lem = go undated refl
    where
      given : (d : Bool) → ((is_day day && true) || (eqb day no_day && not d)) ≡ cond d (is_day day) (leb day no_day)
      given true = rw (and-true (is_day day), and-false (eqb day no_day), or-false (is_day day))
      given false = rw (and-true (is_day day), and-true (eqb day no_day)) (day_or_none day)

      go : (u : Bool) → undated ≡ u
          → ((is_day day && not u) || (eqb day no_day && not dated)) ≡ cond u (eqb day no_day) (cond dated (is_day day) (leb day no_day))
      go true e = rw (not_dated e, and-false (is_day day), and-true (eqb day no_day))
      go false e = given dated

  -- ---- every field, with what the two tests by the status answer
  abbrev fields : Bool → Bool → Bool
  fields day pending =
      a_reference o.reference
      && an_order_kind o.kind
      && a_retailer o.submitter
      && is_day o.requested
      && (leb in_review o.status && leb o.status unexecutable)
      && day
      && permit_fits o
      && leb o.waited.0 most_waited
      && pending
      && leb o.told 1
      && leb o.counter last_counter

  pub fields_kept_lem : (day pending : Bool) → day ≡ day_fits o → pending ≡ pending_fits o → fields day pending ≡ order_kept o
  unfolding order_kept_by
  fields_kept_lem day pending d p = rw (d, p)
