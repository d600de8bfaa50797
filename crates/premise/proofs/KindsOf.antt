-- Which kinds of records need a premise, and which name an order, by their number: none of them is a create or a day mark, and a
-- well-formed record of any other kind is one of those two. Assumes nothing.
use Prim.Native.Nat.{ℕ, ◌≤◌, ◌<◌}
use mathlib.Core.Path.{◌≡◌, refl, sym, ap, ◌∙◌}
use mathlib.Core.Logic.{◌⊎◌, ⊎_elim}
use mathlib.Core.Bool.{Bool, true, false, ◌&&◌, ◌||◌, and-false, or-true, false≢true}
use native.Mathlib.Omega.{arith}
use lib.Dec.{eqb, leb}
use borrow.Author.Tests.{eqb-false, eq-eqb, ne_eqb, le-leb, lt-leb, leb-true, leb-false}
use Rattle.lists.proofs.TestLaws.{by_test, and_left, and_right, and_other, or_left, or_right, or_either}
use Rattle.records.specs.declared.Record.{Record}
use Rattle.records.specs.Records.{kind_create, kind_retire, kind_new_order, kind_scheduled, kind_reply, kind_day_mark, kind_date_change}
use Rattle.records.specs.Records.{kind_agreement, well_formed}
use Rattle.records.proofs.Formed.{formed}
use Rattle.premise.specs.Steps.{is}
use Rattle.premise.specs.Refusals.{needs_premise, names_order}
use Rattle.premise.specs.Promises.{StaysHeld}

-- a kind from one on up to the reply, or a date change: `names_order` from scheduled on
abbrev pub from_or_change : ℕ → ℕ → Bool
from_or_change least kind = leb least kind && leb kind kind_reply || eqb kind kind_date_change

-- from the retire on, and an agreement: `needs_premise`
abbrev pub kind_needs : ℕ → Bool
kind_needs kind = from_or_change kind_retire kind || eqb kind kind_agreement

module _ (r : Record) where
  -- ---- by the number, as an arm of a dispatch has it
  pub among : (least : ℕ) → ((least ≤ r.kind) × (r.kind ≤ kind_reply)) ⊎ (r.kind ≡ kind_date_change) → from_or_change least r.kind ≡ true
  among least h =
      ⊎_elim
      (λ h. rw (le-leb least r.kind h.0, le-leb r.kind kind_reply h.1))
      (λ h. rw (eq-eqb r.kind kind_date_change h, or-true)) h

  pub not_among : (least : ℕ) → (r.kind < least) ⊎ (kind_reply < r.kind) → (r.kind ≡ kind_date_change → ⊥)
      → from_or_change least r.kind ≡ false
  not_among least out other =
      ⊎_elim
      (λ h. rw (lt-leb least r.kind h, ne_eqb r.kind kind_date_change other))
      (λ h. rw (lt-leb r.kind kind_reply h, and-false, ne_eqb r.kind kind_date_change other)) out

  -- ---- a kind that is not among them is another one
  other_kind : (p : ℕ → Bool) (kind : ℕ) → p kind ≡ false → p r.kind ≡ true → is kind r ≡ false
  other_kind p kind none among = ne_eqb r.kind kind (λ q. false≢true (sym none ∙ sym (ap p q) ∙ among))

  pub needs_no_create : needs_premise r ≡ true → is kind_create r ≡ false
  needs_no_create = other_kind kind_needs kind_create refl

  pub needs_no_mark : needs_premise r ≡ true → is kind_day_mark r ≡ false
  needs_no_mark = other_kind kind_needs kind_day_mark refl

  pub names_other : (kind : ℕ) → from_or_change kind_scheduled kind ≡ false → names_order r ≡ true → is kind r ≡ false
  names_other = other_kind (from_or_change kind_scheduled)

  -- ---- what is left
  above : (least : ℕ) → from_or_change least r.kind ≡ false → least ≤ r.kind → kind_reply < r.kind
  above least neither from =
      let between = or_left (leb least r.kind && leb r.kind kind_reply) (is kind_date_change r) neither in
      leb-false r.kind kind_reply (and_other (leb least r.kind) (leb r.kind kind_reply) between (le-leb least r.kind from))

  -- a record that leaves its premise's file, names no order and is no agreement is a new order
  pub else_new_order : StaysHeld r → names_order r ≡ false → is kind_agreement r ≡ false → r.kind ≡ kind_new_order
  else_new_order held unnamed other =
      let upto = leb r.kind kind_reply in
      or_either (from_or_change kind_retire r.kind) (is kind_agreement r) held.needs
      (λ early. or_either (leb kind_retire r.kind && upto) (is kind_date_change r) early
      (λ between.
      let last = leb-true r.kind kind_reply (and_right (leb kind_retire r.kind) upto between) in
      let from = leb-true kind_retire r.kind (and_left (leb kind_retire r.kind) upto between) in
      let retire = eqb-false r.kind kind_retire held.stays in
      by_test (λ (_ : Bool). r.kind ≡ kind_new_order) (leb kind_scheduled r.kind) true false
      (λ h. absurd (omega (arith, last, above kind_scheduled unnamed (leb-true kind_scheduled r.kind h))))
      (λ h. omega (arith, from, retire, leb-false kind_scheduled r.kind h)))
      (λ change. absurd (false≢true (sym (or_right (leb kind_scheduled r.kind && upto) (is kind_date_change r) unnamed) ∙ change))))
      (λ agreement. absurd (false≢true (sym other ∙ agreement)))

  -- a well-formed record that is neither a create nor needs a premise marks a day
  pub else_mark : well_formed r ≡ true → is kind_create r ≡ false → needs_premise r ≡ false → is kind_day_mark r ≡ true
  else_mark w other neither =
      let kinds = (formed r w).kind in
      let early = or_left (from_or_change kind_retire r.kind) (is kind_agreement r) neither in
      let change = or_right (leb kind_retire r.kind && leb r.kind kind_reply) (is kind_date_change r) early in
      let agreement = or_right (from_or_change kind_retire r.kind) (is kind_agreement r) neither in
      let past = above kind_retire early (omega (arith, eqb-false r.kind kind_create other, kinds.given)) in
      eq-eqb r.kind kind_day_mark
      (omega (arith, past, kinds.within, eqb-false r.kind kind_date_change change, eqb-false r.kind kind_agreement agreement))
