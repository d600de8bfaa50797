-- Laws of `well_formed`: the facts that its tests stand for, of a known kind and of any. Assumes nothing.
use Prim.Native.Nat.{ℕ, ◌≤◌}
use mathlib.Core.Path.{◌≡◌, refl, sym, ◌∙◌}
use mathlib.Core.List.{[], ◌∷◌}
use mathlib.Core.Bool.{Bool, true, false, cond, not, ◌&&◌, false≢true}
use native.Mathlib.Omega.{arith}
use lib.Dec.{eqb, leb}
use borrow.Author.Tests.{eqb-true, eqb-false, leb-true, leb-false, not-true}
use Rattle.lists.proofs.TestLaws.{pass_each}
use Rattle.days.specs.Days.{last_day, is_day}
use Rattle.records.specs.declared.Record.{Record}
use Rattle.records.specs.Records.{kind_agreement, standard_switch, mass_transition_drop, reply_reject, last_retailer, unused, a_reference}
use Rattle.records.specs.Records.{a_premise, a_retailer, a_retailer_or_none, a_counter, an_order_kind, a_reply, an_agreement, order_day}
use Rattle.records.specs.Records.{delete, last_counter, a_window, well_formed}
use Rattle.records.specs.Kinds.{holds, dated_holds, undated_holds, holds_by_kind}
use Rattle.records.specs.Laws.{Unused, ADay, AWindow, Given, ARetailerOrNone, FieldsOfKind, fields_by_kind, Fields, UpTo, OrderDay}
use Rattle.records.specs.Laws.{Formed}
use Rattle.records.proofs.Ranges.{tested_up_to, window_range}
use Rattle.records.proofs.ByNumber.{◌also◌, every_at, Means, means_at}
use Rattle.records.proofs.ByKind.{formed_at, formed_past}

is_unused_lem : (n : ℕ) → unused n ≡ true → Unused n
is_unused_lem n h = eqb-true n 0 h

is_day_lem : (n : ℕ) → is_day n ≡ true → ADay n
is_day_lem n h = leb-true n last_day h

is_given : (n : ℕ) → not (eqb n 0) ≡ true → Given n
is_given n h =
    let k = eqb-false n 0 (not-true (eqb n 0) h) in
    omega arith

is_up_to : (last n : ℕ) → (leb 1 n && leb n last) ≡ true → UpTo last n
is_up_to last n h = (tested_up_to last n).0 h

is_at_most : (n : ℕ) → a_retailer_or_none n ≡ true → ARetailerOrNone n
is_at_most n h = leb-true n last_retailer h

is_window : (n : ℕ) → a_window n ≡ true → AWindow n
is_window n h = (window_range n).0 h

is_order_day : (kind n : ℕ) → order_day kind n ≡ true → OrderDay kind n
is_order_day kind n h = go (eqb kind standard_switch) refl h
  where
    go : (b : Bool) → eqb kind standard_switch ≡ b → cond b unused is_day n ≡ true → OrderDay kind n
    go true e h = let z = eqb-true n 0 h in record { within = omega arith; standard = λ k. z }
    go false e h = record { within = leb-true n last_day h; standard = λ k. absurd (eqb-false kind standard_switch e k) }

are_fields : {Detail Day Reference Premise Retailer : ℕ → Type 0} (detail day reference premise retailer : ℕ → Bool) (r : Record)
    → ((n : ℕ) → detail n ≡ true → Detail n)
    → ((n : ℕ) → day n ≡ true → Day n)
    → ((n : ℕ) → reference n ≡ true → Reference n)
    → ((n : ℕ) → premise n ≡ true → Premise n)
    → ((n : ℕ) → retailer n ≡ true → Retailer n)
    → holds detail day reference premise retailer r ≡ true
    → Fields Detail Day Reference Premise Retailer r
are_fields detail day reference premise retailer r d y f p q h =
    let k = pass_each (detail r.detail) (day r.day ∷ reference r.reference ∷ premise r.premise ∷ retailer r.retailer ∷ [])
    h in
    record {
      detail = d r.detail k.0;
      day = y r.day k.1.0;
      reference = f r.reference k.1.1.0;
      premise = p r.premise k.1.1.1.0;
      retailer = q r.retailer k.1.1.1.1.0;
    }

dated : (r : Record) → dated_holds r ≡ true → Fields Unused ADay Given Given Unused r
dated r = are_fields unused is_day a_reference a_premise unused r is_unused_lem is_day_lem is_given is_given is_unused_lem

undated : (r : Record) → undated_holds r ≡ true → Fields Unused Unused Given Given Unused r
undated r = are_fields unused unused a_reference a_premise unused r is_unused_lem is_unused_lem is_given is_given is_unused_lem

by_kind : (r : Record) → Means (holds_by_kind r) (fields_by_kind r)
by_kind r =
    false≢true
    also are_fields a_window is_day unused a_premise a_retailer_or_none r is_window is_day_lem is_unused_lem is_given is_at_most
    also are_fields unused unused unused a_premise unused r is_unused_lem is_unused_lem is_unused_lem is_given is_unused_lem
    also are_fields an_order_kind (order_day r.detail) a_reference a_premise a_retailer r (is_up_to mass_transition_drop)
    (is_order_day r.detail) is_given is_given (is_up_to last_retailer)
    also dated r
    also undated r
    also undated r
    also dated r
    also are_fields unused unused a_reference a_premise a_retailer r is_unused_lem is_unused_lem is_given is_given (is_up_to last_retailer)
    also are_fields a_reply unused a_reference a_premise unused r (is_up_to reply_reject) is_unused_lem is_given is_given is_unused_lem
    also are_fields unused is_day unused unused unused r is_unused_lem is_day_lem is_unused_lem is_unused_lem is_unused_lem
    also are_fields unused is_day a_reference a_premise a_counter r is_unused_lem is_day_lem is_given is_given (is_up_to last_counter)
    also are_fields an_agreement unused unused a_premise a_retailer r (is_up_to delete) is_unused_lem is_unused_lem is_given (is_up_to last_retailer)
    also tt

-- What a well-formed record of a known kind holds.
pub fields_at : (kind : ℕ) (r : Record) → well_formed r ≡ true → r.kind ≡ kind → FieldsOfKind kind r
fields_at kind r w e = means_at (holds_by_kind r) (fields_by_kind r) (by_kind r) kind (sym (formed_at kind r e) ∙ w)

module _ (r : Record) (w : well_formed r ≡ true) where
  some_kind : 1 ≤ r.kind
  some_kind = go (eqb r.kind 0) refl
    where
      go : (b : Bool) → eqb r.kind 0 ≡ b → 1 ≤ r.kind
      go true e = absurd (false≢true (sym (formed_at 0 r (eqb-true r.kind 0 e)) ∙ w))
      go false e =
          let other = eqb-false r.kind 0 e in
          omega arith

  last_kind : r.kind ≤ kind_agreement
  last_kind = go (leb r.kind kind_agreement) refl
    where
      go : (b : Bool) → leb r.kind kind_agreement ≡ b → r.kind ≤ kind_agreement
      go true e = leb-true r.kind kind_agreement e
      go false e = absurd (false≢true (sym (formed_past r (leb-false r.kind kind_agreement e)) ∙ w))

-- What a well-formed record of any kind holds.
pub formed : (r : Record) → well_formed r ≡ true → Formed r
formed r w =
    every_at (λ (k : ℕ). r.kind ≡ k → Formed r) 1 12
    ((λ e. let f = fields_at 1 r w e in omega arith)
    also (λ e. let f = fields_at 2 r w e in omega arith)
    also (λ e. let f = fields_at 3 r w e in omega arith)
    also (λ e. let f = fields_at 4 r w e in omega arith)
    also (λ e. let f = fields_at 5 r w e in omega arith)
    also (λ e. let f = fields_at 6 r w e in omega arith)
    also (λ e. let f = fields_at 7 r w e in omega arith)
    also (λ e. let f = fields_at 8 r w e in omega arith)
    also (λ e. let f = fields_at 9 r w e in omega arith)
    also (λ e. let f = fields_at 10 r w e in omega arith)
    also (λ e. let f = fields_at 11 r w e in omega arith)
    also (λ e. let f = fields_at 12 r w e in omega arith)
    also tt)
    r.kind (some_kind r w) (omega (arith, last_kind r w)) refl
