-- From which statuses, and for which kinds of order, a record is taken, by the record's kind. Assumes nothing.
use Prim.Native.Nat.{ℕ}
use mathlib.Core.Path.{◌≡◌, refl, ap, ◌∙◌}
use mathlib.Core.Bool.{Bool, true, false, ◌&&◌, ◌||◌, and_assoc, or-false}
use lib.Dec.{leb}
use borrow.Author.Tests.{ne_eqb, eqb-true}
use Rattle.lists.proofs.TestLaws.{and_right, or_either}
use Rattle.records.specs.declared.Record.{Record}
use Rattle.records.specs.Records.{kind_scheduled, kind_permit, kind_unexecutable, kind_read, kind_cancel, kind_reply, kind_date_change}
use Rattle.records.specs.Records.{move_in, move_out}
use Rattle.premise.specs.declared.Order.{Order}
use Rattle.premise.specs.Orders.{in_review, permit_pending, scheduled, cancel_pending, has_status, has_kind, is_open}
use Rattle.premise.specs.Steps.{is, taken}

-- a record with its kind written in it: the tests on the kind then compute
abbrev pub of_kind : ℕ → Record → Record
of_kind kind r = record {
  kind = kind;
  detail = r.detail;
  day = r.day;
  reference = r.reference;
  premise = r.premise;
  retailer = r.retailer;
}

module _ (r : Record) (o : Order) where
  taken_by : (kind : ℕ) → r.kind ≡ kind → taken r o ≡ taken (of_kind kind r) o
  taken_by kind e = ap (λ (k : ℕ). taken (of_kind k r) o) e

  pub taken_scheduled : r.kind ≡ kind_scheduled
      → taken r o ≡ (has_status in_review o || has_status permit_pending o || has_status cancel_pending o)
  unfolding taken
  taken_scheduled e = taken_by kind_scheduled e ∙ simp or-false refl

  pub taken_permit : r.kind ≡ kind_permit → taken r o ≡ (has_kind move_in o && has_status in_review o)
  unfolding taken
  taken_permit e = taken_by kind_permit e ∙ simp or-false refl

  pub taken_unexecutable : r.kind ≡ kind_unexecutable → taken r o ≡ is_open o
  unfolding taken
  taken_unexecutable e = taken_by kind_unexecutable e ∙ simp or-false refl

  pub taken_read : r.kind ≡ kind_read → taken r o ≡ (has_status scheduled o || has_status permit_pending o)
  unfolding taken
  taken_read e = taken_by kind_read e ∙ simp or-false refl

  pub taken_cancel : r.kind ≡ kind_cancel → taken r o ≡ (has_status in_review o || has_status permit_pending o || has_status scheduled o)
  unfolding taken
  taken_cancel e = taken_by kind_cancel e ∙ simp or-false refl

  pub taken_reply : r.kind ≡ kind_reply → taken r o ≡ has_status cancel_pending o
  unfolding taken
  taken_reply e = taken_by kind_reply e ∙ simp or-false refl

  pub taken_date_change : r.kind ≡ kind_date_change
      → taken r o ≡ ((has_kind move_in o || has_kind move_out o) && (has_status in_review o || has_status scheduled o))
  unfolding taken
  taken_date_change e = taken_by kind_date_change e ∙ simp and_assoc refl

  pub taken_none : (r.kind ≡ kind_scheduled → ⊥) → (r.kind ≡ kind_permit → ⊥) → (r.kind ≡ kind_unexecutable → ⊥) → (r.kind ≡ kind_read → ⊥)
      → (r.kind ≡ kind_cancel → ⊥) → (r.kind ≡ kind_reply → ⊥) → (r.kind ≡ kind_date_change → ⊥)
      → taken r o ≡ false
  unfolding taken
  taken_none s p u m c a d =
      simp (
        ne_eqb r.kind kind_scheduled s,
        ne_eqb r.kind kind_permit p,
        ne_eqb r.kind kind_unexecutable u,
        ne_eqb r.kind kind_read
            m,
        ne_eqb r.kind kind_cancel c,
        ne_eqb r.kind kind_reply a,
        ne_eqb r.kind kind_date_change d,
      )

-- ---- whatever the kind, only an open order is taken
pub status_open : (status : ℕ) (o : Order) → (leb in_review status && leb status cancel_pending) ≡ true → has_status status o ≡ true
    → is_open o ≡ true
status_open status o h e = ap (λ (s : ℕ). leb in_review s && leb s cancel_pending) (eqb-true o.status status e) ∙ h

module _ (r : Record) (o : Order) where
  abbrev reviewed_or : ℕ → Bool
  reviewed_or status = has_status in_review o || has_status permit_pending o || has_status status o

  reviewed_or_lem : (status : ℕ) → (leb in_review status && leb status cancel_pending) ≡ true → reviewed_or status ≡ true → is_open o ≡ true
  reviewed_or_lem status h e =
      or_either (has_status in_review o || has_status permit_pending o) (has_status status o) e
      (λ e. or_either (has_status in_review o) (has_status permit_pending o) e (status_open in_review o refl) (status_open permit_pending o refl))
      (status_open status o h)

  pub taken_open : taken r o ≡ true → is_open o ≡ true
  unfolding taken
  taken_open t =
      let a : Bool = is kind_scheduled r && reviewed_or cancel_pending in
      let b : Bool = is kind_permit r && has_kind move_in o && has_status in_review o in
      let c : Bool = is kind_unexecutable r && is_open o in
      let d : Bool = is kind_read r && (has_status scheduled o || has_status permit_pending o) in
      let e : Bool = is kind_cancel r && reviewed_or scheduled in
      let g : Bool = is kind_reply r && has_status cancel_pending o in
      let date : Bool = is kind_date_change r && (has_kind move_in o || has_kind move_out o) in
      or_either (a || b || c || d || e || g) (date && (has_status in_review o || has_status scheduled o)) t
      (λ t. or_either (a || b || c || d || e) g t
      (λ t. or_either (a || b || c || d) e t
      (λ t. or_either (a || b || c) d t
      (λ t. or_either (a || b) c t
      (λ t. or_either a b t
      (λ t. reviewed_or_lem cancel_pending refl (and_right (is kind_scheduled r) (reviewed_or cancel_pending) t))
      (λ t. status_open in_review o refl (and_right (is kind_permit r && has_kind move_in o) (has_status in_review o) t)))
      (λ t. and_right (is kind_unexecutable r) (is_open o) t))
      (λ t. or_either (has_status scheduled o) (has_status permit_pending o)
      (and_right (is kind_read r) (has_status scheduled o || has_status permit_pending o) t)
      (status_open scheduled o refl) (status_open permit_pending o refl)))
      (λ t. reviewed_or_lem scheduled refl (and_right (is kind_cancel r) (reviewed_or scheduled) t)))
      (λ t. status_open cancel_pending o refl (and_right (is kind_reply r) (has_status cancel_pending o) t)))
      (λ t. or_either (has_status in_review o) (has_status scheduled o)
      (and_right date (has_status in_review o || has_status scheduled o) t)
      (status_open in_review o refl) (status_open scheduled o refl))
