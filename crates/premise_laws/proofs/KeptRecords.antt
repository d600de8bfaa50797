-- What an accepted record says: the fields that its kind gives it, if it is well formed, and that no row of the table of refusals held.
-- Assumes nothing.
use Prim.Native.Nat.{ℕ, ◌+◌}
use mathlib.Core.Path.{◌≡◌, refl, sym, ap₂, ◌∙◌}
use mathlib.Core.List.{List, [], ◌∷◌}
use Rattle.std.specs.Prelude.{Option, None}
use mathlib.Core.Bool.{Bool, true, false, cond, not, ◌&&◌, ◌||◌, false≢true}
use lib.Dec.{eqb, leb}
use native.Mathlib.Omega.{arith}
use borrow.Author.Tests.{eqb-true, eqb-false, le-leb}
use Rattle.lists.specs.Search.{any_of, count_of, Each}
use Rattle.lists.proofs.TestLaws.{by_test, pass_each}
use Rattle.days.specs.Days.{no_day, is_day, is_business_day, switch_date}
use Rattle.days.specs.Window.{window_width, most_width}
use Rattle.records.specs.declared.Record.{Record}
use Rattle.records.specs.Records.{kind_create, kind_retire, kind_new_order, kind_scheduled, kind_read, kind_cancel, kind_day_mark, kind_date_change}
use Rattle.records.specs.Records.{standard_switch, a_reference, a_premise, a_retailer, a_retailer_or_none, a_counter, an_order_kind, order_day}
use Rattle.records.specs.Records.{kind_agreement, delete, an_agreement, a_window, unused, well_formed}
use Rattle.records.proofs.ByKind.{formed_at}
use Rattle.premise.specs.declared.File.{File}
use Rattle.premise.specs.Orders.{most_orders, most_of_one, is_open, open_of, kept_width}
use Rattle.premise.specs.Clock.{most_waited}
use Rattle.premise.specs.Steps.{is, width_for, requested_day, wait_begun, named, order_at, taken}
use Rattle.premise.specs.FirstIn.{not_first_in}
use Rattle.premise.specs.Refusals.{Row, number, first_row, premise_rows, order_rows, rows, is_held, orders_of, is_nothing, needs_premise}
use Rattle.premise.specs.Refusals.{names_order, agreement_of, width_in, limited, out_of_range, not_above, too_late}

-- a wait that begins is within the count
pub wait_few : (calendar : List ℕ) (today : ℕ) → leb (wait_begun calendar today) most_waited ≡ true
wait_few calendar today = by_test (λ (days : ℕ). leb days most_waited ≡ true) (is_business_day calendar today) 1 0 (λ q. refl) (λ q. refl)

-- the width that a create's detail stands for is from 1 to 5
pub width_kept : (detail : ℕ) → a_window detail ≡ true → (leb 1 (width_for detail) && leb (width_for detail) most_width) ≡ true
width_kept detail h = go (eqb detail 0) refl
  where
    go : (None : Bool) → eqb detail 0 ≡ None → (leb 1 (cond None window_width detail) && leb (cond None window_width detail) most_width) ≡ true
    go true e = refl
    go false e = ap₂ (λ (a b : Bool). a && b) (le-leb 1 detail (omega (arith, eqb-false detail 0 e))) h

-- ---- a well-formed record of a kind
-- what its fields hold, each by its test
pub record Fits (details days references premises retailers : ℕ → Bool) (r : Record) : Type 0 where
  pub detail : details r.detail ≡ true
  pub day : days r.day ≡ true
  pub reference : references r.reference ≡ true
  pub premise : premises r.premise ≡ true
  pub retailer : retailers r.retailer ≡ true

fields : (details days references premises retailers : ℕ → Bool) (r : Record)
    → (details r.detail && days r.day && references r.reference && premises r.premise && retailers r.retailer) ≡ true
    → Fits details days references premises retailers r
fields details days references premises retailers r h =
    let k = pass_each (details r.detail)
    (days r.day ∷ references r.reference ∷ premises r.premise ∷ retailers r.retailer ∷ []) h in
    record { detail = k.0; day = k.1.0; reference = k.1.1.0; premise = k.1.1.1.0; retailer = k.1.1.1.1.0 }

module _ (r : Record) (w : well_formed r ≡ true) where
  pub create_fits : is kind_create r ≡ true → Fits a_window is_day unused a_premise a_retailer_or_none r
  create_fits e = fields a_window is_day unused a_premise a_retailer_or_none r
      (sym (formed_at kind_create r (eqb-true r.kind kind_create e)) ∙ w)

  pub order_fits : is kind_new_order r ≡ true → Fits an_order_kind (order_day r.detail) a_reference a_premise a_retailer r
  order_fits e = fields an_order_kind (order_day r.detail) a_reference a_premise a_retailer r
      (sym (formed_at kind_new_order r (eqb-true r.kind kind_new_order e)) ∙ w)

  pub scheduled_fits : is kind_scheduled r ≡ true → Fits unused is_day a_reference a_premise unused r
  scheduled_fits e = fields unused is_day a_reference a_premise unused r
      (sym (formed_at kind_scheduled r (eqb-true r.kind kind_scheduled e)) ∙ w)

  pub read_fits : is kind_read r ≡ true → Fits unused is_day a_reference a_premise unused r
  read_fits e = fields unused is_day a_reference a_premise unused r (sym (formed_at kind_read r (eqb-true r.kind kind_read e)) ∙ w)

  pub date_change_fits : is kind_date_change r ≡ true → Fits unused is_day a_reference a_premise a_counter r
  date_change_fits e = fields unused is_day a_reference a_premise a_counter r
      (sym (formed_at kind_date_change r (eqb-true r.kind kind_date_change e)) ∙ w)

  pub agreement_fits : is kind_agreement r ≡ true → Fits an_agreement unused unused a_premise a_retailer r
  agreement_fits e = fields an_agreement unused unused a_premise a_retailer r
      (sym (formed_at kind_agreement r (eqb-true r.kind kind_agreement e)) ∙ w)

-- ---- no row held
abbrev Refuses : Row → Type 0
Refuses row = eqb (number row.answer) 0 ≡ false

abbrev Fails : Row → Type 0
Fails row = row.when ≡ false

none_held : (rs : List Row) → Each Refuses rs → eqb (number (first_row rs)) 0 ≡ true → Each Fails rs
none_held [] n h = tt
none_held (row ∷ rs) n h = go row.when refl h (none_held rs n.1)
  where
    go : (b : Bool) → row.when ≡ b → eqb (number (cond b row.answer (first_row rs))) 0 ≡ true
        → (eqb (number (first_row rs)) 0 ≡ true → Each Fails rs) → Each Fails (row ∷ rs)
    go true e k ih = absurd (false≢true (sym n.0 ∙ k))
    go false e k ih = (e, ih k)

-- the rows of the one-premise rules, by what each says
pub record NoRow (calendar : List ℕ) (today : ℕ) (file : Option File) (r : Record) : Type 0 where
  pub no_such_premise : (needs_premise r && not (is_held file)) ≡ false
  pub other_agreement : (is kind_agreement r && eqb r.detail delete && not (eqb r.retailer (agreement_of file))) ≡ false
  pub premise_held : (is kind_create r && is_held file) ≡ false
  pub order_open : (is kind_retire r && any_of is_open (orders_of file)) ≡ false
  pub reference_held : (is kind_new_order r && not (is_nothing (named r (orders_of file)))) ≡ false
  pub day_out_of_range : (is kind_new_order r && limited r.detail && out_of_range today (requested_day calendar today r)) ≡ false
  pub no_switch_date : (is kind_new_order r && eqb r.detail standard_switch && eqb (switch_date calendar today) no_day) ≡ false
  pub not_first : (is kind_new_order r && not_first_in r.detail (requested_day calendar today r) (orders_of file)) ≡ false
  pub share_full : (is kind_new_order r && leb most_of_one (open_of r.retailer (orders_of file))) ≡ false
  pub stack_full : (is kind_new_order r && eqb (count_of is_open (orders_of file)) most_orders) ≡ false
  pub no_such_order : (names_order r
      && (is_nothing (named r (orders_of file)) || is kind_cancel r
      && not (eqb r.retailer (order_at (orders_of file) (named r (orders_of file))).submitter))) ≡ false
  pub status_not_taken : (names_order r && not (taken r (order_at (orders_of file) (named r (orders_of file))))) ≡ false
  pub counter_not_above : not_above r (order_at (orders_of file) (named r (orders_of file))) ≡ false
  pub in_window : too_late (width_in kept_width file) calendar today r (order_at (orders_of file) (named r (orders_of file))) ≡ false
  pub not_next_day : (is kind_day_mark r && not (eqb r.day (today + 1))) ≡ false

pub no_row : (calendar : List ℕ) (today : ℕ) (file : Option File) (r : Record)
    → eqb (number (first_row (rows calendar today file r))) 0 ≡ true → NoRow calendar today file r
unfolding premise_rows order_rows number
no_row calendar today file r h =
    let k = none_held (rows calendar today file r)
    (refl, (refl, (refl, (refl, (refl, (refl, (refl, (refl, (refl, (refl, (refl, (refl, (refl, (refl, (refl, tt))))))))))))))) h in
    record {
      no_such_premise = k.0;
      other_agreement = k.1.0;
      premise_held = k.1.1.0;
      order_open = k.1.1.1.0;
      reference_held = k.1.1.1.1.0;
      day_out_of_range = k.1.1.1.1.1.0;
      no_switch_date = k.1.1.1.1.1.1.0;
      not_first = k.1.1.1.1.1.1.1.0;
      share_full = k.1.1.1.1.1.1.1.1.0;
      stack_full = k.1.1.1.1.1.1.1.1.1.0;
      no_such_order = k.1.1.1.1.1.1.1.1.1.1.0;
      status_not_taken = k.1.1.1.1.1.1.1.1.1.1.1.0;
      counter_not_above = k.1.1.1.1.1.1.1.1.1.1.1.1.0;
      in_window = k.1.1.1.1.1.1.1.1.1.1.1.1.1.0;
      not_next_day = k.1.1.1.1.1.1.1.1.1.1.1.1.1.1.0;
    }
