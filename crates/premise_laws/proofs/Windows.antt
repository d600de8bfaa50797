-- The width of a file: no step sets it anew but a create, and the rules ask for it in the evaluation and in row 17 alone. Assumes nothing.
use Prim.Native.Nat.{ℕ}
use mathlib.Core.Path.{◌≡◌, refl, ap, ap₂, ◌∙◌}
use mathlib.Core.List.{List, [], ◌++◌}
use Rattle.std.specs.Prelude.{Option, Some, None}
use mathlib.Core.Bool.{cond, not, ◌&&◌}
use lib.Dec.{eqb, leb}
use Rattle.lists.proofs.TestLaws.{by_test}
use Rattle.days.specs.Window.{in_window}
use Rattle.records.specs.declared.Record.{Record}
use Rattle.records.specs.Records.{kind_create, kind_retire, kind_new_order, kind_read, kind_day_mark, kind_agreement, delete}
use Rattle.premise.specs.declared.Order.{Order}
use Rattle.premise.specs.declared.File.{File}
use Rattle.premise.specs.Orders.{scheduled, has_status, held, kept_width, always}
use Rattle.premise.specs.Passes.{Effect, on_file}
use Rattle.premise.specs.Clock.{clock}
use Rattle.premise.specs.Evaluation.{evaluated_by, evaluated_with}
use Rattle.premise.specs.Steps.{is, width_for, ordered, named, order_at, is_held_off, supplied, agreed, changed}
use Rattle.premise.specs.Refusals.{Row, number, first_row, order_rows, premise_rows, rows_with}
use Rattle.premise.specs.OnePremise.{Given, followed, at_place, record_done_with, effect_on_with, decide, leaving, accepted, marked_with}
use Rattle.premise.specs.OnePremise.{stepped_with, step_with}
use Rattle.premise_laws.specs.Laws.{Held}
use Rattle.premise_laws.specs.Windows.{OfWidth, StepLeavesWidth, CreateGivesWidth, MarkLeavesWidth, RowsOfWidth, StepOfWidth}
use Rattle.premise_laws.specs.Windows.{MarkOfWidth}

-- ---- what a record does to its file, before the evaluation
module _ (calendar : List ℕ) (today : ℕ) (f : File) (r : Record) where
  abbrev Leaves : Effect → Type 0
  Leaves e = OfWidth f.window e.file

  supplied_leaves : (o : Order) → OfWidth f.window (supplied f r o)
  unfolding supplied
  supplied_leaves o =
      by_test (OfWidth f.window) (is kind_read r && has_status scheduled o && leb f.since r.day && not (is_held_off f r o)) _ f
      (λ e. refl) (λ e. refl)

  named_leaves : (place : Option ℕ) → Leaves (at_place calendar today f r place)
  unfolding changed
  named_leaves (Some i) = supplied_leaves (order_at (held f) (Some i))
  named_leaves None = refl

  -- kinds 3 to 9 and 11
  abbrev done : Effect
  done = cond (is kind_new_order r) (ordered calendar today f r) (at_place calendar today f r (named r (held f)))

  done_leaves : Leaves done
  unfolding ordered
  done_leaves = by_test Leaves (is kind_new_order r) _ _ (λ e. refl) (λ e. named_leaves (named r (held f)))

  agreed_leaves : Leaves (agreed f r)
  unfolding agreed
  agreed_leaves = by_test Leaves (eqb r.detail delete) _ _ (λ e. refl) (λ e. refl)

  record_leaves : (width : File → ℕ) → Leaves (record_done_with width calendar today f r)
  unfolding stepped_with
  record_leaves width = by_test Leaves (is kind_agreement r) _ _ (λ e. agreed_leaves) (λ e. done_leaves)

-- ---- the width afterwards
abbrev Gives : ℕ → Given → Type 0
Gives n given = Held (OfWidth n) given.state.file

pub mark_leaves_width : MarkLeavesWidth
unfolding marked_with
mark_leaves_width width calendar today f = refl

pub step_leaves_width : StepLeavesWidth
unfolding step_with
step_leaves_width width calendar today f r =
    by_test (Gives f.window) (eqb (number (first_row (rows_with width calendar today (Some f) r))) 0) _ _
    (λ e. by_test (Gives f.window) (is kind_retire r) _ _ (λ t. tt)
    (λ t. by_test (Gives f.window) (is kind_day_mark r) _ _ (λ d. mark_leaves_width width calendar r.day f)
    (λ d. record_leaves calendar today f r width)))
    (λ e. refl)

pub create_gives_width : CreateGivesWidth
unfolding step_with
create_gives_width width calendar today r =
    by_test (Gives (width_for r.detail)) (eqb (number (first_row (rows_with width calendar today None r))) 0) _ _
    (λ e. by_test (Gives (width_for r.detail)) (is kind_create r) _ _ (λ c. refl) (λ c. tt))
    (λ e. tt)

-- ---- on files of one width
module _ (n : ℕ) (calendar : List ℕ) where
  evaluated_of : (today : ℕ) (f : File) → OfWidth n f → evaluated_with kept_width calendar today f ≡ evaluated_with (always n) calendar today f
  evaluated_of today f e = ap (λ (width : ℕ). evaluated_by (in_window calendar width today) today f) e

  -- something that leaves the width, and then the evaluation
  followed_of : (today : ℕ) (first : Effect) → OfWidth n first.file
      → followed first (evaluated_with kept_width calendar today) ≡ followed first (evaluated_with (always n) calendar today)
  followed_of today first e =
      ap (λ (next : Effect). record { file = next.file; notices = first.notices ++ next.notices }) (evaluated_of today first.file e)

pub mark_of_width : MarkOfWidth
unfolding marked_with
mark_of_width n calendar today f e = followed_of n calendar today (on_file f (clock calendar today f.premise (held f))) e

pub rows_of_width : RowsOfWidth
rows_of_width n calendar today None r h = refl
rows_of_width n calendar today (Some f) r h = ap (λ (width : ℕ). order_rows width calendar today (held f) r) h

effect_of : (n : ℕ) (calendar : List ℕ) (today : ℕ) (file : Option File) (r : Record) → Held (OfWidth n) file
    → effect_on_with kept_width calendar today file r ≡ effect_on_with (always n) calendar today file r
unfolding stepped_with
effect_of n calendar today None r h = refl
effect_of n calendar today (Some f) r h =
    ap₂ (λ (mark step : Effect). cond (is kind_retire r) (accepted [] (record { today = today; file = None }))
    (cond (is kind_day_mark r) (leaving r.day mark) (leaving today (cond (is kind_agreement r) (agreed f r) step))))
    (mark_of_width n calendar r.day f h)
    (followed_of n calendar today (done calendar today f r) (done_leaves calendar today f r ∙ h))

pub step_of_width : StepOfWidth
unfolding step_with
step_of_width n calendar s r h =
    ap₂ (λ (rows : List Row) (done : Given). decide (first_row (premise_rows s.file r ++ rows)) done s)
    (rows_of_width n calendar s.today s.file r h) (effect_of n calendar s.today s.file r h)
