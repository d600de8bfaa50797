-- The answer to a record that names an order, by the tests that were made: one law for each row. Assumes nothing.
use Prim.Native.Nat.{ℕ}
use mathlib.Core.Path.{◌≡◌, refl, ap, ◌∙◌}
use mathlib.Core.List.{List, [], ◌∷◌}
use Rattle.std.specs.Prelude.{Some, None}
use mathlib.Core.Bool.{Bool, true, false, not, ◌||◌, and-false}
use lib.ListN.{get_or}
use Rattle.days.specs.Window.{in_window, up_to, LastInWindow}
use Rattle.days.proofs.LastInWindow.{window_is_up_to}
use Rattle.records.specs.declared.Record.{Record}
use Rattle.records.specs.Records.{kind_create, kind_retire, kind_new_order, kind_day_mark, kind_agreement}
use Rattle.premise.specs.declared.Order.{Order}
use Rattle.premise.specs.declared.File.{File}
use Rattle.std.specs.Prelude.{Ok, Err}
use Rattle.premise.specs.declared.Refusal.TheVariants.{NoSuchOrder, StatusNotTaken, CounterNotAbove, OrderInWindow}
use Rattle.premise.specs.Orders.{blank, held}
use Rattle.premise.specs.Steps.{named, order_at, taken}
use Rattle.premise.specs.Refusals.{row, first_row, premise_rows, order_rows, rows, is_nothing, names_order, not_above}
use Rattle.premise.proofs.KindsOf.{names_other}
use Rattle.premise_rows.specs.NamedRows.{is_foreign, is_too_late, named_answer}

-- ---- row by row; o is the order as the code read it
module _ (near : ℕ → Bool) (r : Record) (o p : Order) (same : o ≡ p) where
  pub answer_foreign : is_foreign r o ≡ true → Err NoSuchOrder ≡ named_answer near r p
  unfolding named_answer
  answer_foreign h = rw (← same, h)

  module _ (own : is_foreign r o ≡ false) where
    pub answer_untaken : taken r o ≡ false → Err StatusNotTaken ≡ named_answer near r p
    unfolding named_answer
    answer_untaken h = rw (← same, own, h)

    module _ (took : taken r o ≡ true) where
      pub answer_not_above : not_above r o ≡ true → Err CounterNotAbove ≡ named_answer near r p
      unfolding named_answer
      answer_not_above h = rw (← same, own, took, h)

      module _ (above : not_above r o ≡ false) where
        pub answer_too_late : is_too_late near r o ≡ true → Err OrderInWindow ≡ named_answer near r p
        unfolding named_answer
        answer_too_late h = rw (← same, own, took, above, h)

        pub answer_accepted : is_too_late near r o ≡ false → Ok tt ≡ named_answer near r p
        unfolding named_answer
        answer_accepted h = rw (← same, own, took, above, h)

-- ---- these rows are those of the table
module _ (calendar : List ℕ) (today : ℕ) (f : File) (r : Record) (names : names_order r ≡ true) where
  rows_left : first_row (rows calendar today (Some f) r)
      ≡ first_row
      (row NoSuchOrder (is_nothing (named r (held f)) || is_foreign r (order_at (held f) (named r (held f))))
      ∷ row StatusNotTaken (not (taken r (order_at (held f) (named r (held f)))))
      ∷ row CounterNotAbove (not_above r (order_at (held f) (named r (held f))))
      ∷ row OrderInWindow (is_too_late (in_window calendar f.window today) r (order_at (held f) (named r (held f))))
      ∷ [])
  unfolding premise_rows order_rows
  rows_left =
      simp (
        names,
        and-false,
        names_other r kind_create refl names,
        names_other r kind_retire refl names,
        names_other r kind_new_order refl names,
        names_other r kind_day_mark refl names,
        names_other r kind_agreement refl names,
      )

  pub missing_answer : named r (held f) ≡ None → first_row (rows calendar today (Some f) r) ≡ Err NoSuchOrder
  missing_answer n = rows_left ∙ rw n

  pub named_answer_lem : (i : ℕ) → named r (held f) ≡ Some i → (last : ℕ) → LastInWindow calendar f.window today last
      → first_row (rows calendar today (Some f) r) ≡ named_answer (up_to last) r (get_or (held f) i blank)
  unfolding named_answer
  named_answer_lem i n last window =
      rows_left ∙ (rw n)
      ∙ ap (λ (near : ℕ → Bool). named_answer near r (get_or (held f) i blank)) (window_is_up_to calendar f.window today last window)
