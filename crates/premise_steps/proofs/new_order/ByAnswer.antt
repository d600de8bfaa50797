-- What a new order gives, by the answer that was found for it: rows 8 to 11, 26 and 12, or acceptance. Assumes nothing.
use Prim.Native.Nat.{ℕ}
use mathlib.Core.Path.{◌≡◌, refl, sym, ap, ◌∙◌}
use mathlib.Core.List.{List}
use Rattle.std.specs.Prelude.{Ok, Err, Some}
use mathlib.Core.Bool.{false}
use lib.Dec.{eqb}
use Rattle.lists.specs.Search.{count_of}
use Rattle.records.specs.declared.Record.{Record}
use Rattle.records.specs.Records.{kind_new_order}
use Rattle.premise.specs.declared.File.{File}
use Rattle.premise.specs.declared.Refusal.{Refusal}
use Rattle.premise.specs.Orders.{most_orders, is_open, held}
use Rattle.premise.specs.Steps.{requested_day, ordered}
use Rattle.premise.specs.Evaluation.{evaluated}
use Rattle.premise.specs.Refusals.{Answer, number}
use Rattle.premise.specs.OnePremise.{followed, refused, leaving, step, stepped_with}
use Rattle.premise_steps.proofs.Refusing.{refuses}
use Rattle.premise_steps.proofs.Decided.{on, refused_by, accepted_by}
use Rattle.premise_rows.specs.NewOrderRows.{order_answer}
use Rattle.premise_rows.proofs.NewOrderAnswers.{accepted_free, order_answer_lem}

module _ (calendar : List ℕ) (today : ℕ) (f : File) (r : Record) (e : r.kind ≡ kind_new_order) (requested : ℕ)
    (q : requested ≡ requested_day calendar today r) where
  pub order_refused : (why : Refusal) → Err why ≡ order_answer today (held f) r requested
      → step calendar (on today (Some f)) r ≡ refused (Err why) (on today (Some f))
  order_refused why a =
      refused_by calendar today (Some f) r (Err why) (order_answer_lem calendar today f r e requested q ∙ sym a) (refuses why)

  module _ (a : Ok tt ≡ order_answer today (held f) r requested) where
    pub order_done : step calendar (on today (Some f)) r ≡ leaving today (followed (ordered calendar today f r) (evaluated calendar today))
    unfolding stepped_with number
    order_done = accepted_by calendar today (Some f) r (Ok tt) (order_answer_lem calendar today f r e requested q ∙ sym a) refl ∙ rw e

    pub order_free : eqb (count_of is_open (held f)) most_orders ≡ false
    unfolding number
    order_free = accepted_free today (held f) r requested (ap (λ (x : Answer). eqb (number x) 0) (sym a))
