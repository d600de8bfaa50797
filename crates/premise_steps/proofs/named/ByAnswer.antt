-- What a record that names an order gives, by the answer that was found for it: rows 13, 14, 16 and 17, or acceptance. Assumes nothing.
use Prim.Native.Nat.{ℕ}
use mathlib.Core.Path.{◌≡◌, refl, sym, ◌∙◌}
use mathlib.Core.List.{List}
use Rattle.std.specs.Prelude.{Some, None}
use mathlib.Core.Bool.{true}
use lib.ListN.{get_or}
use Rattle.days.specs.Window.{up_to, LastInWindow}
use Rattle.records.specs.declared.Record.{Record}
use Rattle.records.specs.Records.{kind_retire, kind_new_order, kind_day_mark, kind_agreement}
use Rattle.premise.specs.declared.File.{File}
use Rattle.std.specs.Prelude.{Ok, Err}
use Rattle.premise.specs.declared.Refusal.{Refusal}
use Rattle.premise.specs.declared.Refusal.TheVariants.{NoSuchOrder}
use Rattle.premise.specs.Orders.{blank, held}
use Rattle.premise.specs.Steps.{named, changed}
use Rattle.premise.specs.Evaluation.{evaluated}
use Rattle.premise.specs.Refusals.{number, names_order}
use Rattle.premise.specs.OnePremise.{followed, refused, leaving, step, stepped_with}
use Rattle.premise_steps.proofs.Refusing.{refuses}
use Rattle.premise_steps.proofs.Decided.{on, refused_by, accepted_by}
use Rattle.premise.proofs.KindsOf.{names_other}
use Rattle.premise_rows.specs.NamedRows.{named_answer}
use Rattle.premise_rows.proofs.NamedAnswers.{missing_answer, named_answer_lem}

module _ (calendar : List ℕ) (today : ℕ) (f : File) (r : Record) (names : names_order r ≡ true) where
  pub named_missing : named r (held f) ≡ None → step calendar (on today (Some f)) r ≡ refused (Err NoSuchOrder) (on today (Some f))
  unfolding number
  named_missing n = refused_by calendar today (Some f) r (Err NoSuchOrder) (missing_answer calendar today f r names n) refl

  module _ (i : ℕ) (n : named r (held f) ≡ Some i) (last : ℕ) (window : LastInWindow calendar f.window today last) where
    pub named_refused : (why : Refusal) → Err why ≡ named_answer (up_to last) r (get_or (held f) i blank)
        → step calendar (on today (Some f)) r ≡ refused (Err why) (on today (Some f))
    named_refused why a =
        refused_by calendar today (Some f) r (Err why) (named_answer_lem calendar today f r names i n last window ∙ sym a) (refuses why)

    pub named_done : Ok tt ≡ named_answer (up_to last) r (get_or (held f) i blank)
        → step calendar (on today (Some f)) r
        ≡ leaving today (followed (changed calendar today f r i (get_or (held f) i blank)) (evaluated calendar today))
    unfolding stepped_with number
    named_done a =
        accepted_by calendar today (Some f) r (Ok tt) (named_answer_lem calendar today f r names i n last window ∙ sym a) refl
        ∙ simp (
          names_other r kind_retire refl names,
          names_other r kind_new_order refl names,
          names_other r kind_day_mark refl names,
          names_other r kind_agreement refl names,
          n,
        )
