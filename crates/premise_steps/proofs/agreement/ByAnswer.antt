-- What an agreement gives: row 18, or acceptance. Assumes nothing.
use Prim.Native.Nat.{ℕ}
use mathlib.Core.Path.{◌≡◌, refl, ◌∙◌}
use mathlib.Core.List.{List}
use Rattle.std.specs.Prelude.{Some}
use mathlib.Core.Bool.{true, false}
use Rattle.records.specs.declared.Record.{Record}
use Rattle.records.specs.Records.{kind_agreement}
use Rattle.premise.specs.declared.File.{File}
use Rattle.std.specs.Prelude.{Ok, Err}
use Rattle.premise.specs.declared.Refusal.TheVariants.{OtherAgreement}
use Rattle.premise.specs.Steps.{agreed}
use Rattle.premise.specs.Refusals.{number}
use Rattle.premise.specs.OnePremise.{refused, leaving, step}
use Rattle.premise_rows.specs.AgreementRows.{deletes_another}
use Rattle.premise_rows.proofs.AgreementAnswers.{agreement_answer}
use Rattle.premise_steps.proofs.Decided.{on, refused_by, accepted_by}

module _ (calendar : List ℕ) (today : ℕ) (f : File) (r : Record) (e : r.kind ≡ kind_agreement) where
  pub agreement_refused : deletes_another f.agreement r ≡ true
      → step calendar (on today (Some f)) r ≡ refused (Err OtherAgreement) (on today (Some f))
  unfolding number
  agreement_refused h = refused_by calendar today (Some f) r (Err OtherAgreement) (agreement_answer calendar today f r e ∙ rw h) refl

  pub agreement_done : deletes_another f.agreement r ≡ false → step calendar (on today (Some f)) r ≡ leaving today (agreed f r)
  unfolding number
  agreement_done h = accepted_by calendar today (Some f) r (Ok tt) (agreement_answer calendar today f r e ∙ rw h) refl ∙ rw e
