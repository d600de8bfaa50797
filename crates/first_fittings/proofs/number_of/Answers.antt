-- The number of a refusal is that of its variant, and 0 stands for a conversion.
use Rattle.std.proofs.Common.{◌≡◌, refl, ap, sym, ◌∙◌, ◌+◌, Err}
use denote.Enum.Declared.{tag_of}
use Rattle.first_fittings_rules.specs.contracts.Refusal as refusals
use Rattle.first_fittings_rules.specs.declared.Refusal.{Refusal}
use Rattle.first_fittings_rules.specs.declared.Refusal.TheVariants.{NotWhole, ShortBuffer, LastBytesUsed}
use Rattle.first_fittings_rules.specs.Answers.{number}
use Rattle.first_fittings.proofs.number_of.Goals as goal

pub returns-in-Ok : goal.returns-in-Ok
unfolding number
returns-in-Ok c = sym (ap number c.in-Ok.is)

numbered : (refusal : Refusal) → tag_of refusals.the_type refusal + 23 ≡ number (Err refusal)
unfolding number
numbered NotWhole = refl
numbered ShortBuffer = refl
numbered LastBytesUsed = refl

pub returns-in-Err : goal.returns-in-Err
returns-in-Err c = numbered c.in-Err.refusal ∙ sym (ap number c.in-Err.is)
