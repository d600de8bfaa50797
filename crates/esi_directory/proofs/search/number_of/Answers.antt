-- The number of a refusal is that of its variant, and 0 stands for a premise number found.
use Rattle.std.proofs.Common.{◌≡◌, refl, ap, sym, ◌∙◌, ◌+◌, Err}
use denote.Enum.Declared.{tag_of}
use Rattle.esi_rules.specs.contracts.Refusal as refusals
use Rattle.esi_rules.specs.declared.Refusal.{Refusal}
use Rattle.esi_rules.specs.declared.Refusal.TheVariants.{DirectoryUnsound, TextMalformed, NoRecord}
use Rattle.esi_rules.specs.LookUp.{number}
use Rattle.esi_directory.proofs.search.number_of.Goals as goal

pub returns-in-Ok : goal.returns-in-Ok
unfolding number
returns-in-Ok c = sym (ap number c.in-Ok.is)

numbered : (refusal : Refusal) → tag_of refusals.the_type refusal + 20 ≡ number (Err refusal)
unfolding number
numbered DirectoryUnsound = refl
numbered TextMalformed = refl
numbered NoRecord = refl

pub returns-in-Err : goal.returns-in-Err
returns-in-Err c = numbered c.in-Err.refusal ∙ sym (ap number c.in-Err.is)
