-- The directory is tested first.
use Rattle.std.proofs.Common.{sym, ◌∙◌}
use Rattle.esi_rules.proofs.Answers.{look_unsound}
use Rattle.esi_directory.proofs.search.look_up.Goals as goal

pub returns-then-not-is_sound : goal.returns-then-not-is_sound
returns-then-not-is_sound c = sym (look_unsound c.args.directory.now c.args.text.now (sym c.is_sound.ensures ∙ c.if-not-is_sound.true))
