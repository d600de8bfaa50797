-- In a directory that is not sound nothing is looked up.
use Rattle.std.proofs.Common.{sym, ◌∙◌}
use Rattle.esi_rules.proofs.Answers.{look_unsound}
use Rattle.esi.proofs.look_up_tested.Goals as goal

pub returns-then-not-sound : goal.returns-then-not-sound
returns-then-not-sound c = sym (look_unsound c.args.directory.now c.args.text.now (sym c.requires ∙ c.if-not-sound.true))
