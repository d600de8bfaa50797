-- `are_sound` meets its contract: std's test of all rows is ours.
use borrow.Author.Rules.{rules}
use Rattle.lists.proofs.Chains.{all_is}
use Rattle.sheet_rules.specs.Sheet.{is_sound}
use Rattle.sheet_rules.specs.Theorems.{spare}
use Rattle.sheet_calls.proofs.answers.are_sound.Goals as goal

pub returns : goal.returns
returns c = all_is is_sound c.args.rows.now spare c.all.result (search rules) (search rules)
