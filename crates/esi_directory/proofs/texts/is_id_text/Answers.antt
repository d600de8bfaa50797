-- Its length is judged, then its bytes.
use Rattle.std.proofs.Common.{sym, ◌∙◌, rules}
use Rattle.lists.proofs.Chains.{all_is}
use Rattle.esi_rules.specs.LookUp.{is_ascii_digit}
use Rattle.esi_rules.proofs.TextLaws.{id_text_count, id_text_rest}
use Rattle.esi_directory.proofs.texts.is_id_text.Goals as goal

pub returns-then-is_count : goal.returns-then-is_count
returns-then-is_count c =
    all_is is_ascii_digit c.args.text.now 0 _ (search rules) (search rules)
    ∙ sym (id_text_rest c.args.text.now (sym c.is_count.ensures ∙ c.if-is_count.true))

pub returns-else-is_count : goal.returns-else-is_count
returns-else-is_count c = c.if-is_count.false ∙ sym (id_text_count c.args.text.now (sym c.is_count.ensures ∙ c.if-is_count.false))
