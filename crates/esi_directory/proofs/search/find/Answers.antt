-- The key of the text's digits is looked for.
use Rattle.std.proofs.Common.{sym, ap, ◌∙◌, arith}
use Rattle.records.proofs.Fields.{bytes_each}
use Rattle.esi_rules.specs.Keys.{key_of}
use Rattle.esi_rules.proofs.Answers.{look_malformed, by_key}
use Rattle.esi_directory.proofs.search.find.Goals as goal

pub returns-then-not-is_id_text : goal.returns-then-not-is_id_text
returns-then-not-is_id_text c =
    sym (look_malformed c.args.directory.now c.args.text.now c.requires (sym c.is_id_text.ensures ∙ c.if-not-is_id_text.true))

pub returns : goal.returns
returns c =
    let known = c.type_inv.directory in
    c.ok_or.ensures.value
    ∙ sym (by_key c.args.directory.now c.args.text.now (bytes_each c.args.directory.now (λ i. omega (arith, known i))) c.requires
    (sym c.is_id_text.ensures ∙ c.if-not-is_id_text.false) (c.key_of-key.ensures ∙ ap key_of c.packed_text.ensures)
    c.premise_of.result c.premise_of.ensures)
