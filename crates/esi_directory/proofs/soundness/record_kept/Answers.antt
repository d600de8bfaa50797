-- Count, halves, P and the last four bytes, one after another.
use Rattle.std.proofs.Common.{sym, ap, ◌∙◌, take, not, eqb, eq-eqb}
use Rattle.esi_rules.specs.Directory.{id_width, is_count, halves_kept}
use Rattle.esi_rules.proofs.Keeping.{record_count, record_halves, record_premise, record_rest}
use Rattle.esi_rules.proofs.KeyLaws.{count_byte}
use Rattle.esi_directory.proofs.soundness.record_kept.Goals as goal

pub returns-then-not-is_count : goal.returns-then-not-is_count
returns-then-not-is_count c =
    let row = c.args.bytes.now in
    let many = count_byte row c.told-bytes in
    sym (record_count row (ap is_count many ∙ sym c.is_count.ensures ∙ c.if-not-is_count.true))

pub returns-then-not-halves_kept : goal.returns-then-not-halves_kept
returns-then-not-halves_kept c =
    let row = c.args.bytes.now in
    let many = count_byte row c.told-bytes in
    sym (record_halves row (ap (λ n. halves_kept n (take id_width row)) many ∙ sym c.halves_kept.ensures ∙ c.if-not-halves_kept.true))

pub returns-then-premise_of-ne0 : goal.returns-then-premise_of-ne0
returns-then-premise_of-ne0 c =
    let row = c.args.bytes.now in
    let many = count_byte row c.told-bytes in
    ap (λ n. eqb n 0) c.zeros_of.ensures
    ∙ sym (record_rest row (ap is_count many ∙ sym c.is_count.ensures ∙ c.if-not-is_count.false)
    (ap (λ n. halves_kept n (take id_width row)) many ∙ sym c.halves_kept.ensures ∙ c.if-not-halves_kept.false)
    (λ e. c.if-premise_of-ne0.true (c.premise_of.ensures ∙ e)))

pub returns-else-premise_of-ne0 : goal.returns-else-premise_of-ne0
returns-else-premise_of-ne0 c =
    let row = c.args.bytes.now in
    ap not (eq-eqb c.premise_of.result 0 c.if-premise_of-ne0.false)
    ∙ sym (record_premise row (sym c.premise_of.ensures ∙ c.if-premise_of-ne0.false))
