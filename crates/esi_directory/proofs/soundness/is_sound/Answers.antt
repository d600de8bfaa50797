-- The length, each record by itself, then all pairs.
use Rattle.std.proofs.Common.{sym, ap, ◌∙◌, ◌≡◌, ◌/◌, length, true, eq-eqb, eqb-true, arith}
use Rattle.std.proofs.lemmas.Bool.{false≢true}
use Rattle.records.proofs.Fields.{bytes_each}
use Rattle.esi_rules.specs.Distinct.{distinct}
use Rattle.esi_rules.specs.Keys.{clashes}
use Rattle.esi_rules.proofs.KeyLaws.{all_kept, either_twice}
use Rattle.esi_rules.specs.Directory.{records, record_kept}
use Rattle.lists.specs.Search.{all_of}
use Rattle.esi_rules.proofs.Rows.{chunked}
use Rattle.esi_rules.proofs.Keeping.{sound-length, sound_records, sound_rest}
use Rattle.esi_directory.proofs.soundness.is_sound.Goals as goal

pub returns-then-not-is_empty : goal.returns-then-not-is_empty
returns-then-not-is_empty c = sym (sound-length c.args.directory.now
    (λ e. false≢true (sym c.if-not-is_empty.true ∙ c.is_empty.ensures ∙ eq-eqb (length c.as_chunks.result.1.now) 0 (c.as_chunks.ensures.back_len ∙ e))))

pub returns-then-records_kept : goal.returns-then-records_kept
returns-then-records_kept c =
    let d = c.args.directory.now in
    let same : c.as_chunks.result.0.now ≡ records d = c.as_chunks.ensures.front ∙ chunked (length d / 24) d in
    let known = c.type_inv.directory in
    let each : all_of record_kept (records d) ≡ true = sym (ap (all_of record_kept) same) ∙ sym c.records_kept.ensures ∙ c.if-records_kept.true in
    let whole = sym c.as_chunks.ensures.back_len ∙ eqb-true (length c.as_chunks.result.1.now) 0 (sym c.is_empty.ensures ∙ c.if-not-is_empty.false) in
    c.none_twice.ensures
    ∙ ap (distinct clashes) same
    ∙ either_twice (records d) (all_kept d (bytes_each d (λ i. omega (arith, known i))) each)
    ∙ sym (sound_rest d whole each)

pub returns-else-records_kept : goal.returns-else-records_kept
returns-else-records_kept c =
    let d = c.args.directory.now in
    let same : c.as_chunks.result.0.now ≡ records d = c.as_chunks.ensures.front ∙ chunked (length d / 24) d in
    c.if-records_kept.false
    ∙ sym (sound_records d (sym (ap (all_of record_kept) same) ∙ sym c.records_kept.ensures ∙ c.if-records_kept.false))
