-- `tape_agreement::places::same_record` meets its contract: three numbers of eight bytes decide.
use mathlib.Core.Path.{sym, ap₂, ◌∙◌}
use native.Mathlib.Omega.{arith}
use lib.Dec.{eqb}
use Rattle.records.proofs.Fields.{bytes_each}
use Rattle.tape_agreement.proofs.Parts.{starts_apart, parts_apart, parts_decide}
use Rattle.tape_agreement.proofs.places.same_record.Goals as goal

pub returns-then-eight : goal.returns-then-eight
returns-then-eight c =
    let a = c.args in
    sym (starts_apart a.ours.now a.here a.theirs.now a.there (omega arith) (omega arith)
    (λ e. c.if-eight.true (c.eight.ensures ∙ e ∙ sym c.eight-2.ensures)))

pub returns-then-eight-2 : goal.returns-then-eight-2
returns-then-eight-2 c =
    let a = c.args in
    sym (parts_apart a.ours.now a.here a.theirs.now a.there (omega arith) (omega arith) 8 (omega arith)
    (λ e. c.if-eight-2.true (c.eight-3.ensures ∙ e ∙ sym c.eight-4.ensures)))

pub returns : goal.returns
returns c =
    let a = c.args in
    ap₂ eqb c.eight-5.ensures c.eight-6.ensures
    ∙ sym (parts_decide a.ours.now a.here a.theirs.now a.there (omega arith) (omega arith)
    (bytes_each a.ours.now (λ i. omega (arith, c.shared_slice_known-1.given i)))
    (bytes_each a.theirs.now (λ i. omega (arith, c.shared_slice_known-2-1.given i)))
    (sym c.eight.ensures ∙ c.if-eight.false ∙ c.eight-2.ensures)
    (sym c.eight-3.ensures ∙ c.if-eight-2.false ∙ c.eight-4.ensures))
