-- std's chunks of a tape are its records.
use Rattle.std.proofs.Common.{sym, ap, ◌∙◌, length, ◌/◌, arith, rules, ◌<◌}
use borrow.Author.Tests.{tests}
use Rattle.std.proofs.lemmas.Iterator.Search.{any_from_yields_List}
use Rattle.lists.specs.Search.{any_of}
use Rattle.lists.proofs.Chunks.{any_word, pieces_of, YieldsList-from_chunks_exact}
use Rattle.first_fittings_rules.proofs.Tapes.{cut_chunks}
use Rattle.first_fittings.proofs.any_barred.Goals as goal

pub returns : goal.returns
returns g c =
    let way = g.D.Direction.way in
    let laws = g.met.D.Direction in
    let tape = c.args.input.now in
    let size = way.size in
    let some : 0 < size = omega (arith, laws.takes, laws.some_taken) in
    let road =
    YieldsList-from_chunks_exact size some c.chunks_exact.result (c.chunks_exact.ensures.size ∙ c.FROM.ensures ∙ sym laws.takes) in
    any_from_yields_List way.barred _ _ _ c.any.ensures.ran road (λ x b q k. search (rules, tests))
    ∙ any_word way.barred _
    ∙ ap (λ l. any_of way.barred (pieces_of size l)) c.chunks_exact.ensures.rest
    ∙ ap (any_of way.barred) (cut_chunks size (length tape / size) tape)
