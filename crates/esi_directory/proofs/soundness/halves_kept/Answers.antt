-- The bytes with their places, one after another.
use Rattle.std.proofs.Common.{ℕ, ◌∙◌, rules, tests}
use Rattle.std.proofs.lemmas.Iterator.{YieldsList-from_slice}
use Rattle.std.proofs.lemmas.Iterator.Consumers.{YieldsList-at, YieldsList-from_enumerate}
use Rattle.std.proofs.lemmas.Iterator.Search.{all_from_yields_List}
use Rattle.esi_rules.specs.Packed.{byte_kept}
use Rattle.esi_rules.proofs.Judging.{judged_chain, judged_all}
use Rattle.esi_directory.proofs.soundness.halves_kept.Goals as goal

pub returns : goal.returns
returns c =
    let bytes = c.args.bytes.now in
    let count = c.args.count in
    let road =
    YieldsList-from_enumerate (YieldsList-at c.enumerate.ensures.source (YieldsList-from_slice bytes c.iter.ensures.rest))
    c.enumerate.ensures.count in
    all_from_yields_List (λ (p : ℕ × ℕ). byte_kept count p.0 p.1) _ _ _ c.all.ensures.ran road (λ x b q k. search (rules, tests))
    ∙ judged_chain count 0 bytes
    ∙ judged_all count bytes
