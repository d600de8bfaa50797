-- The bytes behind the fields are those from byte 20 on.
use Rattle.std.proofs.Common.{ℕ, ap, ◌∙◌, ◌-◌, rules, tests, drop, take, length, length-drop, eqb, arith}
use Rattle.std.specs.Prelude.{not}
use lib.Seq.{take_all}
use Rattle.lists.specs.Search.{any_of}
use Rattle.std.proofs.lemmas.Iterator.{YieldsList-from_slice}
use Rattle.std.proofs.lemmas.Iterator.Search.{any_from_yields_List}
use Rattle.lists.proofs.Chunks.{any_word}
use Rattle.first_fittings.proofs.ToOldDirection.is_barred.Goals as goal

pub returns : goal.returns
returns c =
    let bytes = c.args.bytes.now in
    let behind = take (length bytes - 20) (drop 20 bytes) in
    any_from_yields_List (λ (byte : ℕ). not (eqb byte 0)) _ _ _ c.any.ensures.ran (YieldsList-from_slice behind c.iter.ensures.rest)
    (λ x b q k. search (rules, tests))
    ∙ any_word (λ (byte : ℕ). not (eqb byte 0)) behind
    ∙ ap (any_of (λ (byte : ℕ). not (eqb byte 0))) (take_all (length bytes - 20) (drop 20 bytes) (omega (arith, length-drop 20 bytes)))
