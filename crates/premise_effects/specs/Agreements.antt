-- The part of an agreement's steps that a function of its own does.
use Rattle.std.specs.Prelude.{ℕ, List, [], ◌∷◌, cond, not, ◌&&◌, eqb}
use Rattle.records.specs.declared.Notice.{Notice}
use Rattle.premise.specs.Orders.{no_retailer}
use Rattle.premise.specs.Passes.{code_agreement_request, notice_of_no_order}

-- A different earlier holder gets notice 10.
abbrev pub to_earlier_holder : ℕ → ℕ → ℕ → List Notice
to_earlier_holder premise agreement named =
    cond (not (eqb agreement no_retailer) && not (eqb agreement named)) (notice_of_no_order code_agreement_request premise agreement ∷ []) []
