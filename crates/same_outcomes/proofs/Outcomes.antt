-- What calls returned that keep the promise is what comes of them by the rules. Assumes nothing.
use mathlib.Core.Path.{refl, ap, ap₂, ◌∙◌}
use mathlib.Core.List.{List, [], ◌∷◌}
use Rattle.premise.specs.Orders.{kept_width}
use Rattle.premise.specs.Refusals.{number}
use Rattle.book.specs.declared.Book.{Book}
use Rattle.same_outcomes.specs.Outcomes.{Outcome, outcomes_by, asked, PromisedIsOutcome, PlayedIsOutcomes}

pub promised_is_outcome : PromisedIsOutcome
promised_is_outcome layout calendar b bytes before r after p = λ i. record {
  answer = number (p.answer i);
  sent = p.notices.count i;
  book = p.book i;
  after = p.notices.bytes i;
}

pub played_is_outcomes : PlayedIsOutcomes
played_is_outcomes layout calendar b [] p = refl
played_is_outcomes layout calendar b (m ∷ ms) p =
    ap₂ (λ (x : Outcome) (xs : List Outcome). x ∷ xs)
    (promised_is_outcome layout calendar b m.bytes m.lent m.reply m.after p.0)
    (played_is_outcomes layout calendar m.reply.book ms p.1
    ∙ ap (λ (left : Book). outcomes_by layout kept_width calendar left (asked ms)) p.0.book)
