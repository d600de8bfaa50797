-- Demand 1: from the record call's promise, the answer is the first row's, 0 where none holds, and a refusal changes nothing. Assumes
-- nothing.
use mathlib.Core.Path.{ap, ◌∙◌}
use Rattle.premise.specs.Refusals.{number}
use Rattle.book.specs.Calls.{Result}
use Rattle.demands.specs.Demand1.{FirstRowAnswers, RefusalChangesNothing, ZeroWhereNoRow}
use Rattle.book.proofs.Rows.{call_exact}
use Rattle.book.proofs.CallAnswer.{call_answer, call_refused}

pub first_row_answers : FirstRowAnswers
first_row_answers calendar b bytes before r after p = p.answer ∙ call_answer calendar b bytes before

pub refusal_changes_nothing : RefusalChangesNothing
refusal_changes_nothing calendar b bytes before r after p n =
    let e = call_refused calendar b bytes before (λ z. n (ap number (first_row_answers calendar b bytes before r after p) ∙ z)) in
    record {
      book = p.book ∙ ap (λ (x : Result). x.book) e;
      bytes = rw e at p.notices.bytes;
      none = rw e at p.notices.count;
    }

pub zero_where_no_row : ZeroWhereNoRow
zero_where_no_row calendar b bytes before r after p =
    rw (first_row_answers calendar b bytes before r after p) (call_exact calendar b bytes before)
