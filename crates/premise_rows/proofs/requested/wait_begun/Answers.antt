-- `wait_begun` meets its contract: whether today is a business day picks the case of `wait_begun`.
use mathlib.Core.Path.{sym, ap, ◌∙◌}
use mathlib.Core.Bool.{Bool, cond}
use Rattle.premise.specs.Orders.{business_days}
use Rattle.premise_rows.proofs.requested.wait_begun.Goals as goal

pub returns-then-is_business_day : goal.returns-then-is_business_day
returns-then-is_business_day c = ap (λ (business : Bool). business_days (cond business 1 0)) (sym c.if-is_business_day.true ∙ c.is_business_day.ensures)

pub returns : goal.returns
returns c = ap (λ (business : Bool). business_days (cond business 1 0)) (sym c.if-is_business_day.false ∙ c.is_business_day.ensures)
