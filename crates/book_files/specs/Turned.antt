-- The four totals after an order has turned from one status into another.
use Rattle.std.specs.Prelude.{ℕ, ◌+◌, ◌-◌, ◌≤◌, ◌<◌, ◌≡◌, cond, eqb}
use Rattle.premise.specs.Orders.{in_review, permit_pending, scheduled, cancel_pending}
use Rattle.book.specs.declared.Waiting.{Waiting}

-- what an order of a status adds to the total of one
abbrev pub one_if : ℕ → ℕ → ℕ
one_if status s = cond (eqb s status) 1 0

abbrev pub turned_total : ℕ → ℕ → ℕ → ℕ → ℕ
turned_total status left came total = total + one_if status came - one_if status left

unfoldable pub turned : ℕ → ℕ → Waiting → Waiting
turned left came w =
    record {
      review = turned_total in_review left came w.review;
      permit = turned_total permit_pending left came w.permit;
      scheduled = turned_total scheduled left came w.scheduled;
      cancel = turned_total cancel_pending left came w.cancel;
    }

-- what it asks: the order is counted, and one more can be
abbrev pub TurnsTotal : ℕ → ℕ → ℕ → Type 0
TurnsTotal status left total = (one_if status left ≤ total) × (total < 65535)

pub record Turns (left came : ℕ) (w : Waiting) : Type 0 where
  pub differ : left ≡ came → ⊥
  pub review : TurnsTotal in_review left w.review
  pub permit : TurnsTotal permit_pending left w.permit
  pub dated : TurnsTotal scheduled left w.scheduled
  pub cancel : TurnsTotal cancel_pending left w.cancel
