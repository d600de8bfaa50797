-- How a new order starts. Assumes nothing.
use Prim.Native.Nat.{ℕ}
use mathlib.Core.Path.{◌≡◌}
use mathlib.Core.List.{List}
use Rattle.days.specs.Days.{no_day}
use Rattle.records.specs.declared.Record.{Record}
use Rattle.premise.specs.declared.BusinessDays.{BusinessDays}
use Rattle.premise.specs.Orders.{in_review, business_days, calendar_days}
use Rattle.premise.specs.Steps.{requested_day, wait_begun, new_order}

-- by its requested day and the wait that begins
pub started : (calendar : List ℕ) (today : ℕ) (r : Record) (requested : ℕ) → requested ≡ requested_day calendar today r
    → (waited : BusinessDays) → waited ≡ business_days (wait_begun calendar today)
    → record {
      reference = r.reference;
      kind = r.detail;
      submitter = r.retailer;
      requested = requested;
      scheduled = no_day;
      status = in_review;
      waited = waited;
      pending = calendar_days 0;
      told = 0;
      counter = 0;
    }
    ≡ new_order calendar today r
started calendar today r requested e waited w =
    λ i.
    record {
      reference = r.reference;
      kind = r.detail;
      submitter = r.retailer;
      requested = e i;
      scheduled = no_day;
      status = in_review;
      waited = w i;
      pending = calendar_days 0;
      told = 0;
      counter = 0;
    }
