-- Document 01, "Clock": each order, oldest first, by its status before the mark.
use Rattle.std.specs.Prelude.{ℕ, ◌+◌, min, List, [], ◌∷◌, Bool, cond, ◌&&◌, ◌||◌, eqb, leb}
use Rattle.days.specs.Days.{is_business_day}
use Rattle.records.specs.Notices.{tdsp}
use Rattle.premise.specs.declared.Order.{Order}
use Rattle.premise.specs.Orders.{in_review, permit_pending, cancel_pending, has_status, with_status, with_waited, with_pending}
use Rattle.premise.specs.Passes.{Change, Outcome, same, cancelling, notice, pass, code_cancel}

-- N never grows above 21.
abbrev pub most_waited : ℕ
most_waited = 21

-- In Review ends when N is at least 20 ..
abbrev pub long_review : ℕ
long_review = 20

-- .. or at least 3 and the requested day has come.
abbrev pub short_review : ℕ
short_review = 3

-- Cancel Pending ends at 7 calendar days.
abbrev pub most_pending : ℕ
most_pending = 7

-- N grows by 1 where a test holds, never above 21.
abbrev pub grown : Bool → Order → ℕ
grown counts o = cond counts (min (o.waited.0 + 1) most_waited) o.waited.0

-- Cancel Pending, W 0, notice 5 to the TDSP, with N as it has grown
abbrev pub to_cancel_pending : ℕ → ℕ → Order → Change
to_cancel_pending premise waited o =
    record {
      order = with_pending 0 (with_status cancel_pending (with_waited waited o));
      notices = notice code_cancel premise tdsp (with_pending 0 (with_status cancel_pending (with_waited waited o))) ∷ [];
    }

-- In Review: N grows by 1 on a business day; then if N is at least 20, or N is at least 3 and T is at least RD.
unfoldable pub reviewed : Bool → ℕ → ℕ → Order → Change
reviewed business today premise o =
    let waited : ℕ = grown business o in
    cond (leb long_review waited || leb short_review waited && leb o.requested today)
    (to_cancel_pending premise waited o)
    (same (with_waited waited o))

-- Permit Pending: N grows by 1 on a business day not before RD; if it is then 21, the same follows.
unfoldable pub permit_awaited : Bool → ℕ → ℕ → Order → Change
permit_awaited business today premise o =
    let waited : ℕ = grown (business && leb o.requested today) o in
    cond (eqb waited most_waited)
    (to_cancel_pending premise waited o)
    (same (with_waited waited o))

-- Cancel Pending: W grows by 1; at 7 Cancelled, W 0, notice 5 to the TDSP, then to Q.
unfoldable pub cancel_awaited : ℕ → Order → Change
cancel_awaited premise o =
    cond (leb most_pending (o.pending.0 + 1)) (cancelling premise o.submitter o) (same (with_pending (o.pending.0 + 1) o))

-- the clock on one order, on a day that is a business day or not
unfoldable pub ticked : Bool → ℕ → ℕ → Order → Change
ticked business today premise o =
    cond (has_status in_review o) (reviewed business today premise o)
    (cond (has_status permit_pending o) (permit_awaited business today premise o)
    (cond (has_status cancel_pending o) (cancel_awaited premise o)
    (same o)))

-- the clock on a file's orders
abbrev pub clock : List ℕ → ℕ → ℕ → List Order → Outcome
clock calendar today premise os = pass (λ (i : ℕ). ticked (is_business_day calendar today) today premise) os

-- N is at least 20, or N is at least 3 and T is at least RD.
abbrev pub review_ends : ℕ → ℕ → ℕ → Bool
review_ends waited requested today = leb long_review waited || leb short_review waited && leb requested today
