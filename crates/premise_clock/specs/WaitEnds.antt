-- The part that In Review and Permit Pending share under the clock.
use Rattle.std.specs.Prelude.{ℕ, Bool, cond}
use Rattle.premise.specs.declared.Order.{Order}
use Rattle.premise.specs.Orders.{with_waited}
use Rattle.premise.specs.Passes.{Change, same}
use Rattle.premise.specs.Clock.{to_cancel_pending}

-- N as it has grown; where the wait ends, Cancel Pending and notice 5 to the TDSP
abbrev pub waited_on : Bool → ℕ → ℕ → Order → Change
waited_on ends premise waited o = cond ends (to_cancel_pending premise waited o) (same (with_waited waited o))
