-- Whether the evaluation changes an order, asked order against order: of two orders of one file, whether one ousts the other.
-- proofs/Ousted.antt proves that an order is changed if it is due or another ousts it.
use Rattle.std.specs.Prelude.{ℕ, Bool, cond, ◌&&◌, ◌||◌, ltb}
use Rattle.days.specs.Window.{up_to}
use Rattle.records.specs.Records.{move_in, mass_transition_drop}
use Rattle.premise.specs.declared.Order.{Order}
use Rattle.premise.specs.Orders.{permit_pending, scheduled, cancel_pending, has_status, has_kind}
use Rattle.premise.specs.Evaluation.{contends, contends_for, switch_on, overtakes}

-- Pass 2: a Scheduled drop in window.
abbrev pub is_near_drop : (ℕ → Bool) → Order → Bool
is_near_drop near o = has_kind mass_transition_drop o && has_status scheduled o && near o.scheduled

-- Pass 3: a move in that awaits its permit.
abbrev pub awaits_permit : Order → Bool
awaits_permit o = has_kind move_in o && has_status permit_pending o

-- Pass 1: of the switches of a day, whether another, at a place j, is kept rather than the one at a place i. To a Scheduled one an older
-- Scheduled one is preferred; to a Cancel Pending one every Scheduled one, and an older Cancel Pending one.
abbrev pub is_preferred : ℕ → Order → ℕ → Order → Bool
is_preferred i o j other =
    cond (has_status scheduled o) (has_status scheduled other && ltb j i)
    (has_status scheduled other || has_status cancel_pending other && ltb j i)

-- Whether an order is one that another can oust in the first three passes.
abbrev pub may_be_ousted : ℕ → Order → Bool
may_be_ousted last o = awaits_permit o || contends (up_to last) o || is_near_drop (up_to last) o

-- Whether the order at a place i is ousted by another at a place j: by the switch that is preferred to it for its day, by the switch of its
-- day, or by the move in that overtook it.
unfoldable pub ousts : ℕ → ℕ → ℕ → Order → ℕ → Order → Bool
ousts today last i o j other =
    contends (up_to last) o && (contends_for (up_to last) o.scheduled other && is_preferred i o j other)
    || is_near_drop (up_to last) o && switch_on o.scheduled other
    || awaits_permit o && overtakes today o.requested other
