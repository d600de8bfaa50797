-- The two searches for the switch that is kept for a day, as one test.
use Rattle.std.specs.Prelude.{ℕ, Bool, true, false, ◌&&◌}
use Rattle.premise.specs.declared.Order.{Order}
use Rattle.premise.specs.Orders.{scheduled, has_status}
use Rattle.premise.specs.Evaluation.{contends_for}

-- a switch that contends for a day; with true, a Scheduled one
abbrev pub rival : (ℕ → Bool) → ℕ → Bool → Order → Bool
rival near day true o = contends_for near day o && has_status scheduled o
rival near day false o = contends_for near day o
