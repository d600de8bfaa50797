pub mod WellKept
