-- Document 02, change 13: the day of "the first later accepted mark at which N, once counted on, is at least 20, or is at least 3 with T at
-- least RD". Accepted marks move T by one day each, so that a mark is known by its day: the day goes by the calendar, T, N and RD alone.
use Rattle.std.specs.Prelude.{ℕ, zero, suc, ◌+◌, ◌-◌, ◌≤◌, ◌<◌, min, ◌≡◌, ◌⊎◌, List, Bool, cond}
use Rattle.days.specs.Days.{last_day, no_day}
use Rattle.days.specs.Window.{business_days}
use Rattle.premise.specs.Clock.{most_waited, review_ends}

-- N, once counted on from T to a later day: with the business days after T up to that day, never above 21
abbrev pub counted_to : List ℕ → ℕ → ℕ → ℕ → ℕ
counted_to calendar today waited day = min (waited + business_days calendar (today + 1) (day + 1)) most_waited

abbrev pub turns_on : List ℕ → ℕ → ℕ → ℕ → ℕ → Bool
turns_on calendar today waited requested day = review_ends (counted_to calendar today waited day) requested day

-- the first of so many days, counted from one on, that passes a test; no day if there is none among them. (The rest is bound by a `let`, so
-- that where it is computed the search stops at the day found.)
abbrev pub first_day : (ℕ → Bool) → ℕ → ℕ → ℕ
first_day p zero day = no_day
first_day p (suc many) day = let later : ℕ = first_day p many (suc day) in cond (p day) day later

-- The turning day: the first day after T, up to 4,095, on which the review ends; no day if there is none.
unfoldable pub turning_day : List ℕ → ℕ → ℕ → ℕ → ℕ
turning_day calendar today waited requested = first_day (turns_on calendar today waited requested) (last_day - today) (suc today)

-- ---- it is the first such; proofs/TurningDay.antt proves it
abbrev pub Turns : List ℕ → ℕ → ℕ → ℕ → ℕ → Type 0
Turns calendar today waited requested day =
    (20 ≤ counted_to calendar today waited day) ⊎ ((3 ≤ counted_to calendar today waited day) × (requested ≤ day))

pub record TurnsFirst (calendar : List ℕ) (today waited requested turning : ℕ) : Type 0 where
  pub after : today < turning
  pub day : turning ≤ last_day
  pub turns : Turns calendar today waited requested turning
  pub first : (day : ℕ) → today < day → day < turning → Turns calendar today waited requested day → ⊥

pub record NeverTurns (calendar : List ℕ) (today waited requested turning : ℕ) : Type 0 where
  pub missing : turning ≡ no_day
  pub never : (day : ℕ) → today < day → day ≤ last_day → Turns calendar today waited requested day → ⊥

abbrev pub TurningDayIs : Type 0
TurningDayIs =
    (calendar : List ℕ) (today waited requested : ℕ)
    → TurnsFirst calendar today waited requested (turning_day calendar today waited requested)
    ⊎ NeverTurns calendar today waited requested (turning_day calendar today waited requested)
