-- Document 01, "Evaluation", its first line: the window. Document 02, change 2: its widths.
use Rattle.std.specs.Prelude.{ℕ, zero, suc, ◌+◌, ◌-◌, ◌<◌, ◌≡◌, List, Bool, cond, ◌&&◌, leb, get_or, length}
use Rattle.days.specs.Days.{is_business_day, is_day}

-- the business days among so many days, counted from one on
abbrev pub count_from : List ℕ → ℕ → ℕ → ℕ
count_from calendar zero day = 0
count_from calendar (suc many) day = cond (is_business_day calendar day) 1 0 + count_from calendar many (suc day)

-- how many business days d have from ≤ d < to
unfoldable pub business_days : List ℕ → ℕ → ℕ → ℕ
business_days calendar from to = count_from calendar (to - from) from

-- Two business days: the width that document 01 has throughout. Document 02, change 2: "1 to 5 business days, and 0 means 2".
abbrev pub window_width : ℕ
window_width = 2

-- A window is 1 to 5 business days wide.
abbrev pub most_width : ℕ
most_width = 5

-- In window: the scheduled day is a day, and at most width business days d have today ≤ d < scheduled.
unfoldable pub in_window : List ℕ → ℕ → ℕ → ℕ → Bool
in_window calendar width today scheduled = is_day scheduled && leb (business_days calendar today scheduled) width

-- a scheduled day up to a last one
abbrev pub up_to : ℕ → ℕ → Bool
up_to last = λ (scheduled : ℕ). leb scheduled last

-- The last day in window: a scheduled day is in window exactly up to it. So the window is looked for once, and not for every order.
abbrev pub LastInWindow : List ℕ → ℕ → ℕ → ℕ → Type 0
LastInWindow calendar width today last = (scheduled : ℕ) → in_window calendar width today scheduled ≡ up_to last scheduled

-- The last days in window of the widths 1 to the most, in this order: the first is that of width 1.
pub record LastDays (calendar : List ℕ) (today : ℕ) (lasts : List ℕ) : Type 0 where
  pub many : length lasts ≡ most_width
  pub each : (i : ℕ) → i < most_width → LastInWindow calendar (i + 1) today (get_or lasts i 0)
