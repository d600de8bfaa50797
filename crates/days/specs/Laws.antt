-- What the layers above may rely on about days, as statements; proofs/Laws.antt proves them.
use Rattle.std.specs.Prelude.{ℕ, ◌≤◌, ◌<◌, ◌≡◌, ◌⊎◌, List, true, false}
use Rattle.days.specs.Days.{last_day, no_day, starts_switches, switch_date}
use Rattle.days.specs.Window.{in_window, up_to, LastInWindow}

-- no switches start on the days from one up to but not including another
abbrev pub NoneBefore : List ℕ → ℕ → ℕ → Type 0
NoneBefore calendar from to = (day : ℕ) → from ≤ day → day < to → starts_switches calendar day ≡ false

-- a day from today on, on which switches start, with none such before it
pub record FirstStart (calendar : List ℕ) (today date : ℕ) : Type 0 where
  pub from : today ≤ date
  pub day : date ≤ last_day
  pub starts : starts_switches calendar date ≡ true
  pub none : NoneBefore calendar today date

-- no day, and no switches start from today on
pub record NoStart (calendar : List ℕ) (today date : ℕ) : Type 0 where
  pub missing : date ≡ no_day
  pub none : NoneBefore calendar today no_day

-- the switch date is one or the other
abbrev pub SwitchDateIs : Type 0
SwitchDateIs = (calendar : List ℕ) (today : ℕ)
    → FirstStart calendar today (switch_date calendar today) ⊎ NoStart calendar today (switch_date calendar today)

-- a scheduled day at or before today is in window, whatever the width
abbrev pub PastInWindow : Type 0
PastInWindow = (calendar : List ℕ) (width today scheduled : ℕ) → scheduled ≤ last_day → scheduled ≤ today
    → in_window calendar width today scheduled ≡ true

-- by the last day in window, in window is one test with up to that day: what is said of the one is said of the other
abbrev pub WindowIsUpTo : Type 0
WindowIsUpTo = (calendar : List ℕ) (width today last : ℕ) → LastInWindow calendar width today last
    → in_window calendar width today ≡ up_to last
