-- Document 01, "Days". A calendar is lent bytes, one per day: here the list of its bytes.
use Rattle.std.specs.Prelude.{ℕ, zero, suc, ◌-◌, List, Bool, cond, ◌&&◌, get_or, length, ltb, leb, eqb}

-- A day is 0 to 4,095.
abbrev pub last_day : ℕ
last_day = 4095

-- "No day" is written 4,096.
abbrev pub no_day : ℕ
no_day = 4096

abbrev pub is_day : ℕ → Bool
is_day day = leb day last_day

-- Kind of day d: its byte if d lies inside the calendar and the byte is 0 or 1, else 2.
unfoldable pub kind_of_day : List ℕ → ℕ → ℕ
kind_of_day calendar day = cond (ltb day (length calendar) && leb (get_or calendar day 0) 1) (get_or calendar day 0) 2

-- Kind 0 is a Retail Business Day ("business day").
unfoldable pub is_business_day : List ℕ → ℕ → Bool
is_business_day calendar day = eqb (kind_of_day calendar day) 0

-- Kinds 0 and 1 are the days on which switches start.
abbrev pub starts_switches : List ℕ → ℕ → Bool
starts_switches calendar day = leb (kind_of_day calendar day) 1

-- the first of so many days, counted from one on, on which switches start; no day if there is none among them. (The rest is bound by a
-- `let`, so that where it is computed the search stops at the day found.)
abbrev pub first_start : List ℕ → ℕ → ℕ → ℕ
first_start calendar zero day = no_day
first_start calendar (suc many) day = let later : ℕ = first_start calendar many (suc day) in cond (starts_switches calendar day) day later

-- First available switch date: the first day of kind 0 or 1, from today up to 4,095; without such a day there is none.
unfoldable pub switch_date : List ℕ → ℕ → ℕ
switch_date calendar today = first_start calendar (suc last_day - today) today
