-- Document 01, "Set pieces": the cases about days alone, d and i; and of document 02, change 2, the widths 1 to 5. All days are kind 0
-- unless said.
use Rattle.std.specs.Prelude.{ℕ, suc, List, [], ◌∷◌, ◌++◌, Bool, true, false, not, ◌&&◌, eqb, length, replicate}
use Rattle.std.specs.Bool.{beq}
use Rattle.days.specs.Days.{no_day, switch_date}
use Rattle.days.specs.Window.{window_width, most_width, in_window}

-- a case: what is asked of a calendar, and what must come out
pub data Piece : Type 0 where
  -- calendar, today, the switch date
  switches_on : List ℕ → ℕ → ℕ → Piece
  -- calendar, today, a scheduled day, whether it is in window
  in_window_piece : List ℕ → ℕ → ℕ → Bool → Piece
  -- calendar, today, the last day in window of each width from 1 on
  windows_end : List ℕ → ℕ → List ℕ → Piece

-- the last days in window of a width and of those that follow it: each is in window, the day after it not
abbrev pub ends_on : List ℕ → ℕ → ℕ → List ℕ → Bool
ends_on calendar width today [] = true
ends_on calendar width today (last ∷ lasts) =
    in_window calendar width today last && not (in_window calendar width today (suc last)) && ends_on calendar (suc width) today lasts

abbrev pub holds : Piece → Bool
holds (switches_on calendar today date) = eqb (switch_date calendar today) date
holds (in_window_piece calendar today scheduled is) = beq (in_window calendar window_width today scheduled) is
holds (windows_end calendar today lasts) = eqb (length lasts) most_width && ends_on calendar 1 today lasts

abbrev pub all_hold : List Piece → Bool
all_hold [] = true
all_hold (p ∷ ps) = holds p && all_hold ps

-- days 0 up to one before the given number, all of them business days
abbrev pub all_business : ℕ → List ℕ
all_business many = replicate many 0

abbrev pub pieces : List Piece
pieces =
    -- d. Kinds 2, 2, 1 on 20 to 22: from 20 the date is 22.
    switches_on (all_business 20 ++ (2 ∷ 2 ∷ 1 ∷ [])) 20 22
    -- d, at the ends of the calendar: the last day is offered; past the calendar, and from no day on, there is no date
    ∷ switches_on (all_business 4096) 4095 4095
    ∷ switches_on (all_business 20) 4090 no_day
    ∷ switches_on (all_business 5000) 4096 no_day
    -- i. T 10: SD 12 is in window, 13 not.
    ∷ in_window_piece (all_business 20) 10 12 true
    ∷ in_window_piece (all_business 20) 10 13 false
    -- i, with days that are no business days between: they do not count, whatever their kind
    ∷ in_window_piece (all_business 12 ++ (1 ∷ 2 ∷ 3 ∷ [])) 10 15 true
    -- i, a missing scheduled day is in no window
    ∷ in_window_piece [] 4095 no_day false
    -- change 2. T 10: of width 1, 11 is the last day in window, of width 2, 12, of width 5, 15.
    ∷ windows_end (all_business 20) 10 (11 ∷ 12 ∷ 13 ∷ 14 ∷ 15 ∷ [])
    -- change 2, with days that are no business days between; without a sixth business day the window of width 5 ends with the last day
    ∷ windows_end (all_business 12 ++ (1 ∷ 2 ∷ 0 ∷ 0 ∷ 3 ∷ 0 ∷ [])) 10 (11 ∷ 14 ∷ 15 ∷ 17 ∷ 4095 ∷ [])
    ∷ []
