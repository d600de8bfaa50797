-- Document 01's set pieces d and i hold: computed. Assumes nothing.
use mathlib.Core.Path.{◌≡◌, refl}
use mathlib.Core.Bool.{true}
use Rattle.days.specs.Days.{kind_of_day, is_business_day, switch_date}
use Rattle.days.specs.Window.{business_days, in_window}
use Rattle.days.specs.Pieces.{pieces, all_hold}

pub set-pieces : all_hold pieces ≡ true
unfolding kind_of_day is_business_day switch_date business_days in_window
set-pieces = refl
