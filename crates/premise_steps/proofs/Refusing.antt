-- Every refusal has a number that is not 0. Assumes nothing.
use mathlib.Core.Path.{◌≡◌, refl}
use mathlib.Core.Bool.{false}
use lib.Dec.{eqb}
use Rattle.std.specs.Prelude.{Err}
use Rattle.premise.specs.declared.Refusal.{Refusal}
use Rattle.premise.specs.Refusals.{number}
use Rattle.premise.specs.declared.Refusal.TheVariants.{ShortBuffer, NotWellKept, MalformedRecord, NoSuchPremise, OtherAgreement, PremiseHeld}
use Rattle.premise.specs.declared.Refusal.TheVariants.{BookFull, OrderOpen, ReferenceHeld, DayOutOfRange, NoSwitchDate, NotFirstIn}
use Rattle.premise.specs.declared.Refusal.TheVariants.{RetailerShareFull, StackFull, NoSuchOrder, StatusNotTaken, CounterNotAbove, OrderInWindow}
use Rattle.premise.specs.declared.Refusal.TheVariants.{NotNextDay}

pub refuses : (why : Refusal) → eqb (number (Err why)) 0 ≡ false
unfolding number
refuses ShortBuffer = refl
refuses NotWellKept = refl
refuses MalformedRecord = refl
refuses NoSuchPremise = refl
refuses OtherAgreement = refl
refuses PremiseHeld = refl
refuses BookFull = refl
refuses OrderOpen = refl
refuses ReferenceHeld = refl
refuses DayOutOfRange = refl
refuses NoSwitchDate = refl
refuses NotFirstIn = refl
refuses RetailerShareFull = refl
refuses StackFull = refl
refuses NoSuchOrder = refl
refuses StatusNotTaken = refl
refuses CounterNotAbove = refl
refuses OrderInWindow = refl
refuses NotNextDay = refl
