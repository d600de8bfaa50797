-- Document 01's set pieces hold: computed, topic by topic, so that the error of a failed piece has room for its name. Assumes nothing.
use mathlib.Core.Path.{◌≡◌, refl}
use mathlib.Core.List.{List, [], ◌∷◌, ◌++◌}
use mathlib.Core.Bool.{Bool, true, false}
use Rattle.premise.specs.Pieces.Forms.{Piece, holds, failing, failed}
use Rattle.premise.specs.Pieces.Document.{limits, reviews, permits, switches, tape}
use Rattle.premise.specs.Pieces.Records.{created, ordered, scheduled_or_permitted, unexecuteds, readings, cancels, evaluations}
use Rattle.premise.specs.Pieces.Clock.{reviews_end, permits_end, cancels_end}
use Rattle.premise.specs.Pieces.Evaluation.{same_day, drops, overtaken, losing}
use Rattle.premise.specs.Pieces.Agreements.{agreements, agreements_told, agreements_on_tape}
use Rattle.premise.specs.Pieces.OneDay.{one_day}
use Rattle.premise.specs.Pieces.Windows.{windows}
use Rattle.premise.specs.Pieces.Retailers.{long_retailers}
use Rattle.premise.specs.Pieces.DateChange.{redates, redated_on_tape, redates_refused}
use Rattle.premise.specs.Pieces.Refusals.{first_in, statuses, premises, day_limits, stacks, shares}
use Rattle.premise.specs.Pieces.Kept.{kept_orders, kept_files, numbers}
use Rattle.premise.specs.Pieces.{pieces}

-- none of some pieces fails
record Hold (ps : List Piece) : Type 0 where
  pub none : failed ps ≡ []

more : (p : Piece) (ps qs : List Piece) (is : Bool) → failing is p.name (failed ps) ≡ [] → (failed ps ≡ [] → failed (ps ++ qs) ≡ [])
    → failing is p.name (failed (ps ++ qs)) ≡ []
more p ps qs true h both = both h
more p ps qs false h both = cc

both : (ps qs : List Piece) → failed ps ≡ [] → failed qs ≡ [] → failed (ps ++ qs) ≡ []
unfolding failed
both [] qs h k = k
both (p ∷ ps) qs h k = more p ps qs (holds p.case) h (λ (rest : failed ps ≡ []). both ps qs rest k)

infixl 20 ◌also◌
◌also◌ : {ps qs : List Piece} → Hold ps → Hold qs → Hold (ps ++ qs)
◌also◌ {ps} {qs} h k = record { none = both ps qs h.none k.none }

limits_hold : Hold limits
unfolding failed limits
limits_hold = record { none = refl }

reviews_hold : Hold reviews
unfolding failed reviews
reviews_hold = record { none = refl }

permits_hold : Hold permits
unfolding failed permits
permits_hold = record { none = refl }

switches_hold : Hold switches
unfolding failed switches
switches_hold = record { none = refl }

tape_hold : Hold tape
unfolding failed tape
tape_hold = record { none = refl }

created_hold : Hold created
unfolding failed created
created_hold = record { none = refl }

ordered_hold : Hold ordered
unfolding failed ordered
ordered_hold = record { none = refl }

scheduled_or_permitted_hold : Hold scheduled_or_permitted
unfolding failed scheduled_or_permitted
scheduled_or_permitted_hold = record { none = refl }

unexecuteds_hold : Hold unexecuteds
unfolding failed unexecuteds
unexecuteds_hold = record { none = refl }

readings_hold : Hold readings
unfolding failed readings
readings_hold = record { none = refl }

cancels_hold : Hold cancels
unfolding failed cancels
cancels_hold = record { none = refl }

evaluations_hold : Hold evaluations
unfolding failed evaluations
evaluations_hold = record { none = refl }

reviews_end_hold : Hold reviews_end
unfolding failed reviews_end
reviews_end_hold = record { none = refl }

permits_end_hold : Hold permits_end
unfolding failed permits_end
permits_end_hold = record { none = refl }

cancels_end_hold : Hold cancels_end
unfolding failed cancels_end
cancels_end_hold = record { none = refl }

same_day_hold : Hold same_day
unfolding failed same_day
same_day_hold = record { none = refl }

drops_hold : Hold drops
unfolding failed drops
drops_hold = record { none = refl }

overtaken_hold : Hold overtaken
unfolding failed overtaken
overtaken_hold = record { none = refl }

losing_hold : Hold losing
unfolding failed losing
losing_hold = record { none = refl }

first_in_hold : Hold first_in
unfolding failed first_in
first_in_hold = record { none = refl }

statuses_hold : Hold statuses
unfolding failed statuses
statuses_hold = record { none = refl }

premises_hold : Hold premises
unfolding failed premises
premises_hold = record { none = refl }

day_limits_hold : Hold day_limits
unfolding failed day_limits
day_limits_hold = record { none = refl }

stacks_hold : Hold stacks
unfolding failed stacks
stacks_hold = record { none = refl }

shares_hold : Hold shares
unfolding failed shares
shares_hold = record { none = refl }

redates_hold : Hold redates
unfolding failed redates
redates_hold = record { none = refl }

redated_on_tape_hold : Hold redated_on_tape
unfolding failed redated_on_tape
redated_on_tape_hold = record { none = refl }

redates_refused_hold : Hold redates_refused
unfolding failed redates_refused
redates_refused_hold = record { none = refl }

agreements_hold : Hold agreements
unfolding failed agreements
agreements_hold = record { none = refl }

agreements_told_hold : Hold agreements_told
unfolding failed agreements_told
agreements_told_hold = record { none = refl }

agreements_on_tape_hold : Hold agreements_on_tape
unfolding failed agreements_on_tape
agreements_on_tape_hold = record { none = refl }

one_day_hold : Hold one_day
unfolding failed one_day
one_day_hold = record { none = refl }

windows_hold : Hold windows
unfolding failed windows
windows_hold = record { none = refl }

long_retailers_hold : Hold long_retailers
unfolding failed long_retailers
long_retailers_hold = record { none = refl }

kept_orders_hold : Hold kept_orders
unfolding failed kept_orders
kept_orders_hold = record { none = refl }

kept_files_hold : Hold kept_files
unfolding failed kept_files
kept_files_hold = record { none = refl }

numbers_hold : Hold numbers
unfolding failed numbers
numbers_hold = record { none = refl }

pub set-pieces : failed pieces ≡ []
set-pieces = (limits_hold also reviews_hold also permits_hold also switches_hold also tape_hold also created_hold also ordered_hold also
    scheduled_or_permitted_hold also unexecuteds_hold also readings_hold also cancels_hold also evaluations_hold also reviews_end_hold also
    permits_end_hold also cancels_end_hold also same_day_hold also drops_hold also overtaken_hold also losing_hold also first_in_hold also
    statuses_hold also premises_hold also day_limits_hold also stacks_hold also shares_hold also redates_hold also redated_on_tape_hold
    also redates_refused_hold also agreements_hold also agreements_told_hold also agreements_on_tape_hold also one_day_hold also windows_hold
    also long_retailers_hold also kept_orders_hold also kept_files_hold also
    numbers_hold).none
