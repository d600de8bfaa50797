-- Document 01, "Records": what each kind does, field by field, and whom it tells. Each piece hands in T 10 and a file with an older order
-- beside the one that the record names, so that one changed in its place shows; scheduled days are out of window, so that the evaluation
-- at the end does nothing, but in the last topic. Some hand in an SD or a W where no well_kept file has one: a field that must become 0, or
-- must stay, shows then.
use Rattle.std.specs.Prelude.{ℕ, List, [], ◌∷◌, ◌++◌}
use Rattle.days.specs.Days.{no_day}
use Rattle.records.specs.declared.Record.{Record}
use Rattle.records.specs.declared.Notice.{Notice}
use Rattle.records.specs.Notices.{tdsp}
use Rattle.records.specs.Records.{move_in, move_out, standard_switch, self_selected_switch, mass_transition_drop, reply_accept, reply_reject}
use Rattle.premise.specs.declared.Order.{Order}
use Rattle.premise.specs.Orders.{in_review, permit_pending, scheduled, cancel_pending, complete, cancelled, unexecutable}
use Rattle.premise.specs.Passes.{code_order, code_move_out, code_scheduled, code_losing, code_cancel, code_permit, code_unexecutable}
use Rattle.premise.specs.Passes.{code_reject}
use Rattle.premise.specs.OnePremise.{State}
use Rattle.premise.specs.Pieces.Forms.{Case, Piece, piece, tells, does, sent, nothing, state, state_entered, stands, plain, with10}
use Rattle.premise.specs.Pieces.Forms.{business}
use Rattle.premise.specs.Pieces.Forms.{create, retire, order, schedule, permit, unexecuted, read, cancel, reply}

-- the older order: a move in, read on 4
abbrev older : Order
older = stands 1 move_in 301 3 4 complete 2 0 1

-- premise 7, supplied by 101 since 5, with the older order and another
abbrev beside : Order → State
beside o = state 10 101 5 (older ∷ o ∷ [])

-- a record on it: its notices, and the other order afterwards
abbrev turns : Order → Record → List Notice → Order → Case
turns o r notices after = does plain (beside o) r notices (beside after)

unfoldable pub created : List Piece
created =
    piece "1: R and S, no orders" (does plain (nothing 10) (create 12 101) [] (state 10 101 12 []))
    ∷ piece "1: de-energized" (does plain (nothing 10) (create 3 0) [] (state 10 0 3 []))
    ∷ piece "2: the file leaves" (does plain (beside older) retire [] (nothing 10))
    ∷ []

-- a new order beside the older one: calendar, K, the record's day, the notice's code, RD and N
abbrev orders : List ℕ → ℕ → ℕ → ℕ → ℕ → ℕ → Case
orders calendar kind day code requested waited =
    does calendar (state 10 101 5 (older ∷ [])) (order kind day 2 202) (sent code kind requested 2 tdsp ∷ [])
    (beside (stands 2 kind 202 requested no_day in_review waited 0 0))

-- an order in a status, with its reference
abbrev in_status : ℕ → ℕ → Order
in_status status reference = stands reference mass_transition_drop 303 5 15 status 1 0 0

abbrev six : List Order
six =
    in_status cancel_pending 2 ∷ in_status complete 3 ∷ in_status cancel_pending 4 ∷ in_status cancelled 5 ∷ in_status scheduled 6
    ∷ in_status unexecutable 7
    ∷ []

abbrev last : Order
last = in_status scheduled 8

abbrev ninth : Order
ninth = stands 9 mass_transition_drop 202 6 no_day in_review 1 0 0

unfoldable pub ordered : List Piece
ordered =
    piece "3: a move in" (orders plain move_in 12 code_order 12 1)
    ∷ piece "3: a move out" (orders plain move_out 12 code_move_out 12 1)
    ∷ piece "3: a standard switch on its switch date" (orders (business 10 ++ (2 ∷ 1 ∷ []) ++ business 4) standard_switch 0 code_order 11 0)
    ∷ piece "3: a self-selected switch" (orders plain self_selected_switch 12 code_order 12 1)
    ∷ piece "3: a drop" (orders plain mass_transition_drop 12 code_order 12 1)
    ∷ piece "3: N 0 on another day on which switches start" (orders (with10 1) self_selected_switch 12 code_order 12 0)
    ∷ piece "3: N 0 on a Sunday" (orders (with10 2) self_selected_switch 9 code_order 9 0)
    ∷ piece "3: of 8 orders the oldest closed one is dropped"
    (does plain (state 10 101 5 (in_status in_review 1 ∷ six ++ (last ∷ []))) (order mass_transition_drop 6 9 202)
    (sent code_order mass_transition_drop 6 9 tdsp ∷ [])
    (state 10 101 5
    (in_status in_review 1 ∷ in_status cancel_pending 2 ∷ in_status cancel_pending 4 ∷ in_status cancelled 5 ∷ in_status scheduled 6
    ∷ in_status unexecutable 7 ∷ last ∷ ninth ∷ [])))
    ∷ piece "3: of 7 orders none is dropped"
    (does plain (state 10 101 5 (in_status in_review 1 ∷ six)) (order mass_transition_drop 6 9 202)
    (sent code_order mass_transition_drop 6 9 tdsp ∷ [])
    (state 10 101 5 (in_status in_review 1 ∷ six ++ (ninth ∷ []))))
    ∷ []

unfoldable pub scheduled_or_permitted : List Piece
scheduled_or_permitted =
    piece "4, from In Review"
    (turns (stands 2 move_out 202 12 no_day in_review 4 3 1) (schedule 2 15) (sent code_scheduled move_out 15 2 202 ∷ [])
    (stands 2 move_out 202 12 15 scheduled 4 0 1))
    ∷ piece "4, from Permit Pending"
    (turns (stands 2 move_in 202 12 no_day permit_pending 4 0 1) (schedule 2 3) (sent code_scheduled move_in 3 2 202 ∷ [])
    (stands 2 move_in 202 12 3 scheduled 4 0 1))
    ∷ piece "4, from Cancel Pending"
    (turns (stands 2 mass_transition_drop 202 12 14 cancel_pending 4 3 0) (schedule 2 15) (sent code_scheduled mass_transition_drop 15 2 202 ∷ [])
    (stands 2 mass_transition_drop 202 12 15 scheduled 4 0 0))
    ∷ piece "5, from In Review"
    (turns (stands 2 move_in 202 12 14 in_review 4 3 1) (permit 2) (sent code_permit move_in 14 2 202 ∷ [])
    (stands 2 move_in 202 12 14 permit_pending 0 3 1))
    ∷ piece "5, SD none" (tells plain (beside (stands 2 move_in 202 12 no_day in_review 4 0 1)) (permit 2 ∷ [])
    (sent code_permit move_in no_day 2 202 ∷ []))
    ∷ []

-- kind 6 on an order of 202 with a W and told: R, the status, SD; and whom it tells
abbrev gives_up : ℕ → ℕ → ℕ → ℕ → List Notice → Case
gives_up retailer status for told notices =
    does plain (state 10 retailer 5 (older ∷ stands 2 move_in 202 12 for status 4 3 told ∷ [])) (unexecuted 2) notices
    (state 10 retailer 5 (older ∷ stands 2 move_in 202 12 for unexecutable 4 0 told ∷ []))

abbrev unexecutable_to : ℕ → ℕ → Notice
unexecutable_to for addressee = sent code_unexecutable move_in for 2 addressee

unfoldable pub unexecuteds : List Piece
unexecuteds =
    piece "6, from In Review" (gives_up 101 in_review no_day 0 (unexecutable_to no_day 202 ∷ []))
    ∷ piece "6, from Permit Pending" (gives_up 101 permit_pending no_day 0 (unexecutable_to no_day 202 ∷ []))
    ∷ piece "6, from Scheduled, R told" (gives_up 101 scheduled 15 1 (unexecutable_to 15 202 ∷ unexecutable_to 15 101 ∷ []))
    ∷ piece "6, from Cancel Pending, R told" (gives_up 101 cancel_pending 15 1 (unexecutable_to 15 202 ∷ unexecutable_to 15 101 ∷ []))
    ∷ piece "6, R not told" (gives_up 101 scheduled 15 0 (unexecutable_to 15 202 ∷ []))
    ∷ piece "6, told and R 0" (gives_up 0 scheduled 15 1 (unexecutable_to 15 202 ∷ []))
    ∷ piece "6, told and R is Q" (gives_up 202 scheduled 15 1 (unexecutable_to 15 202 ∷ unexecutable_to 15 202 ∷ []))
    ∷ []

-- a read of a Scheduled order of 202 on a day: K; R and S afterwards, and how they stand in the file
abbrev reads : (ℕ → ℕ → ℕ → List Order → State) → ℕ → ℕ → ℕ → ℕ → Case
reads after kind day retailer since =
    does plain (state 10 101 5 (older ∷ stands 2 kind 202 12 15 scheduled 4 2 1 ∷ [])) (read 2 day) []
    (after 10 retailer since (older ∷ stands 2 kind 202 12 day complete 4 2 1 ∷ []))

unfoldable pub readings : List Piece
readings =
    piece "7, a move in" (reads (state_entered 0) move_in 14 202 14)
    ∷ piece "7, a move out" (reads state move_out 14 0 14)
    ∷ piece "7, a standard switch" (reads state standard_switch 14 202 14)
    ∷ piece "7, a self-selected switch" (reads state self_selected_switch 14 202 14)
    ∷ piece "7, a drop" (reads state mass_transition_drop 14 202 14)
    ∷ piece "7, on S" (reads (state_entered 0) move_in 5 202 5)
    ∷ piece "7, on the day before S" (reads state move_in 4 101 5)
    ∷ piece "7, from Permit Pending"
    (turns (stands 2 move_in 202 12 no_day permit_pending 4 0 1) (read 2 14) [] (stands 2 move_in 202 12 no_day in_review 4 0 1))
    ∷ []

unfoldable pub cancels : List Piece
cancels =
    piece "8, from In Review"
    (turns (stands 2 self_selected_switch 202 12 no_day in_review 4 3 1) (cancel 2 202) (sent code_cancel self_selected_switch no_day 2 tdsp ∷ [])
    (stands 2 self_selected_switch 202 12 no_day cancel_pending 4 0 1))
    ∷ piece "8, from Permit Pending"
    (turns (stands 2 move_in 202 12 no_day permit_pending 4 3 1) (cancel 2 202) (sent code_cancel move_in no_day 2 tdsp ∷ [])
    (stands 2 move_in 202 12 no_day cancel_pending 4 0 1))
    ∷ piece "8, from Scheduled"
    (turns (stands 2 move_out 202 12 15 scheduled 4 3 1) (cancel 2 202) (sent code_cancel move_out 15 2 tdsp ∷ [])
    (stands 2 move_out 202 12 15 cancel_pending 4 0 1))
    ∷ piece "9, accepted"
    (turns (stands 2 move_out 202 12 15 cancel_pending 4 3 1) (reply reply_accept 2) (sent code_cancel move_out 15 2 202 ∷ [])
    (stands 2 move_out 202 12 15 cancelled 4 0 1))
    ∷ piece "9, rejected, SD a day"
    (turns (stands 2 move_out 202 12 4095 cancel_pending 4 3 1) (reply reply_reject 2) (sent code_reject move_out 4095 2 202 ∷ [])
    (stands 2 move_out 202 12 4095 scheduled 4 0 1))
    ∷ piece "9, rejected, SD none"
    (turns (stands 2 move_in 202 12 no_day cancel_pending 4 3 1) (reply reply_reject 2) (sent code_reject move_in no_day 2 202 ∷ [])
    (stands 2 move_in 202 12 no_day in_review 4 0 1))
    ∷ []

-- ---- each of the kinds 3 to 9 ends with the evaluation
-- a switch of 301 that is due, and orders of 202, 203 and 204 in review, Scheduled and Cancel Pending
abbrev due : State
due =
    state 10 101 5
    (stands 1 self_selected_switch 301 3 12 scheduled 2 0 0
    ∷ stands 2 move_in 202 12 no_day in_review 4 0 0
    ∷ stands 3 move_in 203 12 15 scheduled 4 0 0
    ∷ stands 4 mass_transition_drop 204 12 15 cancel_pending 4 3 0
    ∷ [])

-- a record on it: its own notices, and after them the evaluation's to R as it is then
abbrev then_tells : Record → List Notice → ℕ → Case
then_tells r own retailer = tells plain due (r ∷ []) (own ++ (sent code_losing self_selected_switch 12 1 retailer ∷ []))

unfoldable pub evaluations : List Piece
evaluations =
    piece "3, then the evaluation" (then_tells (order move_out 12 9 205) (sent code_move_out move_out 12 9 tdsp ∷ []) 101)
    ∷ piece "4, then the evaluation" (then_tells (schedule 2 15) (sent code_scheduled move_in 15 2 202 ∷ []) 101)
    ∷ piece "5, then the evaluation" (then_tells (permit 2) (sent code_permit move_in no_day 2 202 ∷ []) 101)
    ∷ piece "6, then the evaluation" (then_tells (unexecuted 2) (sent code_unexecutable move_in no_day 2 202 ∷ []) 101)
    ∷ piece "7, then the evaluation, by the new R" (then_tells (read 3 14) [] 203)
    ∷ piece "8, then the evaluation" (then_tells (cancel 3 203) (sent code_cancel move_in 15 3 tdsp ∷ []) 101)
    ∷ piece "9, accepted, then the evaluation" (then_tells (reply reply_accept 4) (sent code_cancel mass_transition_drop 15 4 204 ∷ []) 101)
    ∷ piece "9, rejected, then the evaluation" (then_tells (reply reply_reject 4) (sent code_reject mass_transition_drop 15 4 204 ∷ []) 101)
    ∷ piece "8, then the evaluation: what the record left is seen" (tells plain
    (state 10 101 5 (stands 1 move_in 202 12 12 scheduled 4 0 0 ∷ [])) (cancel 1 202 ∷ []) (sent code_cancel move_in 12 1 tdsp ∷ []))
    ∷ []
