-- Document 01, "Evaluation": what each pass takes by K, status, day and window, what it leaves, whom it tells, and the order of the passes.
-- Each piece hands in T 9 and plays the mark of day 10: the scheduled day 12 is then in window, and 13 is not. The clock only counts a day
-- in Cancel Pending.
use Rattle.std.specs.Prelude.{ℕ, ◌+◌, List, [], ◌∷◌, ◌++◌}
use Rattle.days.specs.Days.{no_day}
use Rattle.records.specs.declared.Notice.{Notice}
use Rattle.records.specs.Notices.{tdsp}
use Rattle.records.specs.Records.{move_in, move_out, standard_switch, self_selected_switch, mass_transition_drop}
use Rattle.premise.specs.declared.Order.{Order}
use Rattle.premise.specs.Orders.{in_review, permit_pending, scheduled, cancel_pending, complete, cancelled, unexecutable}
use Rattle.premise.specs.Passes.{code_losing, code_cancel}
use Rattle.premise.specs.Pieces.Forms.{Case, Piece, piece, does, sent, state, stands, plain, mark}

-- the mark of day 10 on some orders of a premise supplied by a retailer
abbrev supplied_by : ℕ → List Order → List Notice → List Order → Case
supplied_by retailer os notices after = does plain (state 9 retailer 5 os) (mark 10) notices (state 10 retailer 5 after)

abbrev evaluated : List Order → List Notice → List Order → Case
evaluated = supplied_by 101

-- orders that stay as they are, and nobody is told
abbrev stay : List Order → Case
stay os = evaluated os [] os

-- an order with its K, reference, SD, status and told; its retailer is 201 for the reference 1, and so on
abbrev told0 : ℕ → ℕ → ℕ → ℕ → Order
told0 kind reference for status = stands reference kind (reference + 200) 3 for status 4 0 0

abbrev told1 : ℕ → ℕ → ℕ → ℕ → Order
told1 kind reference for status = stands reference kind (reference + 200) 3 for status 4 0 1

-- a Cancel Pending switch with its reference and W
abbrev pends : ℕ → ℕ → Order
pends reference pending = stands reference self_selected_switch (reference + 200) 3 12 cancel_pending 4 pending 1

-- the two notices of a cancelled order: K, SD, reference, the second addressee
abbrev cancelled_to : ℕ → ℕ → ℕ → ℕ → List Notice
cancelled_to kind for reference addressee = sent code_cancel kind for reference tdsp ∷ sent code_cancel kind for reference addressee ∷ []

unfoldable pub same_day : List Piece
same_day =
    piece "pass 1: of both kinds of switches the oldest Scheduled one is kept" (evaluated
    (told1 standard_switch 1 12 scheduled ∷ told1 self_selected_switch 2 12 scheduled ∷ told1 standard_switch 3 12 scheduled ∷ [])
    (cancelled_to self_selected_switch 12 2 202 ++ cancelled_to standard_switch 12 3 203)
    (told1 standard_switch 1 12 scheduled ∷ told1 self_selected_switch 2 12 cancelled ∷ told1 standard_switch 3 12 cancelled ∷ []))
    ∷ piece "pass 1: one Cancel Pending gives way to a younger Scheduled one" (evaluated
    (pends 1 3 ∷ told1 self_selected_switch 2 12 scheduled ∷ pends 3 3 ∷ [])
    (cancelled_to self_selected_switch 12 1 201 ++ cancelled_to self_selected_switch 12 3 203)
    (told1 self_selected_switch 1 12 cancelled ∷ told1 self_selected_switch 2 12 scheduled ∷ told1 self_selected_switch 3 12 cancelled ∷ []))
    ∷ piece "pass 1: with all Cancel Pending the oldest is kept" (evaluated (pends 1 3 ∷ pends 2 3 ∷ [])
    (cancelled_to self_selected_switch 12 2 202) (pends 1 4 ∷ told1 self_selected_switch 2 12 cancelled ∷ []))
    ∷ piece "pass 1: not out of window"
    (stay (told0 standard_switch 1 13 scheduled ∷ told0 self_selected_switch 2 13 scheduled ∷ []))
    ∷ piece "pass 1: each day keeps its own; the notices go by age, and not by day" (evaluated
    (told1 self_selected_switch 1 12 scheduled ∷ told1 self_selected_switch 2 11 scheduled ∷ told1 self_selected_switch 3 12 scheduled
    ∷ told1 self_selected_switch 4 11 scheduled ∷ [])
    (cancelled_to self_selected_switch 12 3 203 ++ cancelled_to self_selected_switch 11 4 204)
    (told1 self_selected_switch 1 12 scheduled ∷ told1 self_selected_switch 2 11 scheduled ∷ told1 self_selected_switch 3 12 cancelled
    ∷ told1 self_selected_switch 4 11 cancelled ∷ []))
    ∷ piece "pass 1: closed switches do not count" (stay
    (told1 self_selected_switch 1 12 complete ∷ told1 self_selected_switch 2 12 cancelled ∷ told1 self_selected_switch 3 12 unexecutable
    ∷ told1 self_selected_switch 4 12 scheduled ∷ told1 self_selected_switch 5 12 complete ∷ []))
    ∷ piece "pass 1: only switches" (stay
    (told1 move_in 1 12 scheduled ∷ told1 move_in 2 12 scheduled ∷ told1 move_out 3 12 scheduled ∷ told1 move_out 4 12 scheduled
    ∷ told1 mass_transition_drop 5 12 scheduled ∷ told1 mass_transition_drop 6 12 scheduled ∷ []))
    ∷ piece "pass 1: a day before T is in window" (evaluated
    (told1 self_selected_switch 1 4 scheduled ∷ told1 self_selected_switch 2 4 scheduled ∷ [])
    (cancelled_to self_selected_switch 4 2 202)
    (told1 self_selected_switch 1 4 scheduled ∷ told1 self_selected_switch 2 4 cancelled ∷ []))
    ∷ []

unfoldable pub drops : List Piece
drops =
    piece "pass 2: a drop gives way to a younger switch" (evaluated
    (told1 mass_transition_drop 1 12 scheduled ∷ told1 self_selected_switch 2 12 scheduled ∷ [])
    (cancelled_to mass_transition_drop 12 1 101)
    (told1 mass_transition_drop 1 12 cancelled ∷ told1 self_selected_switch 2 12 scheduled ∷ []))
    ∷ piece "pass 2: drops give way to an older standard switch" (evaluated
    (told1 standard_switch 1 12 scheduled ∷ told0 mass_transition_drop 2 12 scheduled ∷ told1 mass_transition_drop 3 12 scheduled ∷ [])
    (cancelled_to mass_transition_drop 12 2 101 ++ cancelled_to mass_transition_drop 12 3 101)
    (told1 standard_switch 1 12 scheduled ∷ told0 mass_transition_drop 2 12 cancelled ∷ told1 mass_transition_drop 3 12 cancelled ∷ []))
    ∷ piece "pass 2: where R is 0 only the TDSP is told" (supplied_by 0
    (told1 mass_transition_drop 1 12 scheduled ∷ told1 self_selected_switch 2 12 scheduled ∷ [])
    (sent code_cancel mass_transition_drop 12 1 tdsp ∷ [])
    (told1 mass_transition_drop 1 12 cancelled ∷ told1 self_selected_switch 2 12 scheduled ∷ []))
    ∷ piece "pass 2: R is told also where it is Q" (supplied_by 201
    (told1 mass_transition_drop 1 12 scheduled ∷ told1 self_selected_switch 2 12 scheduled ∷ [])
    (cancelled_to mass_transition_drop 12 1 201)
    (told1 mass_transition_drop 1 12 cancelled ∷ told1 self_selected_switch 2 12 scheduled ∷ []))
    ∷ piece "pass 2: not out of window" (stay (told0 mass_transition_drop 1 13 scheduled ∷ told0 self_selected_switch 2 13 scheduled ∷ []))
    ∷ piece "pass 2: not for a switch of another day"
    (stay (told1 self_selected_switch 1 11 scheduled ∷ told1 mass_transition_drop 2 12 scheduled ∷ []))
    ∷ piece "pass 2: not for a switch that is Cancel Pending" (evaluated
    (pends 1 0 ∷ told1 mass_transition_drop 2 12 scheduled ∷ []) [] (pends 1 1 ∷ told1 mass_transition_drop 2 12 scheduled ∷ []))
    ∷ piece "pass 2: not for a closed switch, nor for another K" (stay
    (told1 self_selected_switch 1 12 complete ∷ told1 move_in 2 12 scheduled ∷ told1 move_out 3 12 scheduled
    ∷ told1 mass_transition_drop 4 12 scheduled ∷ []))
    ∷ piece "pass 2: a drop that is Cancel Pending stays so" (evaluated
    (told1 self_selected_switch 1 12 scheduled ∷ stands 2 mass_transition_drop 202 3 12 cancel_pending 4 0 1 ∷ [])
    []
    (told1 self_selected_switch 1 12 scheduled ∷ stands 2 mass_transition_drop 202 3 12 cancel_pending 4 1 1 ∷ []))
    ∷ []

-- a Permit Pending move in by its RD; its N does not grow before 11
abbrev permit_for : ℕ → Order
permit_for requested = stands 1 move_in 201 requested no_day permit_pending 4 0 1

-- another order by its K, RD, SD and status
abbrev other : ℕ → ℕ → ℕ → ℕ → Order
other kind requested for status = stands 2 kind 202 requested for status 4 0 1

unfoldable pub overtaken : List Piece
overtaken =
    piece "pass 3: a permit for 11 gives way to a move in for 12, SD on T" (evaluated
    (permit_for 11 ∷ other move_in 12 10 scheduled ∷ [])
    (cancelled_to move_in no_day 1 201)
    (stands 1 move_in 201 11 no_day cancelled 4 0 1 ∷ other move_in 12 10 scheduled ∷ []))
    ∷ piece "pass 3: also where the other is older" (evaluated
    (other move_in 12 4 scheduled ∷ permit_for 11 ∷ [])
    (cancelled_to move_in no_day 1 201)
    (other move_in 12 4 scheduled ∷ stands 1 move_in 201 11 no_day cancelled 4 0 1 ∷ []))
    ∷ piece "pass 3: not while SD is after T" (stay (permit_for 11 ∷ other move_in 12 11 scheduled ∷ []))
    ∷ piece "pass 3: not for the same RD" (stay (permit_for 12 ∷ other move_in 12 10 scheduled ∷ []))
    ∷ piece "pass 3: not for an earlier RD" (stay (permit_for 13 ∷ other move_in 12 10 scheduled ∷ []))
    ∷ piece "pass 3: not for another K" (stay
    (permit_for 11 ∷ other move_out 12 10 scheduled ∷ stands 3 standard_switch 203 12 8 scheduled 4 0 1
    ∷ stands 4 self_selected_switch 204 12 10 scheduled 4 0 1 ∷ stands 5 mass_transition_drop 205 12 9 scheduled 4 0 1 ∷ []))
    ∷ piece "pass 3: not for one that is Cancel Pending" (evaluated
    (permit_for 11 ∷ other move_in 12 10 cancel_pending ∷ [])
    []
    (permit_for 11 ∷ stands 2 move_in 202 12 10 cancel_pending 4 1 1 ∷ []))
    ∷ piece "pass 3: not for a closed one" (stay (permit_for 11 ∷ other move_in 12 10 complete ∷ []))
    ∷ piece "pass 3: one and the same has the later RD and the SD that has come" (stay
    (permit_for 11 ∷ other move_in 12 11 scheduled ∷ stands 3 move_in 203 11 10 scheduled 4 0 1 ∷ []))
    ∷ piece "pass 3: only one that is Permit Pending" (evaluated
    (stands 1 move_in 201 11 no_day in_review 1 0 1 ∷ other move_in 12 10 scheduled ∷ stands 3 move_in 203 11 no_day cancel_pending 4 0 1 ∷ [])
    []
    (stands 1 move_in 201 11 no_day in_review 2 0 1 ∷ other move_in 12 10 scheduled ∷ stands 3 move_in 203 11 no_day cancel_pending 4 1 1 ∷ []))
    ∷ []

unfoldable pub losing : List Piece
losing =
    piece "pass 4: every K but the move out" (evaluated
    (told0 move_in 1 12 scheduled ∷ told0 move_out 2 12 scheduled ∷ told0 standard_switch 3 12 scheduled
    ∷ told0 self_selected_switch 4 11 scheduled ∷ told0 mass_transition_drop 5 10 scheduled ∷ [])
    (sent code_losing move_in 12 1 101 ∷ sent code_losing standard_switch 12 3 101 ∷ sent code_losing self_selected_switch 11 4 101
    ∷ sent code_losing mass_transition_drop 10 5 101 ∷ [])
    (told1 move_in 1 12 scheduled ∷ told0 move_out 2 12 scheduled ∷ told1 standard_switch 3 12 scheduled
    ∷ told1 self_selected_switch 4 11 scheduled ∷ told1 mass_transition_drop 5 10 scheduled ∷ []))
    ∷ piece "pass 4: once" (stay (told1 move_in 1 12 scheduled ∷ []))
    ∷ piece "pass 4: not out of window" (stay (told0 move_in 1 13 scheduled ∷ []))
    ∷ piece "pass 4: only Scheduled ones" (evaluated
    (told0 move_in 1 12 cancel_pending ∷ told0 move_in 2 12 complete ∷ told0 move_in 3 12 cancelled ∷ told0 move_in 4 12 unexecutable ∷ [])
    []
    (stands 1 move_in 201 3 12 cancel_pending 4 1 0 ∷ told0 move_in 2 12 complete ∷ told0 move_in 3 12 cancelled
    ∷ told0 move_in 4 12 unexecutable ∷ []))
    ∷ piece "pass 4: R 0 hears nothing" (supplied_by 0 (stands 1 move_in 201 3 12 scheduled 4 2 0 ∷ []) []
    (stands 1 move_in 201 3 12 scheduled 4 2 1 ∷ []))
    ∷ piece "pass 4: R that is Q hears nothing" (supplied_by 201
    (told0 move_in 1 12 scheduled ∷ told0 mass_transition_drop 2 11 scheduled ∷ [])
    (sent code_losing mass_transition_drop 11 2 201 ∷ [])
    (told1 move_in 1 12 scheduled ∷ told1 mass_transition_drop 2 11 scheduled ∷ []))
    ∷ piece "the four passes, one after another" (evaluated
    (told0 move_in 1 9 scheduled ∷ stands 2 move_in 202 2 no_day permit_pending 4 0 0 ∷ told0 mass_transition_drop 3 12 scheduled
    ∷ told0 self_selected_switch 4 12 scheduled ∷ told0 self_selected_switch 5 12 scheduled ∷ [])
    (cancelled_to self_selected_switch 12 5 205 ++ cancelled_to mass_transition_drop 12 3 101 ++ cancelled_to move_in no_day 2 202
    ++ (sent code_losing move_in 9 1 101 ∷ sent code_losing self_selected_switch 12 4 101 ∷ []))
    (told1 move_in 1 9 scheduled ∷ stands 2 move_in 202 2 no_day cancelled 5 0 0 ∷ told0 mass_transition_drop 3 12 cancelled
    ∷ told1 self_selected_switch 4 12 scheduled ∷ told0 self_selected_switch 5 12 cancelled ∷ []))
    ∷ []
