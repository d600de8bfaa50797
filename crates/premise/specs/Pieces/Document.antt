-- Document 01, "Set pieces": a to j as it has them, and its own tape. d and i about days alone stand in the days layer's list, which is
-- part of this one. All days are kind 0 unless said.
use Rattle.std.specs.Prelude.{ℕ, List, [], ◌∷◌, ◌++◌, map, replicate}
use Rattle.days.specs.Days.{no_day}
use Rattle.days.specs.Pieces as days
use Rattle.records.specs.declared.Record.{Record}
use Rattle.records.specs.Notices.{tdsp}
use Rattle.records.specs.Records.{move_in, move_out, standard_switch, self_selected_switch, mass_transition_drop}
use Rattle.premise.specs.declared.Order.{Order}
use Rattle.premise.specs.Orders.{in_review, permit_pending, scheduled, cancel_pending, complete, cancelled}
use Rattle.premise.specs.Passes.{code_order, code_scheduled, code_losing, code_cancel}
use Rattle.premise.specs.Pieces.Forms.{Piece, piece, answered, tells, leaves, plays, daily, on_days, line, sent, nothing, state}
use Rattle.premise.specs.Pieces.Forms.{stands, create, order, schedule, permit, unexecuted, read, cancel, marks, business}

-- a drop with a reference, by its retailer: no limit of days refuses it
abbrev dropped : ℕ → ℕ → Record
dropped reference retailer = order mass_transition_drop 5 reference retailer

-- eight open orders, references 1 to 8, held by two retailers
abbrev eight : List Record
eight =
    create 0 101
    ∷ dropped 1 202 ∷ dropped 2 202 ∷ dropped 3 202 ∷ dropped 4 202
    ∷ dropped 5 203 ∷ dropped 6 203 ∷ dropped 7 203 ∷ dropped 8 203
    ∷ []

-- a drop as it stands: reference and retailer
abbrev a_drop : ℕ → ℕ → Order
a_drop reference retailer = stands reference mass_transition_drop retailer 5 no_day in_review 1 0 0

-- days of kind 2 from 38 up to one before a day: from 38 that day is the switch date
abbrev closed : ℕ → List ℕ
closed many = business 38 ++ replicate many 2 ++ business 10

-- a move in that arrives on 50 for that day
abbrev arrives : List Record
arrives = create 0 101 ∷ order move_in 50 1 202 ∷ []

-- a move in for 60 whose permit is pending since 50
abbrev permitted : List Record
permitted = create 0 101 ∷ order move_in 60 1 202 ∷ permit 1 ∷ []

-- a switch to 202 from a retailer, scheduled for a day
abbrev switching : ℕ → ℕ → List Record
switching from for = create 0 from ∷ order self_selected_switch 50 1 202 ∷ schedule 1 for ∷ []

-- on 25 three switches scheduled for 30; the oldest is cancelled by its retailer and waits for the reply
abbrev three_switches : List Record
three_switches =
    create 0 101
    ∷ order self_selected_switch 20 1 202 ∷ order self_selected_switch 20 2 203 ∷ order self_selected_switch 20 3 204
    ∷ schedule 1 30 ∷ schedule 2 30 ∷ schedule 3 30
    ∷ cancel 1 202
    ∷ []

abbrev switch_for30 : ℕ → ℕ → ℕ → ℕ → ℕ → Order
switch_for30 reference submitter status pending told = stands reference self_selected_switch submitter 20 30 status 1 pending told

unfoldable pub limits : List Piece
limits =
    piece "a, move ins"
    (answered (business 301) (nothing 300)
    (create 0 101 ∷ order move_in 390 1 202 ∷ order move_in 30 2 202 ∷ order move_in 391 3 202 ∷ order move_in 29 4 202 ∷ [])
    (0 ∷ 0 ∷ 0 ∷ 9 ∷ 9 ∷ []))
    ∷ piece "b" (answered (business 60) (nothing 30)
    (create 0 101 ∷ order move_in 40 1 202 ∷ schedule 1 40 ∷ order move_in 40 2 203 ∷ order move_in 41 2 203 ∷ order move_out 40 3 101 ∷ [])
    (0 ∷ 0 ∷ 0 ∷ 11 ∷ 0 ∷ 0 ∷ []))
    ∷ piece "c, switch date 40" (answered (closed 2) (nothing 38)
    (create 0 101 ∷ order standard_switch 0 1 202 ∷ schedule 1 40 ∷ order standard_switch 0 2 203 ∷ [])
    (0 ∷ 0 ∷ 0 ∷ 11 ∷ []))
    ∷ piece "c, switch date 41" (answered (closed 3) (nothing 38)
    (create 0 101 ∷ order standard_switch 0 1 202 ∷ schedule 1 40 ∷ order standard_switch 0 2 203 ∷ [])
    (0 ∷ 0 ∷ 0 ∷ 0 ∷ []))
    ∷ piece "e, the stack held by two retailers and met by a third (document 02, change 12)" (answered (business 20) (nothing 10)
    (eight ++ (dropped 9 204 ∷ dropped 9 202 ∷ dropped 9 203 ∷ unexecuted 3 ∷ dropped 9 203 ∷ dropped 9 204 ∷ dropped 10 202 ∷ []))
    (replicate 9 0 ++ (12 ∷ 26 ∷ 26 ∷ 0 ∷ 26 ∷ 0 ∷ 12 ∷ [])))
    ∷ piece "e, the one closed gone" (leaves (business 20) (nothing 10) (eight ++ (unexecuted 3 ∷ dropped 9 204 ∷ []))
    (state 10 101 0 (a_drop 1 202 ∷ a_drop 2 202 ∷ a_drop 4 202 ∷ a_drop 5 203 ∷ a_drop 6 203 ∷ a_drop 7 203 ∷ a_drop 8 203 ∷ a_drop 9 204 ∷ [])))
    ∷ []

-- f. Unanswered move in, RD and arrival day 50: Cancel Pending at 52, still at 58, Cancelled at 59.
unfoldable pub reviews : List Piece
reviews =
    piece "f" (daily (business 60) 50 arrives (replicate 2 in_review ++ replicate 7 cancel_pending ++ (cancelled ∷ [])))
    ∷ piece "f, notice at 52" (tells (business 60) (nothing 50) (arrives ++ marks 2 51) (sent code_cancel move_in no_day 1 tdsp ∷ []))
    ∷ piece "f, 51 and 52 no business days: Cancel Pending at 54"
    (daily (business 51 ++ (1 ∷ 2 ∷ []) ++ business 10) 50 arrives (replicate 4 in_review ++ (cancel_pending ∷ [])))
    ∷ piece "f, 50 no business day: Cancel Pending at 53"
    (daily (business 50 ++ (1 ∷ []) ++ business 10) 50 arrives (replicate 3 in_review ++ (cancel_pending ∷ [])))
    ∷ []

unfoldable pub permits : List Piece
permits =
    piece "g" (daily (business 90) 50 permitted (replicate 30 permit_pending ++ (cancel_pending ∷ [])))
    ∷ []

unfoldable pub switches : List Piece
switches =
    piece "h, at 28" (plays (business 40) (state 27 101 0
    (switch_for30 1 202 cancel_pending 2 0 ∷ switch_for30 2 203 scheduled 0 0 ∷ switch_for30 3 204 scheduled 0 0 ∷ [])) (marks 1 28)
    (line 0 (sent code_cancel self_selected_switch 30 1 tdsp ∷ sent code_cancel self_selected_switch 30 1 202
    ∷ sent code_cancel self_selected_switch 30 3 tdsp ∷ sent code_cancel self_selected_switch 30 3 204
    ∷ sent code_losing self_selected_switch 30 2 101 ∷ []) ∷ [])
    (state 28 101 0 (switch_for30 1 202 cancelled 0 0 ∷ switch_for30 2 203 scheduled 0 1 ∷ switch_for30 3 204 cancelled 0 0 ∷ [])))
    ∷ piece "h, before" (leaves (business 40) (nothing 25) (three_switches ++ marks 2 26)
    (state 27 101 0 (switch_for30 1 202 cancel_pending 2 0 ∷ switch_for30 2 203 scheduled 0 0 ∷ switch_for30 3 204 scheduled 0 0 ∷ [])))
    ∷ piece "i, SD 12" (tells (business 20) (nothing 10) (switching 101 12)
    (sent code_scheduled self_selected_switch 12 1 202 ∷ sent code_losing self_selected_switch 12 1 101 ∷ []))
    ∷ piece "i, SD 13" (tells (business 20) (nothing 10) (switching 101 13) (sent code_scheduled self_selected_switch 13 1 202 ∷ []))
    ∷ piece "j" (leaves (business 40) (nothing 30) (create 20 101 ∷ order move_in 30 1 202 ∷ schedule 1 15 ∷ read 1 15 ∷ [])
    (state 30 101 20 (stands 1 move_in 202 30 15 complete 1 0 1 ∷ [])))
    ∷ map (λ (case : days.Piece). piece "d and i, days alone" (on_days case)) days.pieces

-- document 01's own tape, for premise 7, line by line
unfoldable pub tape : List Piece
tape =
    piece "the tape" (plays (business 4096) (nothing 0)
    (create 0 101 ∷ order standard_switch 0 1 202 ∷ schedule 1 0 ∷ read 1 0 ∷ [])
    (line 0 [] ∷ line 0 (sent code_order standard_switch 0 1 tdsp ∷ [])
    ∷ line 0 (sent code_scheduled standard_switch 0 1 202 ∷ sent code_losing standard_switch 0 1 101 ∷ []) ∷ line 0 []
    ∷ [])
    (state 0 202 0 (stands 1 standard_switch 202 0 0 complete 1 0 1 ∷ [])))
    ∷ []
