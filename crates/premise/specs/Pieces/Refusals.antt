-- Document 01, "Not first in" and the table of refusals: each row's condition on both sides, and the rows that can meet. T is 10 unless
-- said.
use Rattle.std.specs.Prelude.{ℕ, ◌+◌, List, [], ◌∷◌, ◌++◌, map, replicate}
use Rattle.days.specs.Days.{no_day}
use Rattle.records.specs.declared.Record.{Record}
use Rattle.records.specs.Records.{move_in, move_out, standard_switch, self_selected_switch, mass_transition_drop, reply_accept, reply_reject}
use Rattle.premise.specs.declared.Order.{Order}
use Rattle.premise.specs.Orders.{in_review, permit_pending, scheduled, cancel_pending, complete, cancelled, unexecutable}
use Rattle.premise.specs.FirstIn.{table}
use Rattle.premise.specs.OnePremise.{State}
use Rattle.premise.specs.Pieces.Forms.{Case, Piece, piece, answered, asked, numbered, nothing, state, stands, plain, business}
use Rattle.premise.specs.Pieces.Forms.{create, retire, order, schedule, permit, unexecuted, read, cancel, reply, redate, establishes}
use Rattle.premise.specs.Pieces.Forms.{deletes, mark}

-- a file with one order of 201, by K, SD and status; its reference is 1
abbrev holding : ℕ → ℕ → ℕ → State
holding kind for status = state 10 101 5 (stands 1 kind 201 3 for status 4 0 1 ∷ [])

-- new orders of the five kinds for day 10; the switch date is 10
abbrev news : List Record
news =
    order move_in 10 2 202 ∷ order move_out 10 2 202 ∷ order standard_switch 0 2 202 ∷ order self_selected_switch 10 2 202
    ∷ order mass_transition_drop 10 2 202
    ∷ []

-- what they are answered beside an order by K, SD and status
abbrev beside : ℕ → ℕ → ℕ → List ℕ → Case
beside kind for status answers = asked plain (holding kind for status) news answers

-- the cells of a table, row after row
abbrev joined : List (List ℕ) → List ℕ
joined [] = []
joined (cells ∷ more) = cells ++ joined more

abbrev all_taken : List ℕ
all_taken = 0 ∷ 0 ∷ 0 ∷ 0 ∷ 0 ∷ []

unfoldable pub first_in : List Piece
first_in =
    piece "11, table 11.1, cell by cell"
    (numbered (joined table) (1 ∷ 0 ∷ 0 ∷ 1 ∷ 0 ∷ 1 ∷ 0 ∷ 1 ∷ 0 ∷ 0 ∷ 0 ∷ 1 ∷ 0 ∷ 0 ∷ 0 ∷ 1 ∷ 0 ∷ 0 ∷ 0 ∷ 0 ∷ []))
    ∷ piece "11, table 11.1: Scheduled move in" (beside move_in 10 scheduled (11 ∷ 0 ∷ 0 ∷ 11 ∷ 0 ∷ []))
    ∷ piece "11, table 11.1: Scheduled move out" (beside move_out 10 scheduled (0 ∷ 11 ∷ 0 ∷ 11 ∷ 0 ∷ []))
    ∷ piece "11, table 11.1: Scheduled standard switch, and the line below the table"
    (beside standard_switch 10 scheduled (0 ∷ 0 ∷ 11 ∷ 11 ∷ 0 ∷ []))
    ∷ piece "11, table 11.1: Scheduled self-selected switch" (beside self_selected_switch 10 scheduled (0 ∷ 0 ∷ 0 ∷ 11 ∷ 0 ∷ []))
    ∷ piece "11, table 11.1: Scheduled drop" (beside mass_transition_drop 10 scheduled all_taken)
    ∷ piece "11: a move in of another day" (beside move_in 11 scheduled all_taken)
    ∷ piece "11: a move out of an earlier day" (beside move_out 9 scheduled all_taken)
    ∷ piece "11: a standard switch of a later day" (beside standard_switch 11 scheduled (0 ∷ 0 ∷ 11 ∷ 0 ∷ 0 ∷ []))
    ∷ piece "11: a standard switch of an earlier day" (beside standard_switch 9 scheduled all_taken)
    ∷ piece "11: a self-selected switch of a later day" (beside self_selected_switch 11 scheduled all_taken)
    ∷ piece "11: a move in that is Cancel Pending" (beside move_in 10 cancel_pending all_taken)
    ∷ piece "11: a standard switch that is Cancel Pending" (beside standard_switch 10 cancel_pending all_taken)
    ∷ piece "11: a move in that is Complete" (beside move_in 10 complete all_taken)
    ∷ piece "11: a standard switch that is Complete" (beside standard_switch 10 complete all_taken)
    ∷ piece "11: one that is not the oldest" (asked plain
    (state 10 101 5 (stands 1 move_in 201 3 11 scheduled 4 0 1 ∷ stands 3 move_in 203 3 10 scheduled 4 0 1 ∷ [])) news
    (11 ∷ 0 ∷ 0 ∷ 11 ∷ 0 ∷ []))
    ∷ []

-- records of the kinds 4 to 9 and 11 on the order 1 of 201
abbrev on_it : List Record
on_it = schedule 1 15 ∷ permit 1 ∷ unexecuted 1 ∷ read 1 15 ∷ cancel 1 201 ∷ reply reply_accept 1 ∷ reply reply_reject 1 ∷ redate 1 15 1 ∷ []

abbrev takes : ℕ → ℕ → ℕ → List ℕ → Case
takes kind for status answers = asked plain (holding kind for status) on_it answers

abbrev in_review_takes : ℕ → List ℕ
in_review_takes redated = 0 ∷ 14 ∷ 0 ∷ 14 ∷ 0 ∷ 14 ∷ 14 ∷ redated ∷ []

abbrev scheduled_takes : ℕ → List ℕ
scheduled_takes redated = 14 ∷ 14 ∷ 0 ∷ 0 ∷ 0 ∷ 14 ∷ 14 ∷ redated ∷ []

abbrev cancel_pending_takes : List ℕ
cancel_pending_takes = 0 ∷ 14 ∷ 0 ∷ 14 ∷ 14 ∷ 0 ∷ 0 ∷ 14 ∷ []

abbrev closed_takes : List ℕ
closed_takes = replicate 8 14

unfoldable pub statuses : List Piece
statuses =
    piece "14: a move in In Review" (takes move_in no_day in_review (0 ∷ 0 ∷ 0 ∷ 14 ∷ 0 ∷ 14 ∷ 14 ∷ 0 ∷ []))
    ∷ piece "14: a move in Permit Pending" (takes move_in no_day permit_pending (0 ∷ 14 ∷ 0 ∷ 0 ∷ 0 ∷ 14 ∷ 14 ∷ 14 ∷ []))
    ∷ piece "14: a move in Scheduled" (takes move_in 15 scheduled (scheduled_takes 0))
    ∷ piece "14: a move in Cancel Pending" (takes move_in no_day cancel_pending cancel_pending_takes)
    ∷ piece "14: a move in Complete" (takes move_in 15 complete closed_takes)
    ∷ piece "14: a move in Cancelled" (takes move_in no_day cancelled closed_takes)
    ∷ piece "14: a move in Unexecutable" (takes move_in no_day unexecutable closed_takes)
    ∷ piece "14: a move out In Review" (takes move_out no_day in_review (in_review_takes 0))
    ∷ piece "14: a standard switch In Review" (takes standard_switch no_day in_review (in_review_takes 14))
    ∷ piece "14: a self-selected switch In Review" (takes self_selected_switch no_day in_review (in_review_takes 14))
    ∷ piece "14: a drop In Review" (takes mass_transition_drop no_day in_review (in_review_takes 14))
    ∷ piece "14: a move out Scheduled" (takes move_out 15 scheduled (scheduled_takes 0))
    ∷ piece "14: a standard switch Scheduled" (takes standard_switch 15 scheduled (scheduled_takes 14))
    ∷ piece "14: a self-selected switch Scheduled" (takes self_selected_switch 15 scheduled (scheduled_takes 14))
    ∷ piece "14: a drop Scheduled" (takes mass_transition_drop 15 scheduled (scheduled_takes 14))
    ∷ piece "14: a move out Cancel Pending" (takes move_out 15 cancel_pending cancel_pending_takes)
    ∷ piece "14: a standard switch Cancel Pending" (takes standard_switch 15 cancel_pending cancel_pending_takes)
    ∷ piece "14: a self-selected switch Cancel Pending" (takes self_selected_switch 15 cancel_pending cancel_pending_takes)
    ∷ piece "14: a drop Cancel Pending" (takes mass_transition_drop 15 cancel_pending cancel_pending_takes)
    ∷ []

-- T 300 and a file with no order: row 9 on both its sides
abbrev limits_of : ℕ → List ℕ → Case
limits_of kind answers =
    asked (business 301) (state 300 101 5 []) (order kind 390 1 202 ∷ order kind 30 1 202 ∷ order kind 391 1 202 ∷ order kind 29 1 202 ∷ [])
    answers

-- a retire beside an order in a status
abbrev retires : ℕ → ℕ → Case
retires status answer = asked plain (holding move_in 15 status) (retire ∷ []) (answer ∷ [])

unfoldable pub premises : List Piece
premises =
    piece "4: each of the kinds 2 to 9, 11 and 12, and no other" (asked plain (nothing 10)
    (create 0 101 ∷ retire ∷ order move_in 12 1 201 ∷ on_it ++ (establishes 900 ∷ deletes 900 ∷ mark 11 ∷ []))
    (0 ∷ replicate 12 4 ++ (0 ∷ [])))
    ∷ piece "4 before 9, 10 and 15" (asked [] (nothing 4095)
    (order move_in 12 1 201 ∷ order standard_switch 0 1 201 ∷ mark 4095 ∷ []) (4 ∷ 4 ∷ 15 ∷ []))
    ∷ piece "5: a create of a premise with a file, and no other kind" (asked plain (holding move_in no_day in_review)
    (create 0 101 ∷ order move_in 12 2 201 ∷ schedule 1 15 ∷ establishes 900 ∷ mark 11 ∷ []) (5 ∷ 0 ∷ 0 ∷ 0 ∷ 0 ∷ []))
    ∷ piece "7: In Review" (retires in_review 7)
    ∷ piece "7: Permit Pending" (retires permit_pending 7)
    ∷ piece "7: Scheduled" (retires scheduled 7)
    ∷ piece "7: Cancel Pending" (retires cancel_pending 7)
    ∷ piece "7: not Complete" (retires complete 0)
    ∷ piece "7: not Cancelled" (retires cancelled 0)
    ∷ piece "7: not Unexecutable" (retires unexecutable 0)
    ∷ piece "7: an open order that is not the oldest" (asked plain
    (state 10 101 5 (stands 1 move_in 201 3 4 complete 4 0 1 ∷ stands 2 move_in 201 3 no_day in_review 4 0 1 ∷ [])) (retire ∷ []) (7 ∷ []))
    ∷ piece "15: the day after T alone" (asked plain (holding move_in no_day in_review) (mark 0 ∷ mark 10 ∷ mark 11 ∷ mark 12 ∷ [])
    (15 ∷ 15 ∷ 0 ∷ 15 ∷ []))
    ∷ piece "15: on the last day" (asked (business 1) (nothing 4095) (mark 0 ∷ mark 4095 ∷ []) (15 ∷ 15 ∷ []))
    ∷ []

unfoldable pub day_limits : List Piece
day_limits =
    piece "9: a move out" (limits_of move_out (0 ∷ 0 ∷ 9 ∷ 9 ∷ []))
    ∷ piece "9: a self-selected switch" (limits_of self_selected_switch (0 ∷ 0 ∷ 9 ∷ 9 ∷ []))
    ∷ piece "9: not a drop" (limits_of mass_transition_drop (0 ∷ 0 ∷ 0 ∷ 0 ∷ []))
    ∷ piece "9: not a standard switch with a late switch date" (asked (replicate 92 2 ++ (0 ∷ [])) (state 0 101 0 [])
    (order standard_switch 0 1 202 ∷ []) (0 ∷ []))
    ∷ piece "10: a standard switch alone, on the last day" (asked (business 1) (state 4095 101 5 [])
    (order move_in 4095 1 202 ∷ order move_out 4095 1 202 ∷ order standard_switch 0 1 202 ∷ order self_selected_switch 4095 1 202
    ∷ order mass_transition_drop 4095 1 202 ∷ [])
    (0 ∷ 0 ∷ 10 ∷ 0 ∷ 0 ∷ []))
    ∷ []

-- eight orders of 201 by status, references 1 to 8; the last is a move in Scheduled for 12 or, for the row 9, for a day that is too late
abbrev eight : ℕ → ℕ → ℕ → List Order
eight kind status for =
    map (λ (reference : ℕ). stands reference mass_transition_drop 201 3 no_day status 4 0 1) (1 ∷ 2 ∷ 3 ∷ 4 ∷ 5 ∷ 6 ∷ 7 ∷ [])
    ++ (stands 8 kind 201 3 for scheduled 4 0 1 ∷ [])

unfoldable pub stacks : List Piece
stacks =
    piece "8: an open order, and no other reference" (asked plain (holding move_in no_day in_review)
    (order move_out 12 1 202 ∷ order move_out 12 2 202 ∷ []) (8 ∷ 0 ∷ []))
    ∷ piece "8: a closed order" (asked plain (holding move_in no_day cancelled) (order move_out 12 1 202 ∷ []) (8 ∷ []))
    ∷ piece "8: a closed order that would make room" (asked plain (state 10 101 5 (eight move_in cancelled 12))
    (order move_out 12 1 202 ∷ order move_out 12 9 202 ∷ []) (8 ∷ 0 ∷ []))
    ∷ piece "12: eight open; 8, 9 and 11 come before it" (asked plain (state 10 101 5 (eight move_in in_review 101))
    (order move_in 11 9 202 ∷ order move_in 11 8 202 ∷ order move_in 101 9 202 ∷ order move_in 101 8 202
    ∷ order mass_transition_drop 5 9 202 ∷ [])
    (12 ∷ 8 ∷ 9 ∷ 8 ∷ 12 ∷ []))
    ∷ piece "11 before 12, 8 before 11" (asked plain (state 10 101 5 (eight move_in in_review 12))
    (order move_in 12 9 202 ∷ order move_in 12 8 202 ∷ order move_out 12 9 202 ∷ []) (11 ∷ 8 ∷ 12 ∷ []))
    ∷ piece "10 before 12, 8 before 10" (asked (business 1) (state 4095 101 5 (eight standard_switch in_review 4095))
    (order standard_switch 0 9 202 ∷ order standard_switch 0 8 202 ∷ order move_in 4000 9 202 ∷ []) (10 ∷ 8 ∷ 12 ∷ []))
    ∷ piece "12: not with seven open and one closed" (asked plain
    (state 10 101 5 (stands 9 move_in 201 3 4 complete 4 0 1 ∷ map (λ (reference : ℕ). stands reference move_out 201 3 no_day in_review 4 0 1)
    (1 ∷ 2 ∷ 3 ∷ 4 ∷ 5 ∷ 6 ∷ 7 ∷ [])))
    (order move_out 12 10 202 ∷ []) (0 ∷ []))
    ∷ piece "13: another reference, on each of the kinds 4 to 9 and 11" (asked plain
    (state 10 101 5 (stands 2 move_in 201 3 no_day in_review 4 0 1 ∷ []))
    on_it (replicate 8 13))
    ∷ piece "13: without an order" (asked plain (state 10 101 5 []) on_it (replicate 8 13))
    ∷ piece "13: a cancel of another retailer, and before 14" (asked plain (holding move_in 15 complete) (cancel 1 202 ∷ cancel 1 201 ∷ [])
    (13 ∷ 14 ∷ []))
    ∷ piece "13: the other retailer's order is not taken" (asked plain
    (state 10 101 5 (stands 1 move_in 201 3 no_day in_review 4 0 1 ∷ stands 2 move_in 202 3 no_day in_review 4 0 1 ∷ []))
    (cancel 1 202 ∷ cancel 2 202 ∷ cancel 2 101 ∷ []) (13 ∷ 0 ∷ 13 ∷ []))
    ∷ piece "a tape of refusals" (answered plain (nothing 10)
    (order move_in 12 1 202 ∷ create 0 101 ∷ create 0 101 ∷ order move_in 12 1 202 ∷ order move_out 14 1 202 ∷ retire
    ∷ schedule 2 12 ∷ cancel 1 203 ∷ mark 10 ∷ mark 12 ∷ mark 11 ∷ unexecuted 1 ∷ cancel 1 203 ∷ retire ∷ retire ∷ [])
    (4 ∷ 0 ∷ 5 ∷ 0 ∷ 8 ∷ 7 ∷ 13 ∷ 13 ∷ 15 ∷ 15 ∷ 0 ∷ 0 ∷ 13 ∷ 0 ∷ 4 ∷ []))
    ∷ []

-- ---- document 02, change 12
-- four orders of 202, open in each status and with drops among them; the status of the last
abbrev four : ℕ → List Order
four status =
    stands 11 move_in 202 13 no_day permit_pending 1 0 0 ∷ stands 12 self_selected_switch 202 13 15 scheduled 1 0 0
    ∷ stands 13 mass_transition_drop 202 13 no_day cancel_pending 1 0 0 ∷ stands 14 move_out 202 13 15 status 1 0 0
    ∷ []

-- four move ins of 202, the first of them Scheduled for 30
abbrev move_ins : List Order
move_ins =
    stands 1 move_in 202 13 30 scheduled 1 0 0
    ∷ map (λ (reference : ℕ). stands reference move_in 202 (reference + 12) no_day in_review 1 0 0) (2 ∷ 3 ∷ 4 ∷ [])

unfoldable pub shares : List Piece
shares =
    piece "26: a fifth of each kind" (asked plain (state 10 101 5 (four in_review)) news (replicate 5 26))
    ∷ piece "26: not with three open and one closed" (asked plain (state 10 101 5 (four complete)) news all_taken)
    ∷ piece "26: 8, 9 and 11 come before it, and another retailer is let in" (asked plain (state 10 101 5 move_ins)
    (order move_in 40 1 202 ∷ order move_in 101 9 202 ∷ order move_in 30 9 202 ∷ order move_in 40 9 202 ∷ order move_in 40 9 203 ∷ [])
    (8 ∷ 9 ∷ 11 ∷ 26 ∷ 0 ∷ []))
    ∷ piece "26: 10 comes before it" (asked (business 1) (state 4095 101 5 move_ins) (order standard_switch 0 9 202 ∷ []) (10 ∷ []))
    ∷ piece "26: until a cancel is accepted" (answered plain (state 10 101 5 move_ins)
    (cancel 2 202 ∷ order move_in 40 10 202 ∷ reply reply_accept 2 ∷ order move_in 40 10 202 ∷ []) (0 ∷ 26 ∷ 0 ∷ 0 ∷ []))
    ∷ piece "26: five or more open, in a book that was handed in" (asked plain
    (state 10 101 5 (move_ins ++ (stands 5 move_out 202 13 no_day in_review 1 0 0 ∷ []))) (order move_in 40 9 202 ∷ []) (26 ∷ []))
    ∷ []
