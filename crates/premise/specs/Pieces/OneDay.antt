-- Document 02, change 4: a move out and a move in read on one day. T is 10; scheduled days are out of window.
use Rattle.std.specs.Prelude.{ℕ, List, [], ◌∷◌}
use Rattle.days.specs.Days.{no_day}
use Rattle.records.specs.declared.Record.{Record}
use Rattle.records.specs.Records.{move_in, move_out, self_selected_switch, mass_transition_drop}
use Rattle.premise.specs.declared.Order.{Order}
use Rattle.premise.specs.Orders.{in_review, permit_pending, scheduled, complete}
use Rattle.premise.specs.OnePremise.{State}
use Rattle.premise.specs.Pieces.Forms.{Case, Piece, piece, leaves, create, read, plain, stands, state, state_with, state_entered}
use Rattle.premise.specs.Pieces.Forms.{nothing}

-- an order by its reference, K and Q that waits for its read; and read on a day
abbrev waiting : ℕ → ℕ → ℕ → Order
waiting reference kind submitter = stands reference kind submitter 12 15 scheduled 1 0 0

abbrev done : ℕ → ℕ → ℕ → ℕ → Order
done reference kind submitter day = stands reference kind submitter 12 day complete 1 0 0

-- the move in of 202, its reference 1, and move outs of 101
abbrev arrives : Order
arrives = waiting 1 move_in 202

abbrev arrived : Order
arrived = done 1 move_in 202 12

abbrev goes : ℕ → Order
goes reference = waiting reference move_out 101

abbrev gone : ℕ → ℕ → Order
gone reference day = done reference move_out 101 day

-- reads of orders, from R 101 since 0
abbrev ends : List Order → List Record → State → Case
ends os rs to = leaves plain (state 10 101 0 os) rs to

-- from R 202 since 12, by a create or by a move in of that day
abbrev permitted : Order
permitted = stands 3 move_in 203 12 no_day permit_pending 1 0 0

abbrev reviewed_again : Order
reviewed_again = stands 3 move_in 203 12 no_day in_review 1 0 0

unfoldable pub one_day : List Piece
one_day =
    piece "one day: the move out's read comes second and is held off" (ends (arrives ∷ goes 2 ∷ []) (read 1 12 ∷ read 2 12 ∷ [])
    (state_entered 0 10 202 12 (arrived ∷ gone 2 12 ∷ [])))
    ∷ piece "one day: the move in's read comes second" (ends (arrives ∷ goes 2 ∷ []) (read 2 12 ∷ read 1 12 ∷ [])
    (state_entered 0 10 202 12 (arrived ∷ gone 2 12 ∷ [])))
    ∷ piece "one day: every move out of the day is held off, one of a later day is not"
    (ends (arrives ∷ goes 2 ∷ goes 3 ∷ goes 4 ∷ []) (read 1 12 ∷ read 2 12 ∷ read 3 12 ∷ read 4 13 ∷ [])
    (state 10 0 13 (arrived ∷ gone 2 12 ∷ gone 3 12 ∷ gone 4 13 ∷ [])))
    ∷ piece "one day: with an agreement R stays too" (leaves plain (state_with 900 10 101 0 (arrives ∷ goes 2 ∷ []))
    (read 1 12 ∷ read 2 12 ∷ [])
    (state_entered 900 10 202 12 (arrived ∷ gone 2 12 ∷ [])))
    ∷ piece "one day: with an agreement, on a later day R is C"
    (leaves plain (state_with 900 10 101 0 (arrives ∷ goes 2 ∷ [])) (read 1 12 ∷ read 2 13 ∷ [])
    (state_with 900 10 900 13 (arrived ∷ gone 2 13 ∷ [])))
    ∷ piece "one day: a switch between them clears the mark" (ends (arrives ∷ goes 2 ∷ waiting 3 self_selected_switch 203 ∷ [])
    (read 1 12 ∷ read 3 12 ∷ []) (state 10 203 12 (arrived ∷ goes 2 ∷ done 3 self_selected_switch 203 12 ∷ [])))
    ∷ piece "one day: .. and so the move out sets R" (ends (arrives ∷ goes 2 ∷ waiting 3 self_selected_switch 203 ∷ [])
    (read 1 12 ∷ read 3 12 ∷ read 2 12 ∷ []) (state 10 0 12 (arrived ∷ gone 2 12 ∷ done 3 self_selected_switch 203 12 ∷ [])))
    ∷ piece "one day: a drop clears it" (ends (arrives ∷ waiting 3 mass_transition_drop 203 ∷ []) (read 1 12 ∷ read 3 12 ∷ [])
    (state 10 203 12 (arrived ∷ done 3 mass_transition_drop 203 12 ∷ [])))
    ∷ piece "one day: set though R was its retailer; a read before S and a permit's leave it" (leaves plain
    (state 10 202 12 (arrives ∷ goes 2 ∷ permitted ∷ waiting 4 self_selected_switch 204 ∷ []))
    (read 1 12 ∷ read 4 11 ∷ read 3 12 ∷ read 2 12 ∷ [])
    (state_entered 0 10 202 12 (arrived ∷ gone 2 12 ∷ reviewed_again ∷ done 4 self_selected_switch 204 11 ∷ [])))
    ∷ piece "one day: a move in before S and a permit's read set none" (leaves plain
    (state 10 202 12 (arrives ∷ goes 2 ∷ permitted ∷ [])) (read 1 11 ∷ read 3 12 ∷ [])
    (state 10 202 12 (done 1 move_in 202 11 ∷ goes 2 ∷ reviewed_again ∷ [])))
    ∷ piece "one day: a create on the day sets none" (leaves plain (nothing 10) (create 12 202 ∷ []) (state 10 202 12 []))
    ∷ piece "one day: .. and so a move out sets R" (leaves plain (state 10 202 12 (goes 2 ∷ [])) (read 2 12 ∷ [])
    (state 10 0 12 (gone 2 12 ∷ [])))
    ∷ []
