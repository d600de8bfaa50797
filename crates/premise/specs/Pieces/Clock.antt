-- Document 01, "Clock": each of its counts on both sides. Each piece hands in T 9 and plays the mark of day 10, a business day unless said.
use Rattle.std.specs.Prelude.{ℕ, List, [], ◌∷◌, map}
use Rattle.days.specs.Days.{no_day}
use Rattle.records.specs.declared.Notice.{Notice}
use Rattle.records.specs.Notices.{tdsp}
use Rattle.records.specs.Records.{move_in, move_out, standard_switch, self_selected_switch, mass_transition_drop}
use Rattle.premise.specs.declared.Order.{Order}
use Rattle.premise.specs.Orders.{in_review, permit_pending, scheduled, cancel_pending, complete, cancelled, unexecutable}
use Rattle.premise.specs.Passes.{code_losing, code_cancel}
use Rattle.premise.specs.Pieces.Forms.{Case, Piece, piece, does, sent, nothing, state, stands, plain, with10, mark}

-- the mark of day 10 on some orders: the kind of that day, the notices, the orders afterwards
abbrev marked : ℕ → List Order → List Notice → List Order → Case
marked kind os notices after = does (with10 kind) (state 9 101 5 os) (mark 10) notices (state 10 101 5 after)

-- a move in of 202 by RD, status, N and W; SD is none, and R was told
abbrev waiting : ℕ → ℕ → ℕ → ℕ → Order
waiting requested status waited pending = stands 1 move_in 202 requested no_day status waited pending 1

-- the mark on such an order that goes on waiting: the kind of day, RD, status, N before and after
abbrev waits : ℕ → ℕ → ℕ → ℕ → ℕ → Case
waits kind requested status before after = marked kind (waiting requested status before 0 ∷ []) [] (waiting requested status after 0 ∷ [])

-- the mark that ends its wait: Cancel Pending, W 0, notice 5 to the TDSP
abbrev ends : ℕ → ℕ → ℕ → ℕ → ℕ → Case
ends kind requested status before after =
    marked kind (waiting requested status before 0 ∷ []) (sent code_cancel move_in no_day 1 tdsp ∷ [])
    (waiting requested cancel_pending after 0 ∷ [])

unfoldable pub reviews_end : List Piece
reviews_end =
    piece "In Review, N 19 before RD" (waits 0 15 in_review 18 19)
    ∷ piece "In Review, N 20 before RD" (ends 0 15 in_review 19 20)
    ∷ piece "In Review, N 20 before RD on another day" (ends 1 15 in_review 20 20)
    ∷ piece "In Review, N 21 stays" (ends 0 15 in_review 21 21)
    ∷ piece "In Review, N 2 on RD" (waits 0 10 in_review 1 2)
    ∷ piece "In Review, N 3 on RD" (ends 0 10 in_review 2 3)
    ∷ piece "In Review, N 3 after RD" (ends 0 4 in_review 2 3)
    ∷ piece "In Review, N 3 before RD" (waits 0 11 in_review 2 3)
    ∷ piece "In Review, N 3 on RD, another day on which switches start" (ends 1 10 in_review 3 3)
    ∷ piece "In Review, N 2 on RD, a Sunday" (waits 2 10 in_review 2 2)
    ∷ piece "In Review, N 2 on RD, another day on which switches start" (waits 1 10 in_review 2 2)
    ∷ []

unfoldable pub permits_end : List Piece
permits_end =
    piece "Permit Pending, N 20 after RD" (waits 0 4 permit_pending 19 20)
    ∷ piece "Permit Pending, N 21 on RD" (ends 0 10 permit_pending 20 21)
    ∷ piece "Permit Pending, N 20 before RD" (waits 0 11 permit_pending 20 20)
    ∷ piece "Permit Pending, N 20 on a Sunday" (waits 2 4 permit_pending 20 20)
    ∷ piece "Permit Pending, N 20 on another day on which switches start" (waits 1 4 permit_pending 20 20)
    ∷ piece "Permit Pending, N 21 already, on a Sunday" (ends 2 4 permit_pending 21 21)
    ∷ piece "Permit Pending, N 21 already, before RD" (ends 0 15 permit_pending 21 21)
    ∷ piece "Permit Pending, N 21 already, on RD" (ends 0 10 permit_pending 21 21)
    ∷ []

-- a Cancel Pending order of 202 with a day, by K and W; the same Cancelled
abbrev pends : ℕ → ℕ → Order
pends kind pending = stands kind kind 202 12 15 cancel_pending 4 pending 1

abbrev pended : ℕ → Order
pended kind = stands kind kind 202 12 15 cancelled 4 0 1

-- an order in review by K; the same Cancel Pending
abbrev reviewed : ℕ → Order
reviewed kind = stands kind kind 202 15 no_day in_review 19 0 0

abbrev ended : ℕ → Order
ended kind = stands kind kind 202 15 no_day cancel_pending 20 0 0

abbrev kinds : List ℕ
kinds = move_in ∷ move_out ∷ standard_switch ∷ self_selected_switch ∷ mass_transition_drop ∷ []

-- orders that no clock touches
abbrev still : List Order
still =
    stands 1 move_in 202 4 15 scheduled 19 0 0
    ∷ stands 2 move_in 202 4 9 complete 19 0 0
    ∷ stands 3 move_in 202 4 no_day cancelled 19 0 0
    ∷ stands 4 move_in 202 4 no_day unexecutable 19 0 0
    ∷ []

unfoldable pub cancels_end : List Piece
cancels_end =
    piece "Cancel Pending, W 6" (marked 0 (pends move_out 5 ∷ []) [] (pends move_out 6 ∷ []))
    ∷ piece "Cancel Pending, W 1 on a Sunday" (marked 2 (pends move_out 0 ∷ []) [] (pends move_out 1 ∷ []))
    ∷ piece "Cancel Pending, W 7 on a Sunday, every K" (marked 2 (map (λ (kind : ℕ). pends kind 6) kinds)
    (sent code_cancel 1 15 1 tdsp ∷ sent code_cancel 1 15 1 202 ∷ sent code_cancel 2 15 2 tdsp ∷ sent code_cancel 2 15 2 202
    ∷ sent code_cancel 3 15 3 tdsp ∷ sent code_cancel 3 15 3 202 ∷ sent code_cancel 4 15 4 tdsp ∷ sent code_cancel 4 15 4 202
    ∷ sent code_cancel 5 15 5 tdsp ∷ sent code_cancel 5 15 5 202 ∷ [])
    (map pended kinds))
    ∷ piece "In Review, N 20, every K" (marked 0 (map reviewed kinds)
    (sent code_cancel 1 no_day 1 tdsp ∷ sent code_cancel 2 no_day 2 tdsp ∷ sent code_cancel 3 no_day 3 tdsp ∷ sent code_cancel 4 no_day 4 tdsp
    ∷ sent code_cancel 5 no_day 5 tdsp ∷ [])
    (map ended kinds))
    ∷ piece "Scheduled and closed orders stay" (marked 0 still [] still)
    ∷ piece "the clock, then the evaluation, both by the new T" (marked 0
    (stands 1 self_selected_switch 202 12 12 scheduled 4 0 0 ∷ stands 2 move_in 203 10 no_day in_review 2 0 0 ∷ [])
    (sent code_cancel move_in no_day 2 tdsp ∷ sent code_losing self_selected_switch 12 1 101 ∷ [])
    (stands 1 self_selected_switch 202 12 12 scheduled 4 0 1 ∷ stands 2 move_in 203 10 no_day cancel_pending 3 0 0 ∷ []))
    ∷ piece "the evaluation sees what the clock left" (marked 0
    (stands 1 self_selected_switch 202 12 12 cancel_pending 4 6 0 ∷ stands 2 self_selected_switch 203 12 12 cancel_pending 4 0 0 ∷ [])
    (sent code_cancel self_selected_switch 12 1 tdsp ∷ sent code_cancel self_selected_switch 12 1 202 ∷ [])
    (stands 1 self_selected_switch 202 12 12 cancelled 4 0 0 ∷ stands 2 self_selected_switch 203 12 12 cancel_pending 4 1 0 ∷ []))
    ∷ piece "a mark without a file" (does plain (nothing 9) (mark 10) [] (nothing 10))
    ∷ []
