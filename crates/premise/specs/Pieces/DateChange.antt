-- Document 02, change 1: a date change, field by field, whom it tells, and its rows. T is 10 unless said.
use Rattle.std.specs.Prelude.{ℕ, List, [], ◌∷◌, ◌++◌}
use Rattle.days.specs.Days.{no_day}
use Rattle.records.specs.declared.Record.{Record}
use Rattle.records.specs.declared.Notice.{Notice}
use Rattle.records.specs.Notices.{tdsp}
use Rattle.records.specs.Records.{move_in, move_out, standard_switch, self_selected_switch, mass_transition_drop}
use Rattle.premise.specs.declared.Order.{Order}
use Rattle.premise.specs.Orders.{in_review, permit_pending, scheduled, cancel_pending, complete}
use Rattle.premise.specs.Passes.{code_order, code_scheduled, code_losing, code_cancel, code_date_change}
use Rattle.premise.specs.Pieces.Forms.{Case, Piece, piece, answered, asked, tells, plays, daily, does, line, create, order, schedule}
use Rattle.premise.specs.Pieces.Forms.{permit}
use Rattle.premise.specs.Pieces.Forms.{cancel, redate, mark, business, plain, with10, stands, counted, state, nothing, sent}

-- the older order: a move in, read on 4
abbrev older : Order
older = stands 1 move_in 301 3 4 complete 2 0 1

-- a date change to 25 of the order 2 of 202 that stands beside it: calendar, R, K, SD, status, W and told; its notices; N afterwards
abbrev moves : List ℕ → ℕ → ℕ → ℕ → ℕ → ℕ → ℕ → List Notice → ℕ → Case
moves calendar retailer kind for status pending told notices waited =
    does calendar (state 10 retailer 5 (older ∷ counted 3 (stands 2 kind 202 12 for status 4 pending told) ∷ [])) (redate 2 25 7) notices
    (state 10 retailer 5 (older ∷ counted 7 (stands 2 kind 202 25 no_day in_review waited pending 0) ∷ []))

-- its notice, with the new RD
abbrev moved_to : ℕ → ℕ → Notice
moved_to kind addressee = sent code_date_change kind 25 2 addressee

unfoldable pub redates : List Piece
redates =
    piece "11, a move in In Review" (moves plain 101 move_in no_day in_review 0 0 (moved_to move_in tdsp ∷ []) 1)
    ∷ piece "11, a move out In Review" (moves plain 101 move_out no_day in_review 0 0 (moved_to move_out tdsp ∷ []) 1)
    ∷ piece "11, a move in Scheduled, R not told; W stays" (moves plain 101 move_in 15 scheduled 2 0 (moved_to move_in tdsp ∷ []) 1)
    ∷ piece "11, a move in Scheduled, R told" (moves plain 101 move_in 15 scheduled 0 1 (moved_to move_in tdsp ∷ moved_to move_in 101 ∷ []) 1)
    ∷ piece "11, a move in In Review, R told" (moves plain 101 move_in no_day in_review 0 1 (moved_to move_in tdsp ∷ moved_to move_in 101 ∷ []) 1)
    ∷ piece "11, a move out Scheduled, told" (moves plain 101 move_out 15 scheduled 0 1 (moved_to move_out tdsp ∷ []) 1)
    ∷ piece "11, told and R 0" (moves plain 0 move_in 15 scheduled 0 1 (moved_to move_in tdsp ∷ []) 1)
    ∷ piece "11, told and R is Q" (moves plain 202 move_in 15 scheduled 0 1 (moved_to move_in tdsp ∷ moved_to move_in 202 ∷ []) 1)
    ∷ piece "11: N 0 on another day on which switches start" (moves (with10 1) 101 move_in 15 scheduled 0 0 (moved_to move_in tdsp ∷ []) 0)
    ∷ piece "11: N 0 on a Sunday" (moves (with10 2) 101 move_in no_day in_review 0 0 (moved_to move_in tdsp ∷ []) 0)
    ∷ piece "11, then the evaluation" (tells plain
    (state 10 101 5 (stands 1 self_selected_switch 301 3 12 scheduled 2 0 0 ∷ stands 2 move_in 202 12 no_day in_review 4 0 0 ∷ []))
    (redate 2 25 1 ∷ []) (moved_to move_in tdsp ∷ sent code_losing self_selected_switch 12 1 101 ∷ []))
    ∷ piece "11: N restarts, and the review ends by the new RD"
    (daily (business 60) 48 (create 0 101 ∷ order move_in 49 1 202 ∷ mark 49 ∷ redate 1 50 1 ∷ [])
    (in_review ∷ in_review ∷ cancel_pending ∷ []))
    ∷ []

-- a move in of 202 for 20, told while it is scheduled for 12, cancelled, and scheduled again for 30
abbrev told : ℕ → List Record
told retailer = create 0 retailer ∷ order move_in 20 1 202 ∷ schedule 1 12 ∷ cancel 1 202 ∷ schedule 1 30 ∷ []

abbrev to40 : Record
to40 = redate 1 40 1

abbrev on40 : ℕ → Notice
on40 addressee = sent code_date_change move_in 40 1 addressee

-- the notices of the order 1 when it is scheduled for a day
abbrev scheduled_for : ℕ → Notice
scheduled_for day = sent code_scheduled move_in day 1 202

-- in a tape that has a line for each record: a day is out of window up to 30
unfoldable pub redated_on_tape : List Piece
redated_on_tape =
    piece "11: the counter that is kept" (plays (business 31) (nothing 10)
    (create 0 101 ∷ order move_in 20 1 202 ∷ redate 1 25 5 ∷ redate 1 25 5 ∷ redate 1 25 4 ∷ schedule 1 30 ∷ redate 1 0 4294967295
    ∷ redate 1 0 4294967295 ∷ redate 2 0 1 ∷ [])
    (line 0 [] ∷ line 0 (sent code_order move_in 20 1 tdsp ∷ []) ∷ line 0 (sent code_date_change move_in 25 1 tdsp ∷ []) ∷ line 16 []
    ∷ line 16 [] ∷ line 0 (scheduled_for 30 ∷ []) ∷ line 0 (sent code_date_change move_in 0 1 tdsp ∷ []) ∷ line 16 [] ∷ line 13 []
    ∷ [])
    (state 10 101 0 (counted 4294967295 (stands 1 move_in 202 0 no_day in_review 1 0 0) ∷ [])))
    ∷ piece "11: told, cancelled, scheduled further off, and told again" (plays (business 31) (nothing 10)
    (create 0 101 ∷ order move_in 20 1 202 ∷ schedule 1 12 ∷ to40 ∷ cancel 1 202 ∷ to40 ∷ schedule 1 30 ∷ to40 ∷ schedule 1 12 ∷ [])
    (line 0 [] ∷ line 0 (sent code_order move_in 20 1 tdsp ∷ [])
    ∷ line 0 (scheduled_for 12 ∷ sent code_losing move_in 12 1 101 ∷ []) ∷ line 17 [] ∷ line 0 (sent code_cancel move_in 12 1 tdsp ∷ [])
    ∷ line 14 [] ∷ line 0 (scheduled_for 30 ∷ []) ∷ line 0 (on40 tdsp ∷ on40 101 ∷ [])
    ∷ line 0 (scheduled_for 12 ∷ sent code_losing move_in 12 1 101 ∷ []) ∷ [])
    (state 10 101 0 (counted 1 (stands 1 move_in 202 40 12 scheduled 1 0 1) ∷ [])))
    ∷ piece "11: the same where R is Q" (tells (business 31) (nothing 10) (told 202 ++ (to40 ∷ [])) (on40 tdsp ∷ on40 202 ∷ []))
    ∷ piece "11: the same where R is 0" (tells (business 31) (nothing 10) (told 0 ++ (to40 ∷ [])) (on40 tdsp ∷ []))
    ∷ []

-- an order 1 of 201 that keeps the counter 9, by K, SD and status; a date change of it with a lower counter, the same, a higher one, and
-- one of an order that is not held
abbrev dated : ℕ → ℕ → ℕ → List ℕ → Case
dated kind for status answers =
    asked plain (state 10 101 5 (counted 9 (stands 1 kind 201 3 for status 4 0 1) ∷ []))
    (redate 1 20 8 ∷ redate 1 20 9 ∷ redate 1 20 10 ∷ redate 2 20 10 ∷ []) answers

unfoldable pub redates_refused : List Piece
redates_refused =
    piece "13, 16: In Review" (dated move_in no_day in_review (16 ∷ 16 ∷ 0 ∷ 13 ∷ []))
    ∷ piece "13, 16: Scheduled, out of window" (dated move_out 13 scheduled (16 ∷ 16 ∷ 0 ∷ 13 ∷ []))
    ∷ piece "16 before 17: Scheduled, the last day in window" (dated move_in 12 scheduled (16 ∷ 16 ∷ 17 ∷ 13 ∷ []))
    ∷ piece "17: Scheduled for T" (dated move_out 10 scheduled (16 ∷ 16 ∷ 17 ∷ 13 ∷ []))
    ∷ piece "17: Scheduled for a day before T" (dated move_out 3 scheduled (16 ∷ 16 ∷ 17 ∷ 13 ∷ []))
    ∷ piece "14 before 16 and 17: Cancel Pending" (dated move_in 12 cancel_pending (14 ∷ 14 ∷ 14 ∷ 13 ∷ []))
    ∷ piece "14 before 16: Permit Pending" (dated move_in no_day permit_pending (14 ∷ 14 ∷ 14 ∷ 13 ∷ []))
    ∷ piece "14 before 16 and 17: a standard switch" (dated standard_switch 12 scheduled (14 ∷ 14 ∷ 14 ∷ 13 ∷ []))
    ∷ piece "14 before 16: a drop" (dated mass_transition_drop no_day in_review (14 ∷ 14 ∷ 14 ∷ 13 ∷ []))
    ∷ piece "neither 9 nor 11 on a date change" (answered (business 41) (nothing 10)
    (create 0 101 ∷ order move_in 40 1 202 ∷ schedule 1 40 ∷ order move_in 41 2 203 ∷ redate 2 40 1 ∷ redate 2 4000 2 ∷ [])
    (0 ∷ 0 ∷ 0 ∷ 0 ∷ 0 ∷ 0 ∷ []))
    ∷ piece "a permit that was asked for: 14" (answered plain (nothing 10)
    (create 0 101 ∷ order move_in 12 2 202 ∷ permit 2 ∷ redate 2 20 1 ∷ cancel 2 202 ∷ redate 2 20 1 ∷ []) (0 ∷ 0 ∷ 0 ∷ 14 ∷ 0 ∷ 14 ∷ []))
    ∷ []
