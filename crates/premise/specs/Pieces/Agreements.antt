-- Document 02, change 3: landlords' service agreements. T is 10 and every day a business day unless said.
use Rattle.std.specs.Prelude.{ℕ, List, [], ◌∷◌, ◌++◌}
use Rattle.days.specs.Days.{no_day}
use Rattle.records.specs.declared.Record.{Record}
use Rattle.records.specs.declared.Notice.{Notice}
use Rattle.records.specs.Notices.{tdsp}
use Rattle.records.specs.Records.{move_in, move_out}
use Rattle.premise.specs.declared.Order.{Order}
use Rattle.premise.specs.Orders.{in_review, scheduled, complete, unexecutable}
use Rattle.premise.specs.Passes.{code_order, code_move_out, code_scheduled, code_losing, code_unexecutable, code_date_change}
use Rattle.premise.specs.Passes.{code_agreement_request, code_agreement_response, code_agreement_move_in}
use Rattle.premise.specs.Pieces.Forms.{Case, Piece, piece, tells, leaves, plays, does, line, create, retire, order, schedule}
use Rattle.premise.specs.Pieces.Forms.{unexecuted, read, cancel, redate, establishes, deletes, marks, business, stands, counted}
use Rattle.premise.specs.Pieces.Forms.{state}
use Rattle.premise.specs.Pieces.Forms.{state_with, nothing, sent}

-- ---- kind 12 and row 18
-- its notices have neither an order nor a day
abbrev asks_of : ℕ → Notice
asks_of retailer = sent code_agreement_request 0 0 0 retailer

abbrev answers : ℕ → Notice
answers retailer = sent code_agreement_response 0 0 0 retailer

unfoldable pub agreements : List Piece
agreements =
    piece "12: established, again, replaced, deleted; 4 and 18" (plays (business 16) (nothing 10)
    (establishes 900 ∷ create 0 101 ∷ deletes 900 ∷ establishes 900 ∷ establishes 900 ∷ establishes 901 ∷ deletes 900 ∷ deletes 901
    ∷ deletes 901 ∷ [])
    (line 4 [] ∷ line 0 [] ∷ line 18 [] ∷ line 0 (answers 900 ∷ []) ∷ line 0 (answers 900 ∷ []) ∷ line 0 (asks_of 900 ∷ answers 901 ∷ [])
    ∷ line 18 [] ∷ line 0 (answers 901 ∷ []) ∷ line 18 [] ∷ [])
    (state 10 101 0 []))
    ∷ piece "12: C is the retailer named" (leaves (business 16) (nothing 10) (create 0 101 ∷ establishes 900 ∷ establishes 901 ∷ [])
    (state_with 901 10 101 0 []))
    ∷ piece "12 leaves the file's orders, R and S" (does (business 16)
    (state_with 900 10 101 5 (stands 1 move_in 202 12 no_day in_review 4 0 0 ∷ stands 2 move_out 101 12 12 scheduled 4 0 0 ∷ [])) (deletes 900)
    (answers 900 ∷ [])
    (state 10 101 5 (stands 1 move_in 202 12 no_day in_review 4 0 0 ∷ stands 2 move_out 101 12 12 scheduled 4 0 0 ∷ [])))
    ∷ piece "12: C goes with the file" (plays (business 16) (state_with 900 10 101 8 (stands 1 move_out 101 5 5 scheduled 1 0 1 ∷ []))
    (read 1 5 ∷ retire ∷ create 0 101 ∷ deletes 900 ∷ []) (line 0 [] ∷ line 0 [] ∷ line 0 [] ∷ line 18 [] ∷ []) (state 10 101 0 []))
    ∷ []

-- ---- a move out of 101, told to C
-- its notices: by its reference and SD, to an addressee
abbrev move_out_scheduled : ℕ → ℕ → Notice
move_out_scheduled reference day = sent code_scheduled move_out day reference 101

abbrev moves_in : ℕ → ℕ → ℕ → Notice
moves_in reference day retailer = sent code_agreement_move_in move_out day reference retailer

abbrev given_up : ℕ → ℕ → ℕ → Notice
given_up reference day addressee = sent code_unexecutable move_out day reference addressee

-- a Scheduled move out by its Q, SD and told
abbrev leaving : ℕ → ℕ → ℕ → Order
leaving submitter day told = stands 1 move_out submitter 12 day scheduled 4 0 told

-- an evaluation by a new order of 205: R, C, a Scheduled order before it; what it tells besides notice 1; the order afterwards
abbrev evaluates : ℕ → ℕ → Order → List Notice → Order → Case
evaluates retailer agreement o notices after =
    does (business 16) (state_with agreement 10 retailer 5 (o ∷ [])) (order move_in 15 2 205) (sent code_order move_in 15 2 tdsp ∷ notices)
    (state_with agreement 10 retailer 5 (after ∷ stands 2 move_in 205 15 no_day in_review 1 0 0 ∷ []))

-- told of a Scheduled order of 202 and then unexecutable: R, C, K and told; whom notice 7 goes to besides Q
abbrev gives_up : ℕ → ℕ → ℕ → ℕ → List Notice → Case
gives_up retailer agreement kind told notices =
    tells (business 16) (state_with agreement 10 retailer 5 (stands 1 kind 202 12 15 scheduled 4 0 told ∷ [])) (unexecuted 1 ∷ [])
    (sent code_unexecutable kind 15 1 202 ∷ notices)

unfoldable pub agreements_told : List Piece
agreements_told =
    piece "pass 4: a move out in window, C told" (evaluates 101 900 (leaving 101 12 0) (moves_in 1 12 900 ∷ []) (leaving 101 12 1))
    ∷ piece "pass 4: C is R" (evaluates 101 101 (leaving 202 12 0) (moves_in 1 12 101 ∷ []) (leaving 202 12 1))
    ∷ piece "pass 4: C is Q" (evaluates 101 202 (leaving 202 12 0) (moves_in 1 12 202 ∷ []) (leaving 202 12 1))
    ∷ piece "pass 4: R is 0" (evaluates 0 900 (leaving 101 12 0) (moves_in 1 12 900 ∷ []) (leaving 101 12 1))
    ∷ piece "pass 4: without an agreement a move out is not told" (evaluates 101 0 (leaving 101 12 0) [] (leaving 101 12 0))
    ∷ piece "pass 4: a move out out of window" (evaluates 101 900 (leaving 101 13 0) [] (leaving 101 13 0))
    ∷ piece "pass 4: a move out that was told" (evaluates 101 900 (leaving 101 12 1) [] (leaving 101 12 1))
    ∷ piece "pass 4: oldest first, a move out between two move ins" (tells (business 20)
    (state_with 900 13 101 0 (stands 1 move_in 202 16 16 scheduled 1 0 0 ∷ stands 2 move_out 101 16 16 scheduled 1 0 0
    ∷ stands 3 move_in 203 16 16 scheduled 1 0 0 ∷ [])) (marks 1 14)
    (sent code_losing move_in 16 1 101 ∷ moves_in 2 16 900 ∷ sent code_losing move_in 16 3 101 ∷ []))
    ∷ piece "6: a told move out, C and R" (gives_up 101 900 move_out 1 (given_up 1 15 900 ∷ []))
    ∷ piece "6: a told move out, C and no R" (gives_up 0 900 move_out 1 (given_up 1 15 900 ∷ []))
    ∷ piece "6: a told move out, R and no C" (gives_up 101 0 move_out 1 [])
    ∷ piece "6: a move out that was not told" (gives_up 101 900 move_out 0 [])
    ∷ piece "6: a told move in, R and C" (gives_up 101 900 move_in 1 (sent code_unexecutable move_in 15 1 101 ∷ []))
    ∷ piece "6: a told move in, C and no R" (gives_up 0 900 move_in 1 [])
    ∷ piece "7: a move out read on a day not before S: R is C" (does (business 16) (state_with 900 10 101 5 (leaving 101 12 1 ∷ []))
    (read 1 5)
    [] (state_with 900 10 900 5 (stands 1 move_out 101 12 5 complete 4 0 1 ∷ [])))
    ∷ piece "7: a move out read on a day before S: R stays" (does (business 16) (state_with 900 10 101 8 (leaving 101 12 1 ∷ [])) (read 1 7)
    [] (state_with 900 10 101 8 (stands 1 move_out 101 12 7 complete 4 0 1 ∷ [])))
    ∷ []

-- ---- line by line
-- a move out of 101, scheduled for 12 while nobody is told, and then an agreement with 900
abbrev silent : List Record
silent = order move_out 12 1 101 ∷ schedule 1 12 ∷ establishes 900 ∷ []

unfoldable pub agreements_on_tape : List Piece
agreements_on_tape =
    piece "a move out told on the day that brings it in window, unexecutable, and another read" (plays (business 20) (nothing 10)
    (create 0 101 ∷ establishes 900 ∷ order move_out 12 1 101 ∷ schedule 1 13 ∷ marks 1 11
    ++ (unexecuted 1 ∷ order move_out 12 2 101 ∷ schedule 2 12 ∷ read 2 12 ∷ []))
    (line 0 [] ∷ line 0 (answers 900 ∷ []) ∷ line 0 (sent code_move_out move_out 12 1 tdsp ∷ []) ∷ line 0 (move_out_scheduled 1 13 ∷ [])
    ∷ line 0 (moves_in 1 13 900 ∷ []) ∷ line 0 (given_up 1 13 101 ∷ given_up 1 13 900 ∷ [])
    ∷ line 0 (sent code_move_out move_out 12 2 tdsp ∷ []) ∷ line 0 (move_out_scheduled 2 12 ∷ moves_in 2 12 900 ∷ []) ∷ line 0 []
    ∷ [])
    (state_with 900 11 900 12 (stands 1 move_out 101 12 13 unexecutable 1 0 1 ∷ stands 2 move_out 101 12 12 complete 1 0 1 ∷ [])))
    ∷ piece "an agreement runs no evaluation; the next record of the file does" (plays (business 20) (nothing 10)
    (create 0 101 ∷ silent ++ (order move_in 60 2 202 ∷ []))
    (line 0 [] ∷ line 0 (sent code_move_out move_out 12 1 tdsp ∷ []) ∷ line 0 (move_out_scheduled 1 12 ∷ []) ∷ line 0 (answers 900 ∷ [])
    ∷ line 0 (sent code_order move_in 60 2 tdsp ∷ moves_in 1 12 900 ∷ []) ∷ [])
    (state_with 900 10 101 0 (stands 1 move_out 101 12 12 scheduled 1 0 1 ∷ stands 2 move_in 202 60 no_day in_review 1 0 0 ∷ [])))
    ∷ piece "the same by the next mark" (tells (business 20) (nothing 10) (create 0 101 ∷ silent ++ marks 1 11) (moves_in 1 12 900 ∷ []))
    ∷ piece "the same by a date change of another order" (tells (business 20) (nothing 10)
    (create 0 101 ∷ order move_in 60 2 202 ∷ silent ++ (redate 2 61 1 ∷ []))
    (sent code_date_change move_in 61 2 tdsp ∷ moves_in 1 12 900 ∷ []))
    ∷ piece "C as it is when a told move out is unexecutable" (plays (business 20) (nothing 10)
    (create 0 0 ∷ establishes 900 ∷ order move_out 12 1 101 ∷ schedule 1 12 ∷ establishes 901 ∷ unexecuted 1 ∷ order move_out 12 2 101
    ∷ schedule 2 12 ∷ deletes 901 ∷ unexecuted 2 ∷ [])
    (line 0 [] ∷ line 0 (answers 900 ∷ []) ∷ line 0 (sent code_move_out move_out 12 1 tdsp ∷ [])
    ∷ line 0 (move_out_scheduled 1 12 ∷ moves_in 1 12 900 ∷ []) ∷ line 0 (asks_of 900 ∷ answers 901 ∷ [])
    ∷ line 0 (given_up 1 12 101 ∷ given_up 1 12 901 ∷ []) ∷ line 0 (sent code_move_out move_out 12 2 tdsp ∷ [])
    ∷ line 0 (move_out_scheduled 2 12 ∷ moves_in 2 12 901 ∷ []) ∷ line 0 (answers 901 ∷ []) ∷ line 0 (given_up 2 12 101 ∷ [])
    ∷ [])
    (state 10 0 0 (stands 1 move_out 101 12 12 unexecutable 1 0 1 ∷ stands 2 move_out 101 12 12 unexecutable 1 0 1 ∷ [])))
    ∷ piece "a told move out's date changes: C hears of it when it is in window again" (plays (business 31)
    (state_with 900 10 101 0 (leaving 101 12 1 ∷ [])) (cancel 1 101 ∷ schedule 1 30 ∷ redate 1 40 1 ∷ schedule 1 12 ∷ [])
    (line 0 (sent 5 move_out 12 1 tdsp ∷ []) ∷ line 0 (move_out_scheduled 1 30 ∷ []) ∷ line 0 (sent code_date_change move_out 40 1 tdsp ∷ [])
    ∷ line 0 (move_out_scheduled 1 12 ∷ moves_in 1 12 900 ∷ []) ∷ [])
    (state_with 900 10 101 0 (counted 1 (stands 1 move_out 101 40 12 scheduled 1 0 1) ∷ [])))
    ∷ []
