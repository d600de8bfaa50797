-- Document 02, change 7: thirteen-digit retailers. T is 10 and every day a business day.
use Rattle.std.specs.Prelude.{ℕ, List, [], ◌∷◌}
use Rattle.days.specs.Days.{no_day}
use Rattle.records.specs.declared.Notice.{Notice}
use Rattle.records.specs.Notices.{tdsp}
use Rattle.records.specs.Records.{move_in, move_out, self_selected_switch}
use Rattle.premise.specs.declared.Order.{Order}
use Rattle.premise.specs.Orders.{in_review, scheduled, cancel_pending, complete}
use Rattle.premise.specs.Passes.{code_order, code_scheduled, code_losing, code_cancel, code_agreement_request, code_agreement_response}
use Rattle.premise.specs.Passes.{code_agreement_move_in}
use Rattle.premise.specs.Pieces.Forms.{Piece, piece, asked, plays, does, line, create, order, schedule, read, cancel, establishes}
use Rattle.premise.specs.Pieces.Forms.{deletes, business, stands, state, state_with, nothing, sent}

-- the last retailer, and one of a four-digit suffix
abbrev last : ℕ
last = 9999999999999

abbrev suffixed : ℕ
suffixed = 1000000000123

-- a retailer that agrees with 1 in its low 32 bits
abbrev alike : ℕ
alike = 4294967297

-- a switch on 11 to a retailer, reference 1, and its notices
abbrev switch_to : ℕ → ℕ → ℕ → ℕ → Order
switch_to retailer for status told = stands 1 self_selected_switch retailer 11 for status 1 0 told

abbrev tells : ℕ → ℕ → Notice
tells code addressee = sent code self_selected_switch 11 1 addressee

-- four open orders of a retailer
abbrev four_of : ℕ → List Order
four_of retailer =
    stands 1 move_in retailer 13 no_day in_review 1 0 0 ∷ stands 2 move_in retailer 14 no_day in_review 1 0 0
    ∷ stands 3 move_out retailer 13 no_day in_review 1 0 0 ∷ stands 4 move_out retailer 14 no_day in_review 1 0 0
    ∷ []

unfoldable pub long_retailers : List Piece
long_retailers =
    piece "a switch between two long retailers, told to both; a cancel by another, and by its own" (plays (business 16) (nothing 10)
    (create 0 last ∷ order self_selected_switch 11 1 suffixed ∷ schedule 1 11 ∷ cancel 1 1000000000 ∷ cancel 1 suffixed ∷ [])
    (line 0 [] ∷ line 0 (tells code_order tdsp ∷ []) ∷ line 0 (tells code_scheduled suffixed ∷ tells code_losing last ∷ []) ∷ line 13 []
    ∷ line 0 (tells code_cancel tdsp ∷ []) ∷ [])
    (state 10 last 0 (switch_to suffixed 11 cancel_pending 1 ∷ [])))
    ∷ piece "read, a long retailer supplies" (does (business 16) (state 10 101 5 (switch_to suffixed 11 scheduled 1 ∷ [])) (read 1 11) []
    (state 10 suffixed 11 (switch_to suffixed 11 complete 1 ∷ [])))
    ∷ piece "an agreement with a long retailer, replaced, and deleted" (plays (business 16) (nothing 10)
    (create 0 101 ∷ establishes last ∷ establishes suffixed ∷ deletes last ∷ deletes suffixed ∷ [])
    (line 0 [] ∷ line 0 (sent code_agreement_response 0 0 0 last ∷ [])
    ∷ line 0 (sent code_agreement_request 0 0 0 last ∷ sent code_agreement_response 0 0 0 suffixed ∷ []) ∷ line 18 []
    ∷ line 0 (sent code_agreement_response 0 0 0 suffixed ∷ []) ∷ [])
    (state 10 101 0 []))
    ∷ piece "a move out told to a long C, which then supplies" (plays (business 16)
    (state_with last 10 101 5 (stands 1 move_out 101 11 no_day in_review 1 0 0 ∷ [])) (schedule 1 11 ∷ read 1 11 ∷ [])
    (line 0 (sent code_scheduled move_out 11 1 101 ∷ sent code_agreement_move_in move_out 11 1 last ∷ []) ∷ line 0 [] ∷ [])
    (state_with last 10 last 11 (stands 1 move_out 101 11 11 complete 1 0 1 ∷ [])))
    ∷ piece "13: a retailer that agrees with Q in 32 bits" (asked (business 16) (state 10 101 5 (switch_to alike no_day in_review 0 ∷ []))
    (cancel 1 1 ∷ cancel 1 alike ∷ []) (13 ∷ 0 ∷ []))
    ∷ piece "18: a retailer that agrees with C in 32 bits" (asked (business 16) (state_with alike 10 101 5 [])
    (deletes 1 ∷ deletes alike ∷ []) (18 ∷ 0 ∷ []))
    ∷ piece "26: two retailers that agree in 32 bits have a share each" (asked (business 16) (state 10 101 5 (four_of 1))
    (order move_in 15 9 1 ∷ order move_in 15 9 alike ∷ []) (26 ∷ 0 ∷ []))
    ∷ piece "pass 4: R agrees with Q in 32 bits, and is told" (does (business 16) (state 10 1 5 (switch_to alike no_day in_review 0 ∷ []))
    (schedule 1 11) (tells code_scheduled alike ∷ tells code_losing 1 ∷ []) (state 10 1 5 (switch_to alike 11 scheduled 1 ∷ [])))
    ∷ piece "12: the earlier holder agrees with the new one in 32 bits, and hears of it" (does (business 16) (state_with 1 10 101 5 [])
    (establishes alike) (sent code_agreement_request 0 0 0 1 ∷ sent code_agreement_response 0 0 0 alike ∷ []) (state_with alike 10 101 5 []))
    ∷ []
