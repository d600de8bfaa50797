-- Document 01, "The book": well kept, with a case on each side of every range; and the numbers of statuses, codes, kinds and answers.
use Rattle.std.specs.Prelude.{ℕ, List, [], ◌∷◌, ◌++◌, map, replicate}
use Rattle.days.specs.Days.{no_day}
use Rattle.records.specs.Notices.{tdsp}
use Rattle.records.specs.Records.{kind_create, kind_retire, kind_new_order, kind_scheduled, kind_permit, kind_unexecutable, kind_read, kind_cancel}
use Rattle.records.specs.Records.{kind_reply, kind_day_mark, kind_date_change, kind_agreement, establish, delete, move_in, move_out, standard_switch}
use Rattle.records.specs.Records.{self_selected_switch, mass_transition_drop}
use Rattle.records.specs.Records.{reply_accept, reply_reject}
use Rattle.premise.specs.declared.Order.{Order}
use Rattle.premise.specs.declared.File.{File}
use Rattle.std.specs.Prelude.{Ok, Err}
use Rattle.premise.specs.declared.Refusal.TheVariants.{ShortBuffer, NotWellKept, MalformedRecord, NoSuchPremise, OtherAgreement, PremiseHeld}
use Rattle.premise.specs.declared.Refusal.TheVariants.{BookFull, OrderOpen, ReferenceHeld, DayOutOfRange, NoSwitchDate, NotFirstIn}
use Rattle.premise.specs.declared.Refusal.TheVariants.{RetailerShareFull, StackFull, NoSuchOrder, StatusNotTaken, CounterNotAbove, OrderInWindow}
use Rattle.premise.specs.declared.Refusal.TheVariants.{NotNextDay}
use Rattle.premise.specs.Orders.{in_review, permit_pending, scheduled, cancel_pending, complete, cancelled, unexecutable, no_retailer}
use Rattle.premise.specs.Orders.{blank_file, with_supply, with_agreement}
use Rattle.premise.specs.Passes.{code_order, code_move_out, code_scheduled, code_losing, code_cancel, code_permit, code_unexecutable}
use Rattle.premise.specs.Passes.{code_reject, code_date_change, code_agreement_request, code_agreement_response, code_agreement_move_in}
use Rattle.premise.specs.Refusals.{number}
use Rattle.premise.specs.OnePremise.{start_state}
use Rattle.premise.specs.Pieces.Forms.{Piece, piece, keeps, damaged, keeps_files, damaged_files, unused_files, used_files, numbered}
use Rattle.premise.specs.Pieces.Forms.{leaves, plain, nothing, stands, counted, zeros, file, entered_file, with_window}

-- an order by its SD and status, else in range; with a W
abbrev in_status : ℕ → ℕ → Order
in_status status for = stands 1 move_in 201 3 for status 4 0 0

abbrev pending : ℕ → ℕ → Order
pending status days = stands 1 move_in 201 3 12 status 4 days 0

-- by K, status
abbrev of_kind : ℕ → ℕ → Order
of_kind status kind = stands 1 kind 201 3 no_day status 4 0 0

-- SD on both sides of a day, none, and what is neither
abbrev some_days : List ℕ
some_days = 0 ∷ 4095 ∷ []

unfoldable pub kept_orders : List Piece
kept_orders =
    piece "well kept: F is not 0, and any other number of 32 bits"
    (keeps (stands 1 move_in 201 3 no_day in_review 4 0 0 ∷ stands 4294967295 move_in 201 3 no_day in_review 4 0 0 ∷ []))
    ∷ piece "not well kept: F 0" (damaged (stands 0 move_in 201 3 no_day in_review 4 0 0 ∷ []))
    ∷ piece "well kept: K 1 to 5"
    (keeps (map (of_kind in_review) (move_in ∷ move_out ∷ standard_switch ∷ self_selected_switch ∷ mass_transition_drop ∷ [])))
    ∷ piece "not well kept: K 0, 6" (damaged (of_kind in_review 0 ∷ of_kind in_review 6 ∷ []))
    ∷ piece "well kept: Q from 1 to 9,999,999,999,999"
    (keeps (stands 1 move_in 1 3 no_day in_review 4 0 0 ∷ stands 1 move_in 9999999999999 3 no_day in_review 4 0 0 ∷ []))
    ∷ piece "not well kept: Q 0, 10,000,000,000,000"
    (damaged (stands 1 move_in 0 3 no_day in_review 4 0 0 ∷ stands 1 move_in 10000000000000 3 no_day in_review 4 0 0 ∷ []))
    ∷ piece "well kept: RD 0 to 4,095"
    (keeps (stands 1 move_in 201 0 no_day in_review 4 0 0 ∷ stands 1 move_in 201 4095 no_day in_review 4 0 0 ∷ []))
    ∷ piece "not well kept: RD none" (damaged (stands 1 move_in 201 no_day no_day in_review 4 0 0 ∷ []))
    ∷ piece "well kept: SD none In Review and Permit Pending" (keeps (in_status in_review no_day ∷ in_status permit_pending no_day ∷ []))
    ∷ piece "not well kept: a day In Review" (damaged (map (in_status in_review) (0 ∷ 12 ∷ 4095 ∷ 4097 ∷ [])))
    ∷ piece "not well kept: a day Permit Pending" (damaged (map (in_status permit_pending) (0 ∷ 12 ∷ 4095 ∷ 4097 ∷ [])))
    ∷ piece "well kept: a day Scheduled and Complete" (keeps (map (in_status scheduled) some_days ++ map (in_status complete) some_days))
    ∷ piece "not well kept: no day Scheduled" (damaged (map (in_status scheduled) (no_day ∷ 4097 ∷ [])))
    ∷ piece "not well kept: no day Complete" (damaged (map (in_status complete) (no_day ∷ 4097 ∷ [])))
    ∷ piece "well kept: a day or none Cancel Pending, Cancelled and Unexecutable"
    (keeps (map (in_status cancel_pending) (0 ∷ 4095 ∷ no_day ∷ []) ++ map (in_status cancelled) (0 ∷ 4095 ∷ no_day ∷ [])
    ++ map (in_status unexecutable) (0 ∷ 4095 ∷ no_day ∷ [])))
    ∷ piece "not well kept: SD 4,097" (damaged (in_status cancel_pending 4097 ∷ in_status cancelled 4097 ∷ in_status unexecutable 4097 ∷ []))
    ∷ piece "not well kept: status 0, 8" (damaged (in_status 0 no_day ∷ in_status 8 no_day ∷ in_status 0 12 ∷ in_status 8 12 ∷ []))
    ∷ piece "not well kept: Permit Pending, not a move in"
    (damaged (map (of_kind permit_pending) (move_out ∷ standard_switch ∷ self_selected_switch ∷ mass_transition_drop ∷ [])))
    ∷ piece "well kept: N 0 to 21"
    (keeps (stands 1 move_in 201 3 no_day in_review 0 0 0 ∷ stands 1 move_in 201 3 no_day in_review 21 0 0
    ∷ stands 1 move_in 201 3 12 complete 21 0 0 ∷ []))
    ∷ piece "not well kept: N 22"
    (damaged (stands 1 move_in 201 3 no_day in_review 22 0 0 ∷ stands 1 move_in 201 3 12 scheduled 22 0 0 ∷ []))
    ∷ piece "well kept: W 0 to 6 Cancel Pending" (keeps (pending cancel_pending 0 ∷ pending cancel_pending 6 ∷ []))
    ∷ piece "not well kept: W 7 Cancel Pending" (damaged (pending cancel_pending 7 ∷ []))
    ∷ piece "not well kept: W 1 in another status"
    (damaged (stands 1 move_in 201 3 no_day in_review 4 1 0 ∷ stands 1 move_in 201 3 no_day permit_pending 4 1 0 ∷ pending scheduled 1
    ∷ pending complete 1 ∷ pending cancelled 1 ∷ pending unexecutable 1 ∷ []))
    ∷ piece "well kept: told 0, 1"
    (keeps (stands 1 move_in 201 3 12 scheduled 4 0 0 ∷ stands 1 move_in 201 3 12 scheduled 4 0 1
    ∷ stands 1 move_out 201 3 no_day in_review 4 0 1 ∷ []))
    ∷ piece "not well kept: told 2" (damaged (stands 1 move_in 201 3 12 scheduled 4 0 2 ∷ []))
    ∷ piece "well kept: any counter of 32 bits, whatever K and status"
    (keeps (counted 1 (in_status in_review no_day) ∷ counted 4294967295 (in_status complete 12) ∷ counted 4294967295
    (of_kind cancelled standard_switch)
    ∷ []))
    ∷ piece "not well kept: a counter of 4,294,967,296" (damaged (counted 4294967296 (in_status in_review no_day) ∷ []))
    ∷ []

-- a file of window 2 with its other fields one by one
abbrev file_of : ℕ → ℕ → ℕ → ℕ → List Order → File
file_of premise retailer since count orders =
    record { premise = premise; retailer = retailer; since = since; window = 2; agreement = 0; entered = 0; count = count; orders = orders }

-- an unused place of the book but for some fields
abbrev unused_of : ℕ → ℕ → ℕ → ℕ → List Order → File
unused_of premise retailer since count orders = with_window 0 (file_of premise retailer since count orders)

-- an order in range with its reference and status
abbrev referred : ℕ → ℕ → Order
referred reference status = stands reference move_in 201 3 12 status 4 0 0

abbrev eight : List Order
eight = map (λ (reference : ℕ). referred reference scheduled) (1 ∷ 2 ∷ 3 ∷ 4 ∷ 5 ∷ 6 ∷ 7 ∷ 8 ∷ [])

-- a file with one order and this in the place behind it, or in the last place
abbrev behind : Order → File
behind o = file_of 7 101 5 1 (referred 1 scheduled ∷ o ∷ replicate 6 zeros)

abbrev in_last : Order → File
in_last o = file_of 7 101 5 1 (referred 1 scheduled ∷ replicate 6 zeros ++ (o ∷ []))

-- a place that is zero but for one field
abbrev almost : List Order
almost =
    stands 1 0 0 0 0 0 0 0 0
    ∷ stands 0 1 0 0 0 0 0 0 0
    ∷ stands 0 0 1 0 0 0 0 0 0
    ∷ stands 0 0 0 1 0 0 0 0 0
    ∷ stands 0 0 0 0 1 0 0 0 0
    ∷ stands 0 0 0 0 0 1 0 0 0
    ∷ stands 0 0 0 0 0 0 1 0 0
    ∷ stands 0 0 0 0 0 0 0 1 0
    ∷ stands 0 0 0 0 0 0 0 0 1
    ∷ counted 1 zeros
    ∷ []

unfoldable pub kept_files : List Piece
kept_files =
    piece "well kept: P is not 0, and any other number of 64 bits"
    (keeps_files (file_of 1 101 5 0 (replicate 8 zeros) ∷ file_of 18446744073709551615 101 5 0 (replicate 8 zeros) ∷ []))
    ∷ piece "not well kept: P 0" (damaged_files (file_of 0 101 5 0 (replicate 8 zeros) ∷ []))
    ∷ piece "well kept: R from 0 to 9,999,999,999,999" (keeps_files (file 0 5 [] ∷ file 9999999999999 5 [] ∷ []))
    ∷ piece "not well kept: R 10,000,000,000,000" (damaged_files (file 10000000000000 5 [] ∷ []))
    ∷ piece "well kept: S 0 to 4,095" (keeps_files (file 101 0 [] ∷ file 101 4095 [] ∷ []))
    ∷ piece "not well kept: S none" (damaged_files (file 101 no_day [] ∷ []))
    ∷ piece "well kept: a window of 1 to 5"
    (keeps_files (map (λ (width : ℕ). with_window width (file 101 5 [])) (1 ∷ 2 ∷ 3 ∷ 4 ∷ 5 ∷ [])))
    ∷ piece "not well kept: a window of 0, 6" (damaged_files (with_window 0 (file 101 5 []) ∷ with_window 6 (file 101 5 []) ∷ []))
    ∷ piece "well kept: C from 0 to 9,999,999,999,999"
    (keeps_files (with_agreement (file 101 5 []) 1 ∷ with_agreement (file 0 5 []) 9999999999999 ∷ []))
    ∷ piece "not well kept: C 10,000,000,000,000" (damaged_files (with_agreement (file 101 5 []) 10000000000000 ∷ []))
    ∷ piece "well kept: the mark of a move in, 0 or 1" (keeps_files
    (file 101 5 [] ∷ entered_file (file 101 5 []) ∷ entered_file (file 0 5 []) ∷ []))
    ∷ piece "not well kept: a mark of 2" (damaged_files (with_supply (file 101 5 []) 101 5 2 ∷ []))
    ∷ piece "well kept: 1 and 8 orders" (keeps_files (file 101 5 (referred 1 scheduled ∷ []) ∷ file 101 5 eight ∷ []))
    ∷ piece "not well kept: 9 orders, 7 or 9 places"
    (damaged_files (file_of 7 101 5 9 eight ∷ file_of 7 101 5 9 (eight ++ (referred 9 scheduled ∷ [])) ∷ file_of 7 101 5 0 (replicate 7 zeros)
    ∷ file_of 7 101 5 0 (replicate 9 zeros) ∷ []))
    ∷ piece "not well kept: an order out of range"
    (damaged_files (file 101 5 (referred 0 scheduled ∷ referred 2 scheduled ∷ []) ∷ file 101 5 (referred 1 scheduled ∷ referred 2 8 ∷ [])
    ∷ file 101 5 (zeros ∷ []) ∷ []))
    ∷ piece "not well kept: one reference twice"
    (damaged_files (file 101 5 (referred 1 scheduled ∷ referred 1 scheduled ∷ [])
    ∷ file 101 5 (referred 1 scheduled ∷ referred 2 scheduled ∷ referred 1 complete ∷ [])
    ∷ file 101 5 (referred 3 scheduled ∷ referred 2 cancelled ∷ referred 2 unexecutable ∷ []) ∷ []))
    ∷ piece "well kept: one reference behind the other, in any order"
    (keeps_files (file 101 5 (referred 2 scheduled ∷ referred 1 scheduled ∷ referred 3 cancelled ∷ []) ∷ []))
    ∷ piece "well kept: the places behind the orders are zero" (keeps_files (behind zeros ∷ []))
    ∷ piece "not well kept: a field of an unused place" (damaged_files (map behind almost ++ map in_last almost))
    ∷ piece "not well kept: an order behind the count" (damaged_files (behind (referred 2 scheduled) ∷ []))
    ∷ piece "unused: every field zero" (unused_files (unused_of 0 0 0 0 (replicate 8 zeros) ∷ blank_file ∷ []))
    ∷ piece "not unused: a field that is not zero"
    (used_files (with_window 1 (unused_of 0 0 0 0 (replicate 8 zeros)) ∷ unused_of 1 0 0 0 (replicate 8 zeros) ∷ unused_of 0 1 0 0
    (replicate 8 zeros) ∷ unused_of 0 0 1 0 (replicate 8 zeros)
    ∷ with_agreement (unused_of 0 0 0 0 (replicate 8 zeros)) 1 ∷ entered_file (unused_of 0 0 0 0 (replicate 8 zeros))
    ∷ unused_of 0 0 0 1 (replicate 8 zeros) ∷ unused_of 0 0 0 0 (replicate 7 zeros)
    ∷ map (λ (o : Order). unused_of 0 0 0 0 (replicate 7 zeros ++ (o ∷ []))) almost))
    ∷ []

unfoldable pub numbers : List Piece
numbers =
    piece "statuses 1 to 7"
    (numbered (in_review ∷ permit_pending ∷ scheduled ∷ cancel_pending ∷ complete ∷ cancelled ∷ unexecutable ∷ [])
    (1 ∷ 2 ∷ 3 ∷ 4 ∷ 5 ∷ 6 ∷ 7 ∷ []))
    ∷ piece "codes 1 to 12"
    (numbered (code_order ∷ code_move_out ∷ code_scheduled ∷ code_losing ∷ code_cancel ∷ code_permit ∷ code_unexecutable ∷ code_reject
    ∷ code_date_change ∷ code_agreement_request ∷ code_agreement_response ∷ code_agreement_move_in ∷ [])
    (1 ∷ 2 ∷ 3 ∷ 4 ∷ 5 ∷ 6 ∷ 7 ∷ 8 ∷ 9 ∷ 10 ∷ 11 ∷ 12 ∷ []))
    ∷ piece "record kinds 1 to 12; establish 1, delete 2"
    (numbered (kind_create ∷ kind_retire ∷ kind_new_order ∷ kind_scheduled ∷ kind_permit ∷ kind_unexecutable ∷ kind_read ∷ kind_cancel ∷ kind_reply
    ∷ kind_day_mark ∷ kind_date_change ∷ kind_agreement ∷ establish ∷ delete ∷ [])
    (1 ∷ 2 ∷ 3 ∷ 4 ∷ 5 ∷ 6 ∷ 7 ∷ 8 ∷ 9 ∷ 10 ∷ 11 ∷ 12 ∷ 1 ∷ 2 ∷ []))
    ∷ piece "order kinds 1 to 5; accept 1, reject 2; the TDSP and no retailer 0; no day 4,096"
    (numbered (move_in ∷ move_out ∷ standard_switch ∷ self_selected_switch ∷ mass_transition_drop ∷ reply_accept ∷ reply_reject ∷ tdsp ∷ no_retailer
    ∷ no_day ∷ [])
    (1 ∷ 2 ∷ 3 ∷ 4 ∷ 5 ∷ 1 ∷ 2 ∷ 0 ∷ 0 ∷ 4096 ∷ []))
    ∷ piece "answers 0 to 18 and 26"
    (numbered (number (Ok tt) ∷ number (Err ShortBuffer) ∷ number (Err NotWellKept) ∷ number (Err MalformedRecord) ∷ number (Err NoSuchPremise)
    ∷ number (Err PremiseHeld) ∷ number (Err BookFull) ∷ number (Err OrderOpen) ∷ number (Err ReferenceHeld) ∷ number (Err DayOutOfRange) ∷ number (Err NoSwitchDate)
    ∷ number (Err NotFirstIn) ∷ number (Err StackFull) ∷ number (Err NoSuchOrder) ∷ number (Err StatusNotTaken) ∷ number (Err NotNextDay)
    ∷ number (Err CounterNotAbove) ∷ number (Err OrderInWindow) ∷ number (Err OtherAgreement) ∷ number (Err RetailerShareFull) ∷ [])
    (0 ∷ 1 ∷ 2 ∷ 3 ∷ 4 ∷ 5 ∷ 6 ∷ 7 ∷ 8 ∷ 9 ∷ 10 ∷ 11 ∷ 12 ∷ 13 ∷ 14 ∷ 15 ∷ 16 ∷ 17 ∷ 18 ∷ 26 ∷ []))
    ∷ piece "they start with the start day and no file" (leaves plain (start_state 10) [] (nothing 10))
    ∷ piece "they start at 4,095 if it is above" (numbered ((start_state 4095).today ∷ (start_state 4096).today ∷ []) (4095 ∷ 4095 ∷ []))
    ∷ []
