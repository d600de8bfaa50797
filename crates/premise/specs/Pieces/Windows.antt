-- Document 02, change 2: a window for each premise. T is 10 and every day a business day.
use Rattle.std.specs.Prelude.{ℕ, List, [], ◌∷◌, map}
use Rattle.std.specs.Prelude.{Some}
use Rattle.records.specs.declared.Record.{Record}
use Rattle.records.specs.declared.Notice.{Notice}
use Rattle.records.specs.Notices.{tdsp}
use Rattle.records.specs.Records.{move_in, move_out, self_selected_switch, mass_transition_drop}
use Rattle.premise.specs.Orders.{scheduled, complete, with_agreement}
use Rattle.premise.specs.Passes.{code_scheduled, code_losing, code_cancel, code_agreement_move_in}
use Rattle.premise.specs.Pieces.Forms.{Case, Piece, piece, asked, tells, leaves, create_wide, order, schedule, read, redate, mark}
use Rattle.premise.specs.Pieces.Forms.{marks, business, establishes, stands, file, with_window, entered_file, state_wide, nothing, sent}

-- the file that a create with a detail makes
abbrev creates : ℕ → ℕ → Case
creates detail width = leaves (business 20) (nothing 10) (create_wide detail 0 101 ∷ []) (state_wide width 10 101 0 [])

-- a switch to 202, scheduled for 15, and then marks up to a day: what the last record tells
abbrev tells_of : ℕ → List Record → List Notice → Case
tells_of detail later notices =
    tells (business 20) (nothing 10) (create_wide detail 0 101 ∷ order self_selected_switch 50 1 202 ∷ schedule 1 15 ∷ later) notices

abbrev said : Notice
said = sent code_scheduled self_selected_switch 15 1 202

abbrev loses : Notice
loses = sent code_losing self_selected_switch 15 1 101

-- date changes of move ins that are scheduled for 11, 12, 13, 15 and 16
abbrev redates_of : ℕ → List ℕ → Case
redates_of width answers =
    asked (business 20)
    (state_wide width 10 101 0
    (stands 1 move_in 202 40 11 scheduled 1 0 1 ∷ stands 2 move_in 203 40 12 scheduled 1 0 1 ∷ stands 3 move_in 204 40 13 scheduled 1 0 1
    ∷ stands 4 move_in 205 40 15 scheduled 1 0 1 ∷ stands 5 move_in 206 40 16 scheduled 1 0 1 ∷ []))
    (map (λ (reference : ℕ). redate reference 50 1) (1 ∷ 2 ∷ 3 ∷ 4 ∷ 5 ∷ [])) answers

-- two switches, told, and a drop, all scheduled for 15, and a move out of 101 that is new: what its evaluation tells besides notice 2
abbrev meet : ℕ → List Notice → Case
meet width notices =
    tells (business 20)
    (state_wide width 10 101 0
    (stands 1 self_selected_switch 202 15 15 scheduled 1 0 1 ∷ stands 2 self_selected_switch 203 15 15 scheduled 1 0 1
    ∷ stands 3 mass_transition_drop 204 15 15 scheduled 1 0 1 ∷ []))
    (order move_out 12 9 101 ∷ []) (sent 2 move_out 12 9 tdsp ∷ notices)

unfoldable pub windows : List Piece
windows =
    piece "a create's detail 0 means 2" (creates 0 2)
    ∷ piece "a create's detail 1" (creates 1 1)
    ∷ piece "a create's detail 5" (creates 5 5)
    ∷ piece "a window of 4 stays, whatever the record" (leaves (business 20) (state_wide 4 10 101 0 [])
    (establishes 900 ∷ order move_in 10 1 202 ∷ schedule 1 10 ∷ read 1 10 ∷ mark 11 ∷ [])
    (record {
      today = 11;
      file = Some (with_window 4 (entered_file (with_agreement (file 202 10 (stands 1 move_in 202 10 10 complete 1 0 1 ∷ [])) 900)));
    }))
    ∷ piece "window 5: told at once" (tells_of 5 [] (said ∷ loses ∷ []))
    ∷ piece "window 4: told with mark 11" (tells_of 4 (marks 1 11) (loses ∷ []))
    ∷ piece "window 4: not before" (tells_of 4 [] (said ∷ []))
    ∷ piece "window 2: told with mark 13" (tells_of 2 (marks 3 11) (loses ∷ []))
    ∷ piece "detail 0: told with mark 13" (tells_of 0 (marks 3 11) (loses ∷ []))
    ∷ piece "detail 0: not before" (tells_of 0 (marks 2 11) [])
    ∷ piece "window 1: told with mark 14" (tells_of 1 (marks 4 11) (loses ∷ []))
    ∷ piece "window 1: not before" (tells_of 1 (marks 3 11) [])
    ∷ piece "17 by a window of 1" (redates_of 1 (17 ∷ 0 ∷ 0 ∷ 0 ∷ 0 ∷ []))
    ∷ piece "17 by a window of 2" (redates_of 2 (17 ∷ 17 ∷ 0 ∷ 0 ∷ 0 ∷ []))
    ∷ piece "17 by a window of 5" (redates_of 5 (17 ∷ 17 ∷ 17 ∷ 17 ∷ 0 ∷ []))
    ∷ piece "passes 1 and 2 by a window of 5" (meet 5
    (sent code_cancel self_selected_switch 15 2 tdsp ∷ sent code_cancel self_selected_switch 15 2 203
    ∷ sent code_cancel mass_transition_drop 15 3 tdsp ∷ sent code_cancel mass_transition_drop 15 3 101 ∷ []))
    ∷ piece "passes 1 and 2 by a window of 2" (meet 2 [])
    ∷ piece "notice 12 by a window of 5" (tells (business 20) (nothing 10)
    (create_wide 5 0 101 ∷ establishes 900 ∷ order move_out 15 1 101 ∷ schedule 1 15 ∷ [])
    (sent code_scheduled move_out 15 1 101 ∷ sent code_agreement_move_in move_out 15 1 900 ∷ []))
    ∷ []
