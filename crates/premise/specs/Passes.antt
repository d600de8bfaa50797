-- What is done to an order, to a file's orders one after another, and to a file: what is there afterwards, and the notices.
use Rattle.std.specs.Prelude.{ℕ, suc, List, [], ◌∷◌, ◌++◌, cond, ◌||◌, eqb, leb}
use Rattle.records.specs.declared.Notice.{Notice}
use Rattle.records.specs.Notices.{tdsp}
use Rattle.premise.specs.declared.Order.{Order}
use Rattle.premise.specs.declared.File.{File}
use Rattle.premise.specs.Orders.{as_cancelled, with_orders}

-- The notice codes: 1 814_03, 2 814_24, 3 814_05 or 814_25, 4 814_06, 5 814_08, 6 814_28 permit, 7 814_28 unexecutable, 8 814_09 reject;
-- of document 02 9 814_12 (change 1), 10 814_18, 11 814_19 and 12 814_22 (change 3).
abbrev pub code_order : ℕ
code_order = 1

abbrev pub code_move_out : ℕ
code_move_out = 2

abbrev pub code_scheduled : ℕ
code_scheduled = 3

abbrev pub code_losing : ℕ
code_losing = 4

abbrev pub code_cancel : ℕ
code_cancel = 5

abbrev pub code_permit : ℕ
code_permit = 6

abbrev pub code_unexecutable : ℕ
code_unexecutable = 7

abbrev pub code_reject : ℕ
code_reject = 8

abbrev pub code_date_change : ℕ
code_date_change = 9

abbrev pub code_agreement_request : ℕ
code_agreement_request = 10

abbrev pub code_agreement_response : ℕ
code_agreement_response = 11

abbrev pub code_agreement_move_in : ℕ
code_agreement_move_in = 12

-- A notice's day: RD in codes 1 and 2 and otherwise SD. Document 02, change 1: "In notice 9 the day is the new RD."
abbrev pub day_in : ℕ → Order → ℕ
day_in code o = cond (leb code code_move_out || eqb code code_date_change) o.requested o.scheduled

-- a notice on an order, which stands as the step left it
abbrev pub notice : ℕ → ℕ → ℕ → Order → Notice
notice code premise addressee o =
    record { code = code; kind = o.kind; day = day_in code o; reference = o.reference; premise = premise; addressee = addressee }

-- Document 02, change 3, of notices 10 and 11: "In both notices detail, day and F are 0."
abbrev pub notice_of_no_order : ℕ → ℕ → ℕ → Notice
notice_of_no_order code premise addressee = record { code = code; kind = 0; day = 0; reference = 0; premise = premise; addressee = addressee }

-- one order afterwards, and its notices
pub record Change : Type 0 where
  pub order : Order
  pub notices : List Notice

-- an order that stays as it is
abbrev pub same : Order → Change
same o = record { order = o; notices = [] }

-- an order that is Cancelled, W 0, with notice 5 to the TDSP, then to an addressee
abbrev pub cancelling : ℕ → ℕ → Order → Change
cancelling premise addressee o =
    record {
      order = as_cancelled o;
      notices = notice code_cancel premise tdsp (as_cancelled o) ∷ notice code_cancel premise addressee (as_cancelled o) ∷ [];
    }

-- a file's orders afterwards, and the notices
pub record Outcome : Type 0 where
  pub orders : List Order
  pub notices : List Notice

-- a file afterwards, and the notices
pub record Effect : Type 0 where
  pub file : File
  pub notices : List Notice

-- each order, oldest first, by a step that may go by the order's place
abbrev pub pass_from : (ℕ → Order → Change) → ℕ → List Order → Outcome
pass_from step i [] = record { orders = []; notices = [] }
pass_from step i (o ∷ os) =
    record { orders = (step i o).order ∷ (pass_from step (suc i) os).orders; notices = (step i o).notices ++ (pass_from step (suc i) os).notices }

abbrev pub pass : (ℕ → Order → Change) → List Order → Outcome
pass step os = pass_from step 0 os

-- one after another: the second sees what the first left
abbrev pub and_then : Outcome → (List Order → Outcome) → Outcome
and_then first next = record { orders = (next first.orders).orders; notices = first.notices ++ (next first.orders).notices }

-- a file whose orders something is done to
abbrev pub on_file : File → Outcome → Effect
on_file f done = record { file = with_orders f done.orders; notices = done.notices }
