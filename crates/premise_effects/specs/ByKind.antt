-- The parts of the steps of kinds 4 to 9 that functions of their own do.
use Rattle.std.specs.Prelude.{ℕ, ◌≡◌, [], ◌∷◌, Bool, cond, not, ◌&&◌, eqb}
use Rattle.days.specs.Days.{is_day}
use Rattle.records.specs.declared.Record.{Record}
use Rattle.records.specs.Notices.{tdsp}
use Rattle.records.specs.Records.{kind_scheduled, kind_permit, kind_unexecutable, kind_cancel, reply_accept}
use Rattle.premise.specs.declared.Order.{Order}
use Rattle.premise.specs.declared.File.{File}
use Rattle.premise.specs.Orders.{in_review, scheduled, complete, cancelled, has_status, no_retailer, with_status, with_scheduled}
use Rattle.premise.specs.Passes.{Change, code_scheduled, code_cancel, code_permit, code_unexecutable, code_reject, notice}
use Rattle.premise.specs.Steps.{is, on_order}

-- an order as it is left, and two notices on it of one code
abbrev pub telling_both : ℕ → ℕ → ℕ → ℕ → Order → Change
telling_both code premise first second o = record { order = o; notices = notice code premise first o ∷ notice code premise second o ∷ [] }

-- the order as a record leaves it, whatever its file is
abbrev pub LeftBy : Record → Order → Order → Type 0
LeftBy r o t = (f : File) → t ≡ (on_order f r o).order

-- 6 unexecutable: if told and R is not 0, then also to R; for a move out, C.
abbrev pub hears_too : ℕ → Record → Order → Bool
hears_too retailer r o = is kind_unexecutable r && eqb o.told 1 && not (eqb retailer no_retailer)

-- 7 meter read. From 3: Complete, SD the day. From 2: In Review.
abbrev pub as_read : Record → Order → Order
as_read r o = cond (has_status scheduled o) (with_scheduled r.day (with_status complete o)) (with_status in_review o)

-- 9. Accept: Cancelled. Reject: Scheduled if SD is a day, else In Review.
abbrev pub replied_status : ℕ → ℕ → ℕ
replied_status detail day = cond (eqb detail reply_accept) cancelled (cond (is_day day) scheduled in_review)

-- the code of a record's notice, by its kind and its detail
abbrev pub code_of : ℕ → ℕ → ℕ
code_of kind detail =
    cond (eqb kind kind_scheduled) code_scheduled
    (cond (eqb kind kind_permit) code_permit
    (cond (eqb kind kind_unexecutable) code_unexecutable
    (cond (eqb kind kind_cancel) code_cancel
    (cond (eqb detail reply_accept) code_cancel code_reject))))

-- and whom it goes to
abbrev pub addressee_of : ℕ → ℕ → ℕ
addressee_of kind retailer = cond (eqb kind kind_cancel) tdsp retailer
