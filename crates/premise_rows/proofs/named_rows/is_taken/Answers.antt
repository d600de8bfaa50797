-- `is_taken` meets its contract: the arm of the record's kind decides `taken`.
use mathlib.Core.Path.{sym, ◌∙◌}
use Rattle.premise.proofs.Taken.{taken_scheduled, taken_permit, taken_unexecutable, taken_read, taken_cancel, taken_reply}
use Rattle.premise.proofs.Taken.{taken_date_change, taken_none}
use native.Mathlib.Omega.{arith}
use Rattle.premise_rows.proofs.named_rows.is_taken.Goals as goal

pub returns-in-4 : goal.returns-in-4
returns-in-4 c = sym (taken_scheduled c.args.r c.args.o c.in-4.is)

pub returns-in-5 : goal.returns-in-5
returns-in-5 c =
    let a = c.args in
    sym (taken_permit a.r a.o c.in-5.is)

pub returns-in-6 : goal.returns-in-6
returns-in-6 c =
    let a = c.args in
    c.is_open.ensures ∙ sym (taken_unexecutable a.r a.o c.in-6.is)

pub returns-in-7 : goal.returns-in-7
returns-in-7 c = sym (taken_read c.args.r c.args.o c.in-7.is)

pub returns-in-8 : goal.returns-in-8
returns-in-8 c = sym (taken_cancel c.args.r c.args.o c.in-8.is)

pub returns-in-9 : goal.returns-in-9
returns-in-9 c = sym (taken_reply c.args.r c.args.o c.in-9.is)

pub returns-in-11 : goal.returns-in-11
returns-in-11 c =
    let a = c.args in
    sym (taken_date_change a.r a.o c.in-11.is)

pub returns-in_default : goal.returns-in_default
returns-in_default c =
    let a = c.args in
    sym (taken_none a.r a.o (omega arith) (omega arith) (omega arith) (omega arith) (omega arith)
    (omega arith) (omega arith))
