-- The numbers of the notice codes.
use Rattle.std.specs.Prelude.{ℕ}
use Rattle.premise.specs.Passes.{code_order, code_move_out, code_scheduled, code_losing, code_cancel, code_permit}
use Rattle.premise.specs.Passes.{code_unexecutable, code_reject, code_date_change, code_agreement_request, code_agreement_response}
use Rattle.premise.specs.Passes.{code_agreement_move_in}
use Rattle.premise_notices.specs.declared.notices.NoticeCode.{NoticeCode}
use Rattle.premise_notices.specs.declared.notices.NoticeCode.TheVariants.{Order, MoveOut, Scheduled, Losing, Cancel, Permit}
use Rattle.premise_notices.specs.declared.notices.NoticeCode.TheVariants.{Unexecutable, Reject, DateChange, AgreementRequest, AgreementResponse}
use Rattle.premise_notices.specs.declared.notices.NoticeCode.TheVariants.{AgreementMoveIn}

abbrev pub code_number : NoticeCode → ℕ
code_number Order = code_order
code_number MoveOut = code_move_out
code_number Scheduled = code_scheduled
code_number Losing = code_losing
code_number Cancel = code_cancel
code_number Permit = code_permit
code_number Unexecutable = code_unexecutable
code_number Reject = code_reject
code_number DateChange = code_date_change
code_number AgreementRequest = code_agreement_request
code_number AgreementResponse = code_agreement_response
code_number AgreementMoveIn = code_agreement_move_in
