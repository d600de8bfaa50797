-- `change` meets its contract: whether the order is due, whether it is a move out, and who the retailer is, pick the case of
-- `loss_notice`.
use mathlib.Core.Path.{◌≡◌, refl, sym, ◌∙◌}
use mathlib.Core.Bool.{Bool, true, false, not, ◌&&◌, ◌||◌}
use lib.Dec.{eqb}
use borrow.Author.Tests.{eq-eqb, ne_eqb}
use Rattle.days.specs.Window.{up_to}
use Rattle.records.specs.Records.{move_out}
use Rattle.premise.specs.Orders.{no_retailer, with_told}
use Rattle.premise.specs.Passes.{code_losing, code_agreement_move_in}
use Rattle.premise.specs.Evaluation.{loss_notice}
use Rattle.premise_laws.proofs.LossNotice.{loss_stays, loss_unsaid, loss_said, loss_of_move_out}
use Rattle.premise_notices.proofs.Sent.{room_case, done_case, done_none}
use Rattle.premise_notices.specs.Telling.{telling}
use Rattle.premise_evaluation.proofs.loss_notice.LossNoticesPass.change.Goals as goal
use Rattle.premise_evaluation.proofs.loss_notice.LossNoticesPass.change.Goals.{Then-o-eq-MOVE_OUT, Then-file-o}

-- what the code asks, whether two tests fail both
both_fail : (a b : Bool) → (not a && not b) ≡ true → (a || b) ≡ false
both_fail false false e = refl
both_fail false true e = cc
both_fail true b e = cc

one_passes : (a b : Bool) → (not a && not b) ≡ false → (a || b) ≡ true
one_passes true b e = refl
one_passes false true e = refl
one_passes false false e = cc

pub returns-then-not-is_due : goal.returns-then-not-is_due
returns-then-not-is_due c =
    let a = c.args in
    done_none a.o a.out.now
    (loss_stays (up_to a.self.now.last) a.o a.file.now.premise a.file.now.retailer a.file.now.agreement (sym c.is_due.ensures ∙ c.if-not-is_due.true))

-- the retailer of the agreement is told of a move out
of-move-out : (k : Then-o-eq-MOVE_OUT) → let a = k.args in
    loss_notice (up_to a.self.now.last) a.file.now.premise a.file.now.retailer a.file.now.agreement a.o
    ≡ telling code_agreement_move_in a.file.now.premise a.file.now.agreement (with_told 1 a.o)
of-move-out k =
    let a = k.args in
    loss_of_move_out (up_to a.self.now.last) a.o a.file.now.premise a.file.now.retailer a.file.now.agreement
    (sym k.is_due.ensures ∙ k.if-not-is_due.false) (eq-eqb a.o.kind move_out k.if-o-eq-MOVE_OUT.true)

pub tell-requires : goal.tell-requires
tell-requires c = room_case _ (of-move-out (goal.at.tell-requires c).Then-o-eq-MOVE_OUT) c.args.out.now c.requires.room

pub returns-then-o-eq-MOVE_OUT : goal.returns-then-o-eq-MOVE_OUT
returns-then-o-eq-MOVE_OUT c =
    done_case _ (of-move-out (goal.at.returns-then-o-eq-MOVE_OUT c).Then-o-eq-MOVE_OUT) (record { order_after = refl; sends = c.tell.ensures })

-- the retailer that loses the premise is told
said : (m : Then-file-o) → let a = m.args in
    loss_notice (up_to a.self.now.last) a.file.now.premise a.file.now.retailer a.file.now.agreement a.o
    ≡ telling code_losing a.file.now.premise a.file.now.retailer (with_told 1 a.o)
said m =
    let a = m.args in
    loss_said (up_to a.self.now.last) a.o a.file.now.premise a.file.now.retailer a.file.now.agreement
    (sym m.is_due.ensures ∙ m.if-not-is_due.false) (ne_eqb a.o.kind move_out m.if-o-eq-MOVE_OUT.false)
    (both_fail (eqb a.file.now.retailer no_retailer) (eqb a.file.now.retailer a.o.submitter) m.if-file-o.true)

pub tell-requires-then-file-o : goal.tell-requires-then-file-o
tell-requires-then-file-o c = room_case _ (said (goal.at.tell-requires-then-file-o c).Then-file-o) c.args.out.now c.requires.room

pub returns-then-file-o : goal.returns-then-file-o
returns-then-file-o c =
    done_case _ (said (goal.at.returns-then-file-o c).Then-file-o) (record { order_after = refl; sends = c.tell-then-file-o.ensures })

pub returns-else-file-o : goal.returns-else-file-o
returns-else-file-o c =
    let a = c.args in
    done_none (with_told 1 a.o) a.out.now
    (loss_unsaid (up_to a.self.now.last) a.o a.file.now.premise a.file.now.retailer a.file.now.agreement
    (sym c.is_due.ensures ∙ c.if-not-is_due.false) (ne_eqb a.o.kind move_out c.if-o-eq-MOVE_OUT.false)
    (one_passes (eqb a.file.now.retailer no_retailer) (eqb a.file.now.retailer a.o.submitter) c.if-file-o.false))
