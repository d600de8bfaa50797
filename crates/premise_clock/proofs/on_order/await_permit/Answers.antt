-- `await_permit` meets its contract: the order waits on, or its wait ends, by the days waited as they have grown. Assumes
-- nothing.
use mathlib.Core.Path.{refl, ap, ◌∙◌}
use mathlib.Core.Bool.{Bool}
use Rattle.premise.specs.Clock.{grown}
use Rattle.premise_notices.proofs.Sent.{room_case, done_case}
use Rattle.premise_clock.proofs.on_order.Waiting.{permit_waits}
use Rattle.premise_clock.proofs.on_order.await_permit.Goals as goal

pub wait_on-requires : goal.wait_on-requires
wait_on-requires c =
    let a = c.args in
    let w = c.grow-waited.ensures ∙ ap (λ (b : Bool). grown b a.o) c.counts.ensures in
    room_case _ (permit_waits a.premise a.o c.grow-waited.result.0 _ a.business a.today w refl) a.out.now c.requires

pub returns : goal.returns
returns c =
    let a = c.args in
    let w = c.grow-waited.ensures ∙ ap (λ (b : Bool). grown b a.o) c.counts.ensures in
    done_case _ (permit_waits a.premise a.o c.grow-waited.result.0 _ a.business a.today w refl) c.wait_on.ensures
