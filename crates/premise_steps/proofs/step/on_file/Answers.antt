-- `on_file` meets its contract: each arm does what its kind asks.
use Prim.Native.Nat.{◌≤◌, ◌<◌}
use mathlib.Core.Path.{◌≡◌}
use mathlib.Core.Logic.{◌⊎◌, inl, inr}
use native.Mathlib.Omega.{arith}
use borrow.Author.Tests.{ne_eqb}
use Rattle.records.specs.Records.{kind_scheduled, kind_reply, kind_date_change, kind_agreement}
use Rattle.premise.proofs.KindsOf.{among, not_among, else_new_order}
use Rattle.premise_steps.proofs.step.on_file.Goals as goal
use Rattle.premise_steps.proofs.step.on_file.Goals.{in-11-1, in_default+else-r-lt4+then-r-lt10}
use Rattle.premise_steps.proofs.step.on_file.Goals.{in_default-via-then-r-lt4, in_default-via-else-r-lt4+else-r-lt10}

pub on_named-requires : goal.on_named-requires
on_named-requires c =
    let kinds : ((kind_scheduled ≤ c.args.r.kind) × (c.args.r.kind ≤ kind_reply)) ⊎ (c.args.r.kind ≡ kind_date_change) =
    elim c.in-4-to-9-1.branch [
      | in-11-1 w ↦ inr (omega arith)
      | in_default+else-r-lt4+then-r-lt10 w ↦ inl (omega arith, omega arith)
    ] in
    record { on_file = c.requires.on_file; names_an_order = among c.args.r kind_scheduled kinds }

pub on_agreement-requires : goal.on_agreement-requires
on_agreement-requires c = record { on_file = c.requires.on_file; is_agreement = c.in-12.is }

pub on_new_order-requires : goal.on_new_order-requires
on_new_order-requires c =
    let kind : (c.args.r.kind < kind_scheduled) ⊎ (kind_reply < c.args.r.kind) =
    elim c.in_default.branch [
      | in_default-via-then-r-lt4 w ↦ inl (omega arith)
      | in_default-via-else-r-lt4+else-r-lt10 w ↦ inr (omega arith)
    ] in
    let unnamed = not_among c.args.r kind_scheduled kind (omega arith) in
    record { on_file = c.requires.on_file; is_new_order = else_new_order c.args.r c.requires.stays_held unnamed (ne_eqb c.args.r.kind kind_agreement (omega arith)) }
