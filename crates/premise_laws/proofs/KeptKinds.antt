-- Each change of one open order by a record of kinds 4 to 9 leaves it kept. Assumes nothing.
use mathlib.Core.Path.{◌≡◌, refl}
use mathlib.Core.Bool.{Bool, true, false, cond, ◌||◌, false≢true}
use lib.Dec.{eqb}
use Rattle.lists.proofs.TestLaws.{by_test}
use Rattle.days.specs.Days.{is_day}
use Rattle.records.specs.declared.Record.{Record}
use Rattle.records.specs.Records.{move_in, reply_accept}
use Rattle.premise.specs.declared.Order.{Order}
use Rattle.premise.specs.declared.File.{File}
use Rattle.premise.specs.Orders.{in_review, permit_pending, scheduled, complete, unexecutable, has_status, has_kind, is_open}
use Rattle.premise.specs.Steps.{on_scheduled, on_permit, on_unexecutable, on_read, on_cancel, on_reply}
use Rattle.premise_laws.proofs.KeptOrders.{OrderKept, in_status_lem, day_or_none, no_day_lem}
use Rattle.premise_laws.proofs.KeptChanges.{Leaves, LeavesBy, anew, leaves, leaves_cancelling, waited_most, leaves_cancelled}

module _ (f : File) (r : Record) (o : Order) (k : OrderKept o) (was : is_open o ≡ true) where
  pub leaves_scheduled : is_day r.day ≡ true → Leaves o (on_scheduled f r o).order
  unfolding on_scheduled
  leaves_scheduled d = leaves o scheduled r.day o.waited.0 0 o.told k (λ e. was) refl d refl k.waited refl k.told

  -- from In Review, where SD is none and W 0; a move in
  pub leaves_permit : has_kind move_in o ≡ true → has_status in_review o ≡ true → Leaves o (on_permit f r o).order
  unfolding on_permit
  leaves_permit m e =
      let before = in_status_lem in_review o e k in
      leaves o permit_pending o.scheduled 0 o.pending.0 o.told k (λ e. was) refl before.scheduled m refl before.pending
      k.told

  pub leaves_unexecutable : Leaves o (on_unexecutable f r o).order
  unfolding on_unexecutable
  leaves_unexecutable =
      leaves o unexecutable o.scheduled o.waited.0 0 o.told k (λ e. was) refl (day_or_none o k) refl k.waited refl k.told

  -- from Scheduled, where W is 0; or from Permit Pending, where SD is none too
  pub leaves_read : is_day r.day ≡ true → (has_status scheduled o || has_status permit_pending o) ≡ true → Leaves o (on_read f r o).order
  unfolding on_read
  leaves_read d h = go (has_status scheduled o) (has_status permit_pending o) refl refl h
    where
      go : (a b : Bool) → has_status scheduled o ≡ a → has_status permit_pending o ≡ b → (a || b) ≡ true
          → Leaves o (cond a (anew o complete r.day o.waited.0 o.pending.0 o.told)
          (anew o in_review o.scheduled o.waited.0 o.pending.0 o.told))
      go true b e q t =
          let before = in_status_lem scheduled o e k in
          leaves o complete r.day o.waited.0 o.pending.0 o.told k (λ e. was) refl d refl k.waited before.pending
          k.told
      go false true e q t =
          let before = in_status_lem permit_pending o q k in
          leaves o in_review o.scheduled o.waited.0 o.pending.0 o.told k (λ e. was) refl before.scheduled refl k.waited
          before.pending k.told
      go false false e q t = absurd (false≢true t)

  pub leaves_cancel : Leaves o (on_cancel f r o).order
  unfolding on_cancel
  leaves_cancel = leaves_cancelling o k was o.waited.0 (waited_most o k)

  -- rejected: Scheduled if SD is a day, else In Review, and then SD is none
  leaves_rejected : (b : Bool) → is_day o.scheduled ≡ b
      → Leaves o (anew o (cond b scheduled in_review) o.scheduled o.waited.0 0 o.told)
  leaves_rejected true e = leaves o scheduled o.scheduled o.waited.0 0 o.told k (λ e. was) refl e refl k.waited refl k.told
  leaves_rejected false e =
      leaves o in_review o.scheduled o.waited.0 0 o.told k (λ e. was) refl (no_day_lem o k e) refl k.waited refl k.told

  pub leaves_reply : Leaves o (on_reply f r o).order
  unfolding on_reply
  leaves_reply = by_test (LeavesBy o) (eqb r.detail reply_accept) _ _ (λ q. leaves_cancelled o k)
      (λ q. leaves_rejected (is_day o.scheduled) refl)
