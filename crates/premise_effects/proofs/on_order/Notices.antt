-- What a record of kinds 4 to 9 tells: no notice on a read, else one, or two. Assumes nothing.
use Prim.Native.Nat.{ℕ}
use mathlib.Core.Path.{◌≡◌, sym, ap, ◌∙◌}
use mathlib.Core.List.{[], ◌∷◌}
use mathlib.Core.Bool.{true, false, cond, not}
use native.Mathlib.Omega.{arith}
use borrow.Author.Tests.{eq-eqb, ne_eqb, not-true, not-false}
use Rattle.records.specs.declared.Record.{Record}
use Rattle.records.specs.Records.{kind_scheduled, kind_permit, kind_unexecutable, kind_read, kind_cancel, reply_accept}
use Rattle.premise.specs.declared.Order.{Order}
use Rattle.premise.specs.declared.File.{File}
use Rattle.premise.specs.Passes.{Change, same, notice}
use Rattle.premise.specs.Steps.{on_scheduled, on_permit, on_unexecutable, on_read, on_cancel, on_reply, on_order, told_retailer}
use Rattle.premise_notices.specs.declared.outbox.Outbox.{Outbox}
use Rattle.premise_notices.specs.Outboxes.{RoomIn}
use Rattle.premise_notices.specs.Telling.{telling}
use Rattle.premise_notices.proofs.Sent.{room_case}
use Rattle.premise_effects.specs.ByKind.{telling_both, LeftBy, hears_too, code_of, addressee_of}
use Rattle.premise_effects.proofs.on_order.ByKind.{by_equal, on_reply_lem}

-- the order as it is left, and the notices on it: the second to a retailer, where that hears of it too
abbrev told : ℕ → File → Record → Order → Change
told retailer f r o =
    record {
      order = (on_order f r o).order;
      notices =
          notice (code_of r.kind r.detail) f.premise (addressee_of r.kind o.submitter) (on_order f r o).order
          ∷ cond (hears_too retailer r o) (notice (code_of r.kind r.detail) f.premise retailer (on_order f r o).order ∷ []) [];
    }

module _ (r : Record) (s : r.kind ≡ kind_scheduled → ⊥) (p : r.kind ≡ kind_permit → ⊥) (u : r.kind ≡ kind_unexecutable → ⊥)
    (m : r.kind ≡ kind_read → ⊥) (c : r.kind ≡ kind_cancel → ⊥)
    (f : File) (o : Order) where
  told_reply : on_order f r o ≡ told (told_retailer f o) f r o
  unfolding on_reply
  told_reply =
      by_equal r.detail reply_accept
      (λ a.
      rw (
        on_reply_lem,
        ne_eqb r.kind kind_scheduled s,
        ne_eqb r.kind kind_permit p,
        ne_eqb r.kind kind_unexecutable u,
        ne_eqb r.kind kind_cancel c,
        eq-eqb r.detail reply_accept a,
      ))
      (λ n.
      rw (
        on_reply_lem,
        ne_eqb r.kind kind_scheduled s,
        ne_eqb r.kind kind_permit p,
        ne_eqb r.kind kind_unexecutable u,
        ne_eqb r.kind kind_cancel c,
        ne_eqb r.detail reply_accept n,
      ))

module _ (f : File) (r : Record) (o : Order) where
  none_told : r.kind ≡ kind_read → on_order f r o ≡ same (on_order f r o).order
  unfolding on_order on_read
  none_told e = rw e

  pub on_read_lem : r.kind ≡ kind_read → (t : Order) → LeftBy r o t → on_order f r o ≡ same t
  on_read_lem e t left = none_told e ∙ ap same (sym (left f))

  told_scheduled : r.kind ≡ kind_scheduled → on_order f r o ≡ told (told_retailer f o) f r o
  unfolding on_order on_scheduled
  told_scheduled e = rw e

  told_permit : r.kind ≡ kind_permit → on_order f r o ≡ told (told_retailer f o) f r o
  unfolding on_order on_permit
  told_permit e = rw e

  told_unexecutable : r.kind ≡ kind_unexecutable → on_order f r o ≡ told (told_retailer f o) f r o
  unfolding on_order on_unexecutable
  told_unexecutable e = rw e

  told_cancel : r.kind ≡ kind_cancel → on_order f r o ≡ told (told_retailer f o) f r o
  unfolding on_order on_cancel
  told_cancel e = rw e

  module _ (m : r.kind ≡ kind_read → ⊥) where
    by_kind : on_order f r o ≡ told (told_retailer f o) f r o
    by_kind =
        by_equal r.kind kind_scheduled told_scheduled
        (λ s.
        by_equal r.kind kind_permit told_permit
        (λ p. by_equal r.kind kind_unexecutable told_unexecutable
        (λ u. by_equal r.kind kind_cancel told_cancel (λ c. told_reply r s p u m c f o))))

    -- as the code made the order, the code, the addressee and the retailer that has been told
    module _ (t : Order) (left : LeftBy r o t) (code : ℕ) (k : code ≡ code_of r.kind r.detail) (addressee : ℕ)
        (a : addressee ≡ addressee_of r.kind o.submitter) (second : ℕ) (b : second ≡ told_retailer f o) where
      by_told : on_order f r o ≡ told second f r o
      by_told = by_kind ∙ ap (λ (n : ℕ). told n f r o) (sym b)

      pub told_once : not (hears_too second r o) ≡ true → on_order f r o ≡ telling code f.premise addressee t
      told_once h = by_told ∙ rw (not-true (hears_too second r o) h, k, a, left f)

      pub told_twice : not (hears_too second r o) ≡ false → on_order f r o ≡ telling_both code f.premise addressee second t
      told_twice h = by_told ∙ rw (not-false (hears_too second r o) h, k, a, left f)

      -- the first of its notices has room
      pub tells_room : (out : Outbox) → RoomIn out (on_order f r o).notices → RoomIn out (notice code f.premise addressee t ∷ [])
      tells_room out room = omega (arith, room_case (told second f r o) by_told out room)
