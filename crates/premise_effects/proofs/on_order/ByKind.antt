-- Which case of a definition of the record kinds holds, by the tests that led there; the order as a record leaves it. Assumes nothing.
use Prim.Native.Nat.{ℕ}
use mathlib.Core.Path.{◌≡◌, refl}
use mathlib.Core.Bool.{Bool, true, false}
use lib.Dec.{eqb}
use borrow.Author.Tests.{eq-eqb, ne_eqb, eqb-true, eqb-false}
use Rattle.records.specs.declared.Record.{Record}
use Rattle.records.specs.Records.{kind_scheduled, kind_permit, kind_unexecutable, kind_read, kind_cancel, reply_accept}
use Rattle.premise.specs.declared.Order.{Order}
use Rattle.premise.specs.declared.File.{File}
use Rattle.premise.specs.Orders.{permit_pending, scheduled, cancel_pending, unexecutable, with_status, with_scheduled}
use Rattle.premise.specs.Orders.{with_waited, with_pending}
use Rattle.premise.specs.Steps.{on_scheduled, on_permit, on_unexecutable, on_read, on_cancel, on_reply, on_order}
use Rattle.premise_effects.specs.ByKind.{LeftBy, as_read, replied_status}

-- ---- the order as it is left; t is what the code made of it
module _ (r : Record) (o t : Order) where
  pub left_scheduled : r.kind ≡ kind_scheduled → t ≡ with_pending 0 (with_status scheduled o) → LeftBy r o (with_scheduled r.day t)
  unfolding on_order on_scheduled
  left_scheduled e q f = rw (e, q)

  pub left_permit : r.kind ≡ kind_permit → t ≡ with_waited 0 (with_status permit_pending o) → LeftBy r o t
  unfolding on_order on_permit
  left_permit e q f = rw (e, q)

  pub left_unexecutable : r.kind ≡ kind_unexecutable → t ≡ with_pending 0 (with_status unexecutable o) → LeftBy r o t
  unfolding on_order on_unexecutable
  left_unexecutable e q f = rw (e, q)

  pub left_read : r.kind ≡ kind_read → t ≡ as_read r o → LeftBy r o t
  unfolding on_order on_read
  left_read e q f = rw (e, q)

  pub left_cancel : r.kind ≡ kind_cancel → t ≡ with_pending 0 (with_status cancel_pending o) → LeftBy r o t
  unfolding on_order on_cancel
  left_cancel e q f = rw (e, q)

pub by_equal : {A : Type 0} (x n : ℕ) → (x ≡ n → A) → ((x ≡ n → ⊥) → A) → A
by_equal {A} x n f g = go (eqb x n) refl
  where
    go : (b : Bool) → eqb x n ≡ b → A
    go true e = f (eqb-true x n e)
    go false e = g (eqb-false x n e)

module _ (r : Record) (s : r.kind ≡ kind_scheduled → ⊥) (p : r.kind ≡ kind_permit → ⊥) (u : r.kind ≡ kind_unexecutable → ⊥)
    (m : r.kind ≡ kind_read → ⊥) (c : r.kind ≡ kind_cancel → ⊥)
    (f : File) (o : Order) where
  pub on_reply_lem : on_order f r o ≡ on_reply f r o
  unfolding on_order
  on_reply_lem =
      simp (
        ne_eqb r.kind kind_scheduled s,
        ne_eqb r.kind kind_permit p,
        ne_eqb r.kind kind_unexecutable u,
        ne_eqb r.kind kind_read
            m,
        ne_eqb r.kind kind_cancel c,
      )

  pub left_reply : (status : ℕ) → status ≡ replied_status r.detail o.scheduled → (t : Order) → t ≡ with_pending 0 (with_status status o)
      → t ≡ (on_order f r o).order
  unfolding on_reply
  left_reply status q t e =
      by_equal r.detail reply_accept (λ a. rw (on_reply_lem, e, q, eq-eqb r.detail reply_accept a))
      (λ n. rw (on_reply_lem, e, q, ne_eqb r.detail reply_accept n))
