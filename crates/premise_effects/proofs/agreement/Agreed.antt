-- What an agreement does to its file, by whether it is deleted or established. Assumes nothing.
use Prim.Native.Nat.{ℕ}
use mathlib.Core.Path.{◌≡◌, refl, subst, subst⁻¹}
use mathlib.Core.List.{List, [], ◌∷◌, ◌++◌}
use borrow.Author.Tests.{eq-eqb, ne_eqb}
use Rattle.records.specs.declared.Record.{Record}
use Rattle.records.specs.declared.Notice.{Notice}
use Rattle.records.specs.Records.{delete}
use Rattle.premise.specs.declared.File.{File}
use Rattle.premise.specs.Orders.{no_retailer, with_agreement}
use Rattle.premise.specs.Passes.{Effect, code_agreement_response, notice_of_no_order}
use Rattle.premise.specs.Steps.{agreed}
use Rattle.premise_notices.specs.declared.outbox.Outbox.{Outbox}
use Rattle.premise_notices.specs.Outboxes.{RoomIn, Sends, DoneToFile}
use Rattle.premise_notices.proofs.Sent.{room_first, room_then, sends_then}
use Rattle.premise_effects.specs.Agreements.{to_earlier_holder}

-- ---- the file, and the notice to the retailer that is named, as the code made it
module _ (f : File) (r : Record) (n : Notice) (is : n ≡ notice_of_no_order code_agreement_response f.premise r.retailer) where
  abbrev request : List Notice
  request = to_earlier_holder f.premise f.agreement r.retailer

  abbrev leaves : ℕ → List Notice → Effect
  leaves agreement notices = record { file = with_agreement f agreement; notices = notices }

  deleted : r.detail ≡ delete → agreed f r ≡ leaves no_retailer (n ∷ [])
  unfolding agreed
  deleted e = rw (eq-eqb r.detail delete e, is)

  established : (r.detail ≡ delete → ⊥) → agreed f r ≡ leaves r.retailer (request ++ (n ∷ []))
  unfolding agreed
  established d = rw (ne_eqb r.detail delete d, is)

  module _ (out : Outbox) (room : RoomIn out (agreed f r).notices) where
    module _ (e : r.detail ≡ delete) where
      pub delete_room : RoomIn out (n ∷ [])
      delete_room = subst (λ (x : Effect). RoomIn out x.notices) (deleted e) room

      pub delete_done : {after : Outbox} → Sends out after (n ∷ []) → DoneToFile (agreed f r) (with_agreement f no_retailer) out after
      delete_done {after} w =
          subst⁻¹ (λ (x : Effect). DoneToFile x (with_agreement f no_retailer) out after) (deleted e)
          (record { file_after = refl; sends = w })

    module _ (d : r.detail ≡ delete → ⊥) where
      both : RoomIn out (request ++ (n ∷ []))
      both = subst (λ (x : Effect). RoomIn out x.notices) (established d) room

      pub request_room : RoomIn out request
      request_room = room_first out request (n ∷ []) both

      module _ {middle : Outbox} (w : Sends out middle request) where
        pub response_room : RoomIn middle (n ∷ [])
        response_room = room_then request (n ∷ []) both w

        pub establish_done : {after : Outbox} → Sends middle after (n ∷ [])
            → DoneToFile (agreed f r) (with_agreement f r.retailer) out after
        establish_done {after} v =
            subst⁻¹ (λ (x : Effect). DoneToFile x (with_agreement f r.retailer) out after) (established d)
            (record { file_after = refl; sends = sends_then request (n ∷ []) both w v })
