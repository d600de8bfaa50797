-- A pass by any step, run over a file and an outbox order by order: what stands after some turns, and at the end. Assumes nothing.
use Prim.Native.Nat.{ℕ, ◌+◌, ◌-◌, ◌<◌, ◌≤◌}
use mathlib.Core.Path.{◌≡◌, refl, sym, ap, ap₂, subst, subst⁻¹, ◌∙◌}
use mathlib.Core.List.{List, [], ◌∷◌, ◌++◌, append-nil}
use native.Mathlib.Numerals.{add-one}
use native.Mathlib.Omega.{arith}
use lib.ListN.{take, drop, length, get_or, set, replicate, take-append-drop, length-take}
use lib.Seq.{take_all, take-suc, drop_at, get_or-take}
use Rattle.lists.proofs.Over.{next_at, next_stays, next_stored}
use Rattle.records.specs.declared.Notice.{Notice}
use Rattle.premise.specs.declared.Order.{Order}
use Rattle.premise.specs.declared.File.{File}
use Rattle.premise.specs.Orders.{most_orders, blank, held, places}
use Rattle.premise.specs.Passes.{Change, same, pass_from, pass, on_file}
use Rattle.premise.specs.WellKept.{Tidy}
use Rattle.premise.proofs.KeptFiles.{length-held, length-orders}
use Rattle.premise.proofs.Places.{with_places}
use Rattle.premise_laws.proofs.Passes.{pass_orders, pass_notices, length-pass}
use Rattle.premise_notices.specs.declared.outbox.Outbox.{Outbox}
use Rattle.premise_notices.specs.Outboxes.{RoomIn, Sends, DoneToOrder, DoneToFile}
use Rattle.premise_notices.proofs.Sent.{sends_none, room_first, room_then, sends_then}

-- a pass after i turns, on a tidy file with room for the notices: the first i orders are done, their notices sent
pub record Sofar (step : ℕ → Order → Change) (file : File) (out : Outbox) (i : ℕ) (now : File) (after : Outbox) : Type 0 where
  pub tidy : Tidy file
  pub room : RoomIn out (pass step (held file)).notices
  pub within : i ≤ file.count
  pub here : now ≡ with_places file file.count ((pass step (take i (held file))).orders ++ drop i file.orders)
  pub sends : Sends out after (pass step (take i (held file))).notices

pub sofar_none : {step : ℕ → Order → Change} {file : File} (out : Outbox) → Tidy file
    → RoomIn out (pass step (held file)).notices
    → Sofar step file out 0 file out
sofar_none out tidy room =
    record { tidy = tidy; room = room; within = omega arith; here = refl; sends = sends_none out }

module _ {step : ℕ → Order → Change} {file : File} {out : Outbox} {i : ℕ} {now : File} {after : Outbox}
    (s : Sofar step file out i now after) where
  -- the first i orders, done, and their notices
  abbrev done : List Order
  done = (pass step (take i (held file))).orders

  abbrev told : List Notice
  told = (pass step (take i (held file))).notices

  -- room for the notices of the first k orders
  room_for : (k : ℕ) → RoomIn out (pass step (take k (held file))).notices
  room_for k =
      room_first out (pass step (take k (held file))).notices
      (pass_from step (0 + length (take k (held file))) (drop k (held file))).notices
      (subst (λ (l : List Notice). RoomIn out l)
      (ap (λ (l : List Order). (pass step l).notices) (sym (take-append-drop k (held file)))
      ∙ pass_notices step 0 (take k (held file)) (drop k (held file)))
      s.room)

  -- ---- an order is left
  module _ (h : i < file.count) where
    abbrev o : Order
    o = get_or file.orders i blank

    inside : i < length file.orders
    inside = omega (arith, length-orders file s.tidy, s.tidy.few)

    at_place_lem : 0 + length (take i (held file)) ≡ i
    at_place_lem = omega (arith, length-take i (held file), length-held file s.tidy)

    done-length : length done ≡ i
    done-length = length-pass step 0 (take i (held file)) ∙ omega (arith, at_place_lem)

    -- it is still as it was
    sofar_next : get_or now.orders i blank ≡ get_or file.orders i blank
    sofar_next = ap (λ (x : File). get_or x.orders i blank) s.here ∙ next_at blank done file.orders i done-length inside

    -- with it the first i + 1 orders
    held_more : take (i + 1) (held file) ≡ take i (held file) ++ (o ∷ [])
    held_more =
        let n = length-held file s.tidy in
        rw (add-one i, take-suc (held file) i blank (omega arith), get_or-take file.count file.orders i blank h)

    done_more : (pass step (take (i + 1) (held file))).orders ≡ done ++ ((step i o).order ∷ [])
    done_more =
        ap (λ (l : List Order). (pass step l).orders) held_more
        ∙ pass_orders step 0 (take i (held file)) (o ∷ [])
        ∙ ap (λ (n : ℕ). done ++ ((step n o).order ∷ [])) at_place_lem

    told_more : (pass step (take (i + 1) (held file))).notices ≡ told ++ (step i o).notices
    told_more =
        ap (λ (l : List Order). (pass step l).notices) held_more
        ∙ pass_notices step 0 (take i (held file)) (o ∷ [])
        ∙ ap (λ (n : ℕ). told ++ ((step n o).notices ++ [])) at_place_lem
        ∙ ap (λ (l : List Notice). told ++ l) (append-nil (step i o).notices)

    room_more : RoomIn out (told ++ (step i o).notices)
    room_more = subst (λ (l : List Notice). RoomIn out l) told_more (room_for (i + 1))

    -- room for its notices
    pub sofar_room : RoomIn after (step i (get_or file.orders i blank)).notices
    sofar_room = room_then told (step i o).notices room_more s.sends

    -- one turn
    pub sofar_turn : (r : Order) {later : Outbox} → DoneToOrder (step i (get_or file.orders i blank)) r after later
        → Sofar step file out (i + 1) (with_places now now.count (set now.orders i r)) later
    sofar_turn r {later} did =
        record {
          tidy = s.tidy;
          room = s.room;
          within = omega arith;
          here =
              ap (λ (x : File). with_places x x.count (set x.orders i r)) s.here
              ∙ ap (with_places file file.count)
              (next_stored blank done file.orders i done-length inside r
              ∙ ap (λ (x : Order). (done ++ (x ∷ [])) ++ drop (i + 1) file.orders) did.order_after
              ∙ ap (λ (x : List Order). x ++ drop (i + 1) file.orders) (sym done_more));
          sends =
              subst⁻¹ (λ (l : List Notice). Sends out later l) told_more
              (sends_then told (step i o).notices room_more s.sends did.sends);
        }

    -- a turn on an order that the step leaves as it is: nothing is stored and nothing sent
    pub sofar_leaves : step i (get_or file.orders i blank) ≡ same (get_or file.orders i blank)
        → Sofar step file out (i + 1) now after
    sofar_leaves e =
        record {
          tidy = s.tidy;
          room = s.room;
          within = omega arith;
          here =
              s.here
              ∙ ap (with_places file file.count)
              (next_stays blank done file.orders i done-length inside
              ∙ ap (λ (x : Order). (done ++ (x ∷ [])) ++ drop (i + 1) file.orders) (sym (ap (λ (x : Change). x.order) e))
              ∙ ap (λ (x : List Order). x ++ drop (i + 1) file.orders) (sym done_more));
          sends = subst⁻¹ (λ (l : List Notice). Sends out after l)
              (told_more ∙ ap (λ (x : Change). told ++ x.notices) e ∙ append-nil told) s.sends;
        }

    -- the same by the order as it stands in the file that is stored into
    pub next_room : RoomIn after (step i (get_or now.orders i blank)).notices
    next_room = subst⁻¹ (λ (x : Order). RoomIn after (step i x).notices) sofar_next sofar_room

    pub next_turn : (r : Order) {later : Outbox} → DoneToOrder (step i (get_or now.orders i blank)) r after later
        → Sofar step file out (i + 1) (with_places now now.count (set now.orders i r)) later
    next_turn r {later} did = sofar_turn r (subst (λ (x : Order). DoneToOrder (step i x) r after later) sofar_next did)

    pub next_leaves : step i (get_or now.orders i blank) ≡ same (get_or now.orders i blank)
        → Sofar step file out (i + 1) now after
    next_leaves e = sofar_leaves (subst (λ (x : Order). step i x ≡ same x) sofar_next e)

  -- ---- none is left: the pass is done
  pub sofar_all : file.count ≤ i → DoneToFile (on_file file (pass step (held file))) now out after
  unfolding places
  sofar_all e =
      let n = length-held file s.tidy in
      let t : take i (held file) ≡ held file = take_all i (held file) (omega arith) in
      let m : length (held file) ≡ i = omega (arith, s.within) in
      let w : drop i file.orders ≡ replicate (most_orders - length (pass step (held file)).orders) blank =
      ap (drop i) s.tidy.whole ∙ drop_at (held file) (replicate (most_orders - length (held file)) blank) i m
      ∙ ap (λ (k : ℕ). replicate (most_orders - k) blank) (sym (length-pass step 0 (held file))) in
      record {
        file_after =
            s.here ∙ ap (λ (l : List Order). with_places file file.count ((pass step l).orders ++ drop i file.orders)) t
            ∙ ap₂ (with_places file) (sym n ∙ sym (length-pass step 0 (held file)))
            (ap (λ (l : List Order). (pass step (held file)).orders ++ l) w);
        sends = subst (λ (l : List Order). Sends out after (pass step l).notices) t s.sends;
      }
