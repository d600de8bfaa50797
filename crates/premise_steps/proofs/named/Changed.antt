-- A file with an order changed in its place. Assumes nothing.
use Prim.Native.Nat.{ℕ, ◌<◌}
use mathlib.Core.Path.{◌≡◌, refl, ap, ap₂, subst, subst⁻¹, ◌∙◌}
use mathlib.Core.List.{List}
use mathlib.Core.Bool.{cond, ◌&&◌, not}
use lib.Dec.{leb}
use lib.ListN.{set, get_or}
use Rattle.lists.proofs.TestLaws.{by_test}
use Rattle.records.specs.declared.Record.{Record}
use Rattle.records.specs.Records.{kind_read, move_in, move_out}
use Rattle.premise.specs.declared.Order.{Order}
use Rattle.premise.specs.declared.File.{File}
use Rattle.premise.specs.Orders.{scheduled, has_status, has_kind, blank, held, with_orders, with_supply}
use Rattle.premise.specs.Steps.{is, on_named, is_held_off, supplied, changed}
use Rattle.premise.specs.WellKept.{Tidy}
use Rattle.premise_laws.proofs.FileOrders.{tidy_supply, tidy_set}
use Rattle.premise_notices.specs.declared.outbox.Outbox.{Outbox}
use Rattle.premise_notices.specs.Outboxes.{RoomIn, DoneToOrder, DoneToFile}

module _ (f : File) (r : Record) (o : Order) where
  -- a record changes who supplies the premise, and none of its orders
  supply_by : (P : File → Type 0) → P f → ((retailer since entered : ℕ) → P (with_supply f retailer since entered)) → P (supplied f r o)
  unfolding supplied
  supply_by P same other =
      by_test P (is kind_read r && has_status scheduled o && leb f.since r.day && not (is_held_off f r o)) _ f
      (λ e. other (cond (has_kind move_out o) f.agreement o.submitter) r.day (cond (has_kind move_in o) 1 0)) (λ e. same)

  supplied_held : held (supplied f r o) ≡ held f
  supplied_held = supply_by (λ (g : File). held g ≡ held f) refl (λ retailer since entered. refl)

  pub supplied_ready : Tidy f → (i : ℕ) → i < f.count → (h : File) → h ≡ supplied f r o → Tidy h × (i < h.count)
  supplied_ready tidy i b h e =
      subst⁻¹ (λ (g : File). Tidy g × (i < g.count)) e
      (supply_by (λ (g : File). Tidy g × (i < g.count)) (tidy, b)
      (λ retailer since entered. (tidy_supply f tidy retailer since entered, b)))

  -- the width stays too
  pub changed_window : {h : File} → h ≡ supplied f r o → (os : List Order) {g : File} → g ≡ with_orders h os → g.window ≡ f.window
  changed_window e os q =
      ap (λ (x : File). x.window) q ∙ ap (λ (x : File). x.window) e
      ∙ supply_by (λ (g : File). g.window ≡ f.window) refl (λ retailer since entered. refl)

pub changed_tidy : (h : File) → Tidy h → (i : ℕ) (t : Order) (g : File) → g ≡ with_orders h (set (held h) i t) → Tidy g
changed_tidy h tidy i t g e = subst⁻¹ Tidy e (tidy_set h tidy i t)

-- the file with it, and its notices; t is what the code made of the order, h the file with its supply
module _ (calendar : List ℕ) (today : ℕ) (f : File) (r : Record) (i : ℕ) {o : Order} (e : o ≡ get_or (held f) i blank) where
  pub changed_room : (out : Outbox) → RoomIn out (changed calendar today f r i (get_or (held f) i blank)).notices
      → RoomIn out (on_named calendar today f r o).notices
  unfolding changed
  changed_room out room = subst⁻¹ (λ (x : Order). RoomIn out (on_named calendar today f r x).notices) e room

  pub changed_done : {t : Order} {before after : Outbox} → DoneToOrder (on_named calendar today f r o) t before after
      → {h : File} → h ≡ supplied f r o → {g : File} → g ≡ with_orders h (set (held h) i t)
      → DoneToFile (changed calendar today f r i (get_or (held f) i blank)) g before after
  unfolding changed
  changed_done {t} {before} {after} done k {g} q =
      subst (λ (x : Order). DoneToFile (changed calendar today f r i x) g before after) e
      (record {
        file_after =
            q ∙ ap (λ (x : File). with_orders x (set (held x) i t)) k
            ∙ ap₂ (λ (os : List Order) (x : Order). with_orders (supplied f r o) (set os i x)) (supplied_held f r o) done.order_after;
        sends = done.sends;
      })
