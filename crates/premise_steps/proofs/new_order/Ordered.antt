-- A file with a new order. Assumes nothing.
use Prim.Native.Nat.{ℕ}
use mathlib.Core.Path.{◌≡◌, ap, ap₂, subst, subst⁻¹, ◌∙◌}
use mathlib.Core.List.{List, [], ◌∷◌, ◌++◌}
use mathlib.Core.Bool.{false}
use native.Mathlib.Omega.{arith}
use lib.Dec.{eqb}
use lib.ListN.{length-append}
use Rattle.lists.specs.Search.{count_of}
use Rattle.records.specs.declared.Record.{Record}
use Rattle.records.specs.declared.Notice.{Notice}
use Rattle.records.specs.Notices.{tdsp}
use Rattle.premise.specs.declared.Order.{Order}
use Rattle.premise.specs.declared.File.{File}
use Rattle.premise.specs.Orders.{most_orders, is_open, held, with_orders}
use Rattle.premise.specs.Passes.{notice}
use Rattle.premise.specs.Steps.{new_order, make_room, ordered}
use Rattle.premise.specs.WellKept.{Tidy}
use Rattle.premise_laws.proofs.KeptNew.{room_few}
use Rattle.premise.proofs.KeptFiles.{length-held, tidy_with}
use Rattle.premise_notices.specs.declared.outbox.Outbox.{Outbox}
use Rattle.premise_notices.specs.Outboxes.{Sends, DoneToFile}
use Rattle.premise_steps.specs.NewOrderCode.{code_for}

-- there is room for it
pub ordered_tidy : (f : File) → Tidy f → eqb (count_of is_open (held f)) most_orders ≡ false → (o : Order) (g : File)
    → g ≡ with_orders f (make_room (held f) ++ (o ∷ [])) → Tidy g
ordered_tidy f tidy free o g e =
    let few = room_few (held f) (omega (arith, length-held f tidy, tidy.few)) free in
    subst⁻¹ Tidy e (tidy_with f (make_room (held f) ++ (o ∷ [])) (omega (arith, length-append (make_room (held f)) (o ∷ []), few)))

-- the file with it, and its notice
pub ordered_done : (calendar : List ℕ) (today : ℕ) (f : File) (r : Record) {o : Order} → o ≡ new_order calendar today r
    → {code : ℕ} → code ≡ code_for r.detail → {g : File} → g ≡ with_orders f (make_room (held f) ++ (o ∷ []))
    → {before after : Outbox} → Sends before after (notice code g.premise tdsp o ∷ [])
    → DoneToFile (ordered calendar today f r) g before after
unfolding ordered
ordered_done calendar today f r {o} e {code} k h {before} {after} w =
    record {
      file_after = h ∙ ap (λ (x : Order). with_orders f (make_room (held f) ++ (x ∷ []))) e;
      sends = subst (λ (x : Notice). Sends before after (x ∷ []))
          (ap (λ (x : File). notice code x.premise tdsp o) h ∙ ap₂ (λ (x : ℕ) (y : Order). notice x f.premise tdsp y) k e) w;
    }
