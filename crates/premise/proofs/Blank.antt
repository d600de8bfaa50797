-- A place, and a file, that is zero in every field is the blank one. Assumes nothing.
use Prim.Native.Nat.{ℕ}
use mathlib.Core.Path.{◌≡◌, refl, ap, ◌∙◌}
use mathlib.Core.List.{[], ◌∷◌}
use mathlib.Core.Bool.{true}
use lib.Dec.{eqb}
use lib.ListN.{length, replicate}
use borrow.Author.Tests.{eqb-true}
use Rattle.lists.specs.Search.{all_of}
use Rattle.lists.proofs.TestLaws.{pass_each}
use Rattle.lists.proofs.SearchLaws.{all_are}
use Rattle.premise.specs.declared.Order.{Order}
use Rattle.premise.specs.Orders.{business_days, calendar_days, most_orders, blank, blank_file}
use Rattle.premise.specs.WellKept.{is_blank, file_blank}
use Rattle.premise.specs.Laws.{BlankMeans}

pub blank_is : (o : Order) → is_blank o ≡ true → o ≡ blank
unfolding is_blank
blank_is o h =
    let k =
    pass_each (eqb o.reference 0)
    (eqb o.kind 0 ∷ eqb o.submitter 0 ∷ eqb o.requested 0 ∷ eqb o.scheduled 0 ∷ eqb o.status 0
    ∷ eqb o.waited.0 0 ∷ eqb o.pending.0 0 ∷ eqb o.told 0 ∷ eqb o.counter 0 ∷ []) h in
    λ i.
    record {
      reference = eqb-true o.reference 0 k.0 i;
      kind = eqb-true o.kind 0 k.1.0 i;
      submitter = eqb-true o.submitter 0 k.1.1.0 i;
      requested = eqb-true o.requested 0 k.1.1.1.0 i;
      scheduled = eqb-true o.scheduled 0 k.1.1.1.1.0 i;
      status = eqb-true o.status 0 k.1.1.1.1.1.0 i;
      waited = business_days (eqb-true o.waited.0 0 k.1.1.1.1.1.1.0 i);
      pending = calendar_days (eqb-true o.pending.0 0 k.1.1.1.1.1.1.1.0 i);
      told = eqb-true o.told 0 k.1.1.1.1.1.1.1.1.0 i;
      counter = eqb-true o.counter 0 k.1.1.1.1.1.1.1.1.1.0 i;
    }

pub blank_passes : is_blank blank ≡ true
unfolding is_blank
blank_passes = refl

pub blank_means : BlankMeans
unfolding file_blank is_blank
blank_means f = (to, λ e. rw e)
  where
    to : file_blank f ≡ true → f ≡ blank_file
    to h =
        let k =
        pass_each (eqb f.premise 0)
        (eqb f.retailer 0 ∷ eqb f.since 0 ∷ eqb f.window 0 ∷ eqb f.agreement 0 ∷ eqb f.entered 0 ∷ eqb f.count 0 ∷ eqb
        (length f.orders) most_orders
        ∷ all_of is_blank f.orders ∷ []) h in
        let long = eqb-true (length f.orders) most_orders k.1.1.1.1.1.1.1.0 in
        let orders = all_are is_blank blank blank_is f.orders k.1.1.1.1.1.1.1.1.0 ∙ ap (λ (n : ℕ). replicate n blank) long in
        λ i.
        record {
          premise = eqb-true f.premise 0 k.0 i;
          retailer = eqb-true f.retailer 0 k.1.0 i;
          since = eqb-true f.since 0 k.1.1.0 i;
          window = eqb-true f.window 0 k.1.1.1.0 i;
          agreement = eqb-true f.agreement 0 k.1.1.1.1.0 i;
          entered = eqb-true f.entered 0 k.1.1.1.1.1.0 i;
          count = eqb-true f.count 0 k.1.1.1.1.1.1.0 i;
          orders = orders i;
        }
