-- Laws of a whole file: what its test gives, part by part, where the parts before passed. Assumes nothing.
use Prim.Native.Nat.{ℕ, ◌≤◌}
use mathlib.Core.Path.{◌≡◌, sym, ap, ◌∙◌}
use mathlib.Core.List.{List}
use mathlib.Core.Bool.{Bool, true, false, not, cond, ◌&&◌, and-false}
use lib.Dec.{eqb, leb}
use lib.ListN.{length, drop}
use borrow.Author.Tests.{eq-eqb, leb-true, not-true, not-false}
use Rattle.std.specs.Prelude.{Some, None}
use Rattle.std.specs.Bool.{then_some}
use Rattle.lists.specs.Search.{all_of}
use Rattle.lists.proofs.TestLaws.{and_right}
use Rattle.days.specs.Days.{is_day}
use Rattle.days.specs.Window.{most_width}
use Rattle.records.specs.Records.{a_premise, a_retailer_or_none}
use Rattle.premise.specs.declared.Order.{Order}
use Rattle.premise.specs.declared.File.{File}
use Rattle.premise.specs.Orders.{most_orders, held}
use Rattle.premise.specs.WellKept.{order_kept, distinct, is_blank, file_kept_by, file_kept}
use Rattle.premise_kept.specs.Test.{packed_counts, file_test}

module _ (f : File) where
  -- the fields besides the orders and their number
  abbrev fields_kept : Bool
  fields_kept = a_premise f.premise && a_retailer_or_none f.retailer && is_day f.since &&
      (leb 1 f.window && leb f.window most_width)
      && a_retailer_or_none f.agreement && leb f.entered 1

  -- the fields besides the orders
  abbrev pub head_kept : Bool
  head_kept = fields_kept && leb f.count most_orders

  pub head_few : not head_kept ≡ false → f.count ≤ most_orders
  head_few e = leb-true f.count most_orders (and_right fields_kept (leb f.count most_orders) (not-false head_kept e))

  fails : file_kept f ≡ false → None ≡ file_test f
  unfolding file_test
  fails k = rw k

  pub no_head : not head_kept ≡ true → None ≡ file_test f
  unfolding file_kept_by
  no_head e = fails (rw (not-true head_kept e))

  -- ---- its orders, and the places after them
  module _ {os unused : List Order} (o : os ≡ held f) (u : unused ≡ drop f.count f.orders) where
    pub no_orders : all_of order_kept os ≡ false → None ≡ file_test f
    unfolding file_kept_by
    no_orders q =
        let e : all_of order_kept (held f) ≡ false = sym (ap (all_of order_kept) o) ∙ q in
        fails (rw (e, and-false (head_kept && eqb (length f.orders) most_orders)))

    pub no_references : distinct os ≡ false → None ≡ file_test f
    unfolding file_kept_by
    no_references q =
        let e : distinct (held f) ≡ false = sym (ap distinct o) ∙ q in
        fails (rw (e, and-false (head_kept && eqb (length f.orders) most_orders && all_of order_kept (held f))))

    -- the places after the orders decide where the other parts passed
    module _ (eight : length f.orders ≡ most_orders) (h : not head_kept ≡ false) (k : all_of order_kept os ≡ true) (d : distinct os ≡ true) where
      by_rest : {is : Bool} → is ≡ file_kept f → cond is (Some (packed_counts (held f))) None ≡ file_test f
      unfolding file_test
      by_rest b = ap (λ (is : Bool). cond is (Some (packed_counts (held f))) None) b

      rest : file_kept f ≡ all_of is_blank unused
      unfolding file_kept_by
      rest = rw (
        not-false head_kept h,
        eq-eqb (length f.orders) most_orders eight,
        sym (ap (all_of order_kept) o) ∙ k,
        sym (ap distinct o) ∙ d,
      ) (ap (all_of is_blank) (sym u))

      pub decides : (is : Bool) → is ≡ all_of is_blank unused → {waiting : ℕ} → waiting ≡ packed_counts os
          → then_some is waiting ≡ file_test f
      unfolding file_test
      decides true b e = ap Some (e ∙ ap packed_counts o) ∙ by_rest (b ∙ sym rest)
      decides false b e = by_rest (b ∙ sym rest)
