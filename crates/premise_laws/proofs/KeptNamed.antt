-- Kinds 4 to 9 and 11 leave a well_kept file: the order that they name was open, and stands in its place with its reference and its Q,
-- kept; a meter read takes R from an order's Q or from C and S from the record's day, all in range. Assumes nothing.
use Prim.Native.Nat.{ℕ, ◌<◌}
use mathlib.Core.Path.{◌≡◌, refl, sym, ◌∙◌}
use mathlib.Core.List.{List}
use mathlib.Core.Bool.{true, not, ◌&&◌, ◌||◌}
use native.Mathlib.Omega.{arith}
use lib.Dec.{eqb, leb}
use lib.ListN.{length, get_or, set}
use lib.Seq.{map-set_same}
use borrow.Author.Tests.{eqb-true}
use Rattle.std.specs.Prelude.{Option, Some, None}
use Rattle.lists.specs.Search.{Each}
use Rattle.lists.proofs.TestLaws.{by_test, and_left, and_right, or_either}
use Rattle.lists.proofs.SearchLaws.{each_set, each_at, place_in, count_set}
use Rattle.records.specs.declared.Record.{Record}
use Rattle.records.specs.Records.{kind_scheduled, kind_permit, kind_unexecutable, kind_read, kind_cancel, move_in, move_out}
use Rattle.records.specs.Records.{kind_date_change, last_counter, a_retailer_or_none, well_formed}
use Rattle.premise.specs.declared.Order.{Order}
use Rattle.premise.specs.declared.File.{File}
use Rattle.premise.specs.Orders.{in_review, scheduled, has_kind, has_status, is_open, is_open_of, blank, held}
use Rattle.premise.specs.Steps.{is, named, order_at, taken, on_permit, on_order, on_date_change, on_named, is_held_off, supplied, changed}
use Rattle.premise.specs.OnePremise.{at_place}
use Rattle.premise_laws.specs.Laws.{KeptFor}
use Rattle.premise_laws.proofs.KeptOrders.{OrderKept, orders_facts, in_status_lem}
use Rattle.premise_laws.proofs.KeptChanges.{Leaves, LeavesBy}
use Rattle.premise_laws.proofs.KeptKinds.{leaves_scheduled, leaves_permit, leaves_unexecutable, leaves_read, leaves_cancel}
use Rattle.premise_laws.proofs.KeptKinds.{leaves_reply}
use Rattle.premise_laws.proofs.KeptReferences.{has_reference}
use Rattle.premise_laws.proofs.KeptPasses.{was_of, LeavesAll, LeavesFile, HeaderKept, header_of, file_after}
use Rattle.premise_laws.proofs.KeptRecords.{wait_few, scheduled_fits, read_fits, date_change_fits}
use Rattle.premise.proofs.Taken.{taken_permit, taken_read, taken_date_change, taken_open}

-- ---- the order that is named; it is taken, since row 14 did not hold, and so it is open
module _ (calendar : List ℕ) (today : ℕ) (f : File) (r : Record) (o : Order) (w : well_formed r ≡ true) (t : taken r o ≡ true)
    (k : OrderKept o) where
  was : is_open o ≡ true
  was = taken_open r o t

  permit_leaves : is kind_permit r ≡ true → Leaves o (on_permit f r o).order
  permit_leaves e =
      let p = sym (taken_permit r o (eqb-true r.kind kind_permit e)) ∙ t in
      leaves_permit f r o k was (and_left (has_kind move_in o) (has_status in_review o) p)
      (and_right (has_kind move_in o) (has_status in_review o) p)

  order_leaves : Leaves o (on_order f r o).order
  unfolding on_order
  order_leaves =
      by_test (LeavesBy o) (is kind_scheduled r) _ _ (λ e. leaves_scheduled f r o k was (scheduled_fits r w e).day)
      (λ q. by_test (LeavesBy o) (is kind_permit r) _ _ permit_leaves
      (λ q. by_test (LeavesBy o) (is kind_unexecutable r) _ _ (λ e. leaves_unexecutable f r o k was)
      (λ q. by_test (LeavesBy o) (is kind_read r) _ _
      (λ e. leaves_read f r o k was (read_fits r w e).day (sym (taken_read r o (eqb-true r.kind kind_read e)) ∙ t))
      (λ q. by_test (LeavesBy o) (is kind_cancel r) _ _ (λ e. leaves_cancel f r o k was)
      (λ q. leaves_reply f r o k was)))))

  -- it was In Review or Scheduled, and so W is 0
  no_pending : is kind_date_change r ≡ true → eqb o.pending.0 0 ≡ true
  no_pending e =
      let fits = sym (taken_date_change r o (eqb-true r.kind kind_date_change e)) ∙ t in
      or_either (has_status in_review o) (has_status scheduled o)
      (and_right (has_kind move_in o || has_kind move_out o) (has_status in_review o || has_status scheduled o) fits)
      (λ s. (in_status_lem in_review o s k).pending) (λ s. (in_status_lem scheduled o s k).pending)

  date_leaves : is kind_date_change r ≡ true → Leaves o (on_date_change calendar today f r o).order
  unfolding on_date_change
  date_leaves e =
      record {
        reference = refl;
        submitter = refl;
        was_open = λ q. was;
        kept = record {
          reference = k.reference;
          kind = k.kind;
          submitter = k.submitter;
          requested = (date_change_fits r w e).day;
          status = refl;
          scheduled = refl;
          permit = refl;
          waited = wait_few calendar today;
          pending = no_pending e;
          told = refl;
          counter = and_right (leb 1 r.retailer) (leb r.retailer last_counter) (date_change_fits r w e).retailer;
        };
      }

  pub named_order_leaves : Leaves o (on_named calendar today f r o).order
  unfolding on_named
  named_order_leaves = by_test (LeavesBy o) (is kind_date_change r) _ _ date_leaves (λ e. order_leaves)

  -- R becomes Q, or C for a move out; S the day, of a meter read
  supplied_keeps : (premise : ℕ) → KeptFor premise f → HeaderKept premise (supplied f r o)
  unfolding supplied
  supplied_keeps premise h =
      by_test (HeaderKept premise) (is kind_read r && has_status scheduled o && leb f.since r.day && not (is_held_off f r o)) _ f
      (λ e. record {
        number = h.number;
        known = h.kept.premise;
        window = h.kept.window;
        agreement = h.kept.agreement;
        retailer = by_test (λ (q : ℕ). a_retailer_or_none q ≡ true) (has_kind move_out o) f.agreement o.submitter
            (λ q. h.kept.agreement)
            (λ q. and_right (leb 1 o.submitter) (a_retailer_or_none o.submitter) k.submitter);
        since = (read_fits r w
            (and_left (is kind_read r) (has_status scheduled o)
            (and_left (is kind_read r && has_status scheduled o) (leb f.since r.day)
            (and_left (is kind_read r && has_status scheduled o && leb f.since r.day) (not (is_held_off f r o)) e)))).day;
        entered = by_test (λ (q : ℕ). leb q 1 ≡ true) (has_kind move_in o) 1 0 (λ q. refl) (λ q. refl);
      })
      (λ e. header_of premise f h)

-- ---- the file
-- an order changed in its place
pub set_leaves : (os : List Order) (i : ℕ) (o : Order) → Each OrderKept os → Leaves (get_or os i blank) o → LeavesAll os (set os i o)
set_leaves os i o k a =
    record {
      references = map-set_same (λ (x : Order). x.reference) os i o blank a.reference;
      open_of_lem = λ retailer. count_set (is_open_of retailer) os i o blank (was_of retailer (get_or os i blank) o a);
      kept = each_set OrderKept os i o k a.kept;
    }

pub named_leaves : (calendar : List ℕ) (today : ℕ) (f : File) (r : Record) → well_formed r ≡ true → taken r
    (order_at (held f) (named r (held f))) ≡ true
    → (premise : ℕ) → KeptFor premise f → LeavesFile premise f (at_place calendar today f r (named r (held f))).file
unfolding changed
named_leaves calendar today f r w t premise h = go (named r (held f)) (place_in (has_reference r.reference) (held f)) t
  where
    go : (found : Option ℕ) → ((i : ℕ) → found ≡ Some i → i < length (held f)) → taken r (order_at (held f) found) ≡ true
        → LeavesFile premise f (at_place calendar today f r found).file
    go (Some i) b t =
        let o = get_or (held f) i blank in
        let os = orders_facts (held f) h.kept.orders in
        let k = each_at OrderKept (held f) i blank (b i refl) os in
        file_after premise f (supplied f r o) (set (held f) i (on_named calendar today f r o).order) h
        (supplied_keeps calendar today f r o w t k premise h)
        (set_leaves (held f) i (on_named calendar today f r o).order os (named_order_leaves calendar today f r o w t k))
    go None b t = record { kept = h; references = refl; open_of_lem = λ retailer. omega arith }
