-- The four totals on the walk over the places of two files: what has been moved so far, and at the end. Assumes nothing.
use Prim.Native.Nat.{ℕ, zero, suc, ◌+◌, ◌-◌, ◌≤◌, ◌<◌}
use mathlib.Core.Path.{◌≡◌, refl, sym, ap, subst⁻¹, ◌∙◌, ap₂}
use mathlib.Core.List.{[], ◌∷◌}
use native.Mathlib.Numerals.{add-one}
use native.Mathlib.Omega.{arith}
use lib.ListN.{length, take, drop, get_or, replicate, length-append, length-replicate, length-take, take-append-drop}
use lib.Seq.{take-suc, take_all}
use borrow.Author.Tests.{eq-eqb, ne_eqb}
use Rattle.lists.specs.Search.{count_of}
use Rattle.lists.proofs.SearchLaws.{count_most, count_append}
use Rattle.premise.specs.declared.Order.{Order}
use Rattle.premise.specs.declared.File.{File}
use Rattle.premise.specs.Orders.{most_orders, in_review, permit_pending, scheduled, cancel_pending, has_status, blank, held, places}
use Rattle.premise.specs.WellKept.{Tidy}
use Rattle.book.specs.declared.Waiting.{Waiting}
use Rattle.book.specs.Totals.{orders_with, moved_total, moved, Among, Counts}
use Rattle.book_files.specs.Turned.{one_if, turned_total, turned, TurnsTotal, Turns}

-- ---- one order turns
module _ (status left came total : ℕ) (differ : left ≡ came → ⊥) where
  pub comes_in : came ≡ status → total + 1 ≡ turned_total status left came total
  comes_in e = rw (eq-eqb came status e, ne_eqb left status (λ q. differ (q ∙ sym e))) (omega arith)

  pub goes_out : (came ≡ status → ⊥) → left ≡ status → total - 1 ≡ turned_total status left came total
  goes_out n e = rw (ne_eqb came status n, eq-eqb left status e) (omega arith)

  pub stays_out : (came ≡ status → ⊥) → (left ≡ status → ⊥) → total ≡ turned_total status left came total
  stays_out n m = rw (ne_eqb came status n, ne_eqb left status m) (omega arith)

pub counted_out : (status left total : ℕ) → one_if status left ≤ total → left ≡ status → 1 ≤ total
counted_out status left total h e = let one : one_if status left ≡ 1 = rw (eq-eqb left status e) refl in omega (arith, h, one)

-- ---- the orders on a file's places
-- the eight of them
pub eight : (f : File) → Tidy f → length f.orders ≡ most_orders
unfolding places
eight f tidy =
    ap length tidy.whole ∙ length-append (held f) (replicate (most_orders - length (held f)) blank)
    ∙ omega (
      arith,
      length-replicate (most_orders - length (held f)) blank,
      length-take f.count f.orders,
      tidy.few,
    )

module _ (status : ℕ) where
  -- how many of the first i have a status
  abbrev pub count_to : ℕ → File → ℕ
  count_to i f = count_of (has_status status) (take i f.orders)

  unused_uncounted : 0 < status → (n : ℕ) → count_of (has_status status) (replicate n blank) ≡ 0
  unused_uncounted h zero = refl
  unused_uncounted h (suc n) = rw (ne_eqb 0 status (omega (arith, h))) (omega (arith, unused_uncounted h n))

  -- on all of them as many as the file holds: an unused place has status 0
  count_whole : (f : File) → Tidy f → 0 < status → count_of (has_status status) f.orders ≡ orders_with status f
  unfolding places
  count_whole f tidy h =
      ap (count_of (has_status status)) tidy.whole
      ∙ count_append (has_status status) (held f) (replicate (most_orders - length (held f)) blank)
      ∙ omega (arith, unused_uncounted h (most_orders - length (held f)))

  count_start : (f : File) (i : ℕ) → count_to i f ≤ count_of (has_status status) f.orders
  count_start f i =
      omega (
        arith,
        count_append (has_status status) (take i f.orders) (drop i f.orders),
        ap (count_of (has_status status)) (take-append-drop i f.orders),
      )

  count_more : (f : File) (d : Order) (i : ℕ) → i < length f.orders → count_to (i + 1) f ≡ count_to i f + one_if status
      (get_or f.orders i d).status
  count_more f d i h =
      ap (λ (n : ℕ). count_to n f) (add-one i)
      ∙ ap (count_of (has_status status)) (take-suc f.orders i d h)
      ∙ count_append (has_status status) (take i f.orders) (get_or f.orders i d ∷ [])
      ∙ omega arith

  -- a total on the way: moved by the first i places
  abbrev pub Moving : File → File → ℕ → ℕ → ℕ → Type 0
  Moving before after i total now = now + count_to i before ≡ total + count_to i after

-- ---- the four on the way
pub record Turning (w : Waiting) (before after : File) (totals : Waiting) (place : ℕ) : Type 0 where
  pub within : place ≤ most_orders
  pub leaves : Tidy before
  pub comes : Tidy after
  pub counts : Counts w before
  pub review : Moving in_review before after place w.review totals.review
  pub permit : Moving permit_pending before after place w.permit totals.permit
  pub dated : Moving scheduled before after place w.scheduled totals.scheduled
  pub cancel : Moving cancel_pending before after place w.cancel totals.cancel

pub turning_none : (w : Waiting) (before after : File) → Tidy before → Tidy after → Counts w before → Turning w before after w 0
turning_none w before after leaves comes counts =
    record {
      within = omega arith;
      leaves = leaves;
      comes = comes;
      counts = counts;
      review = omega arith;
      permit = omega arith;
      dated = omega arith;
      cancel = omega arith;
    }

module _ {w : Waiting} {before after : File} {totals : Waiting} {place : ℕ} (t : Turning w before after totals place) where
  module _ (d : Order) (h : place < most_orders) where
    abbrev left : ℕ
    left = (get_or before.orders place d).status

    abbrev came : ℕ
    came = (get_or after.orders place d).status

    -- by status
    module _ (status : ℕ) (above : 0 < status) (total now : ℕ) (among : Among status before total)
        (m : Moving status before after place total now) where
      before_more : count_to status (place + 1) before ≡ count_to status place before + one_if status left
      before_more = count_more status before d place (omega (arith, h, eight before t.leaves))

      after_more : count_to status (place + 1) after ≡ count_to status place after + one_if status came
      after_more = count_more status after d place (omega (arith, h, eight after t.comes))

      -- the order that leaves is counted, and one more can be
      asks : TurnsTotal status left now
      asks = (
        omega (arith, m, before_more, count_start status before (place + 1), count_whole status before t.leaves above, among.0),
        omega (
          arith,
          m,
          among.1,
          count_most (has_status status) (take place after.orders),
          length-take place after.orders,
          h,
        ),
      )

      turns : Moving status before after (place + 1) total (turned_total status left came now)
      turns = omega (arith, m, asks.0, before_more, after_more)

      stays : left ≡ came → Moving status before after (place + 1) total now
      stays e = let same = ap (one_if status) e in omega (arith, m, before_more, after_more, same)

    pub turning_asks : (left ≡ came → ⊥) → Turns left came totals
    turning_asks differ =
        record {
          differ = differ;
          review = asks in_review (omega arith) w.review totals.review t.counts.review t.review;
          permit = asks permit_pending (omega arith) w.permit totals.permit t.counts.permit t.permit;
          dated = asks scheduled (omega arith) w.scheduled totals.scheduled t.counts.dated t.dated;
          cancel = asks cancel_pending (omega arith) w.cancel totals.cancel t.counts.cancel t.cancel;
        }

    all_turned : Turning w before after (turned left came totals) (place + 1)
    unfolding turned
    all_turned =
        record {
          within = omega (arith, h);
          leaves = t.leaves;
          comes = t.comes;
          counts = t.counts;
          review = turns in_review (omega arith) w.review totals.review t.counts.review t.review;
          permit = turns permit_pending (omega arith) w.permit totals.permit t.counts.permit t.permit;
          dated = turns scheduled (omega arith) w.scheduled totals.scheduled t.counts.dated t.dated;
          cancel = turns cancel_pending (omega arith) w.cancel totals.cancel t.counts.cancel t.cancel;
        }

    -- an order turns
    pub turning_more : {next : Waiting} → next ≡ turned left came totals → Turning w before after next (place + 1)
    turning_more e = subst⁻¹ (λ (x : Waiting). Turning w before after x (place + 1)) e all_turned

    -- a place has the status that it had
    pub turning_still : left ≡ came → Turning w before after totals (place + 1)
    turning_still e =
        record {
          within = omega (arith, h);
          leaves = t.leaves;
          comes = t.comes;
          counts = t.counts;
          review = stays in_review (omega arith) w.review totals.review t.counts.review t.review e;
          permit = stays permit_pending (omega arith) w.permit totals.permit t.counts.permit t.permit e;
          dated = stays scheduled (omega arith) w.scheduled totals.scheduled t.counts.dated t.dated e;
          cancel = stays cancel_pending (omega arith) w.cancel totals.cancel t.counts.cancel t.cancel e;
        }

  -- ---- a turn of the walk, which reads the orders at the place
  module _ (inside : place < length before.orders) (d : Order) {l c : Order} (left_is : l ≡ get_or before.orders place d)
      (came_is : c ≡ get_or after.orders place d)
    where
      below : place < most_orders
      below = omega (arith, inside, eight before t.leaves)

      one : l.status ≡ (get_or before.orders place d).status
      one = ap (λ (o : Order). o.status) left_is

      other : c.status ≡ (get_or after.orders place d).status
      other = ap (λ (o : Order). o.status) came_is

      pub turn_asks : (l.status ≡ c.status → ⊥) → Turns l.status c.status totals
      turn_asks differ =
          subst⁻¹ (λ (s : ℕ). Turns s c.status totals) one
          (subst⁻¹ (λ (s : ℕ). Turns (get_or before.orders place d).status s totals) other
          (turning_asks d below (λ q. differ (one ∙ q ∙ sym other))))

      module _ {n : ℕ} (next : n ≡ place + 1) where
        pub turn_more : {after_it : Waiting} → after_it ≡ turned l.status c.status totals → Turning w before after after_it n
        turn_more {after_it} e =
            subst⁻¹ (Turning w before after after_it) next
            (turning_more d below (e ∙ ap₂ (λ (x y : ℕ). turned x y totals) one other))

        pub turn_still : l.status ≡ c.status → Turning w before after totals n
        turn_still e = subst⁻¹ (Turning w before after totals) next (turning_still d below (sym one ∙ e ∙ other))

  -- all places are passed
  module _ (h : most_orders ≤ place) where
    whole : (status : ℕ) → 0 < status → (f : File) → Tidy f → count_to status place f ≡ orders_with status f
    whole status above f tidy =
        ap (count_of (has_status status)) (take_all place f.orders (omega (arith, h, eight f tidy))) ∙ count_whole status f tidy above

    ends : (status : ℕ) → 0 < status → (total now : ℕ) → Among status before total → Moving status before after place total now
        → now ≡ moved_total status before after total
    ends status above total now among m =
        omega (arith, m, whole status above before t.leaves, whole status above after t.comes, among.0)

    pub turning_end : totals ≡ moved w before after
    unfolding moved
    turning_end =
        λ i. record {
          review = ends in_review (omega arith) w.review totals.review t.counts.review t.review i;
          permit = ends permit_pending (omega arith) w.permit totals.permit t.counts.permit t.permit i;
          scheduled = ends scheduled (omega arith) w.scheduled totals.scheduled t.counts.dated t.dated i;
          cancel = ends cancel_pending (omega arith) w.cancel totals.cancel t.counts.cancel t.cancel i;
        }
