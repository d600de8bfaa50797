-- The four totals over a list of files: with another file at a place, with one put in, with one taken out; and how a stored file moves
-- them. Assumes nothing.
use Prim.Native.Nat.{ℕ, zero, suc, ◌+◌, ◌*◌, ◌≤◌, ◌<◌}
use mathlib.Core.Path.{◌≡◌, refl, sym, ap, ◌∙◌}
use mathlib.Core.List.{List, [], ◌∷◌, ◌++◌}
use mathlib.Core.Bool.{Bool, true, ◌&&◌}
use native.Mathlib.Numerals.{add-one}
use native.Mathlib.Omega.{arith}
use lib.Dec.{eqb}
use lib.ListN.{length, take, drop, get_or, set, length-take, take-append-drop}
use lib.Seq.{drop-cons}
use borrow.Author.Tests.{eqb-true, eq-eqb}
use Rattle.lists.specs.Search.{Each}
use Rattle.lists.specs.Shift.{inserted, removed}
use Rattle.lists.proofs.SearchLaws.{count_most}
use Rattle.lists.proofs.TestLaws.{pass_each, each_pass}
use Rattle.premise.specs.declared.File.{File}
use Rattle.premise.specs.Orders.{most_orders, in_review, permit_pending, scheduled, cancel_pending, has_status, held, blank_file}
use Rattle.premise.specs.WellKept.{FileKept}
use Rattle.book.specs.declared.Waiting.{Waiting}
use Rattle.book.specs.Totals.{orders_with, orders_in, waiting_in, same_totals, moved_total, moved, most_waiting, Among, Counts}
use Rattle.book.specs.Book.{most_files}
use Rattle.book.specs.Laws.{CountAfterStore, CountAfterInsert, CountAfterRemove}

-- ---- the same totals
pub same_totals_lem : (w v : Waiting) → same_totals w v ≡ true → w ≡ v
same_totals_lem w v e =
    let t = pass_each (eqb w.review v.review)
    (eqb w.permit v.permit ∷ eqb w.scheduled v.scheduled ∷ eqb w.cancel v.cancel ∷ []) e in
    λ i. record {
      review = eqb-true w.review v.review t.0 i;
      permit = eqb-true w.permit v.permit t.1.0 i;
      scheduled = eqb-true w.scheduled v.scheduled t.1.1.0 i;
      cancel = eqb-true w.cancel v.cancel t.1.1.1.0 i;
    }

pub totals_same : (w v : Waiting) → w ≡ v → same_totals w v ≡ true
totals_same w v e =
    each_pass (eqb w.review v.review)
    (eqb w.permit v.permit ∷ eqb w.scheduled v.scheduled ∷ eqb w.cancel v.cancel ∷ []) (
      eq-eqb w.review v.review (ap (λ (x : Waiting). x.review) e),
      (
        eq-eqb w.permit v.permit (ap (λ (x : Waiting). x.permit) e),
        (
          eq-eqb w.scheduled v.scheduled (ap (λ (x : Waiting). x.scheduled) e),
          (eq-eqb w.cancel v.cancel (ap (λ (x : Waiting). x.cancel) e), tt),
        ),
      ),
    )

-- ---- the count over a list
pub count_after_store : CountAfterStore
count_after_store status [] at past g h = absurd (omega arith)
count_after_store status (f ∷ fs) zero past g h = omega arith
count_after_store status (f ∷ fs) (suc at) past g h = let rest = count_after_store status fs at past g (omega arith) in omega (arith, rest)

count_parts : (status : ℕ) (fs gs : List File) → orders_in status (fs ++ gs) ≡ orders_in status fs + orders_in status gs
count_parts status [] gs = omega arith
count_parts status (f ∷ fs) gs = let rest = count_parts status fs gs in omega (arith, rest)

-- the files before a place and those from it on
count_split : (status : ℕ) (fs : List File) (at : ℕ) → orders_in status (take at fs) + orders_in status (drop at fs) ≡ orders_in status fs
count_split status fs at = sym (count_parts status (take at fs) (drop at fs)) ∙ ap (orders_in status) (take-append-drop at fs)

pub count_after_insert : CountAfterInsert
unfolding inserted
count_after_insert status fs at g =
    omega (arith, count_parts status (take at fs) (g ∷ drop at fs), count_split status fs at)

pub count_after_remove : CountAfterRemove
unfolding removed
count_after_remove status fs at past h =
    let next : drop at fs ≡ get_or fs at past ∷ drop (at + 1) fs = rw (add-one at, drop-cons fs at past h) in
    omega (
      arith,
      count_parts status (take at fs) (drop (at + 1) fs),
      count_split status fs at,
      ap (orders_in status) next,
    )

-- a file's orders are among those of the files
pub count_at : (status : ℕ) (fs : List File) (at : ℕ) (past : File) → at < length fs
    → orders_with status (get_or fs at past) ≤ orders_in status fs
count_at status fs at past h = omega (arith, count_after_remove status fs at past h)

-- eight orders a file
count_few : (status : ℕ) (fs : List File) → Each FileKept fs → orders_in status fs ≤ most_orders * length fs
count_few status [] u = omega arith
count_few status (f ∷ fs) u =
    omega (
      arith,
      count_most (has_status status) (held f),
      length-take f.count f.orders,
      u.0.tidy.few,
      count_few status fs u.1,
    )

-- ---- the four totals
-- the orders of a file that the files count are among the totals
counts_by : (fs : List File) (f : File) → length fs ≤ most_files → Each FileKept fs
    → ((status : ℕ) → orders_with status f ≤ orders_in status fs) → Counts (waiting_in fs) f
unfolding waiting_in
counts_by fs f few kept among =
    record { review = one in_review; permit = one permit_pending; dated = one scheduled; cancel = one cancel_pending }
  where
    one : (status : ℕ) → Among status f (orders_in status fs)
    one status = (among status, omega (arith, count_few status fs kept, few))

pub counts_none : (fs : List File) → length fs ≤ most_files → Each FileKept fs → Counts (waiting_in fs) blank_file
counts_none fs few kept = counts_by fs blank_file few kept (λ status. omega arith)

pub counts_at : (fs : List File) (at : ℕ) (past : File) → at < length fs → length fs ≤ most_files → Each FileKept fs
    → Counts (waiting_in fs) (get_or fs at past)
counts_at fs at past h few kept = counts_by fs (get_or fs at past) few kept (λ status. count_at status fs at past h)

-- they move as the count does, status by status
moved_as : (fs gs : List File) (before after : File)
    → ((status : ℕ) → orders_in status gs + orders_with status before ≡ orders_in status fs + orders_with status after)
    → moved (waiting_in fs) before after ≡ waiting_in gs
unfolding waiting_in moved
moved_as fs gs before after e =
    λ i. record { review = one in_review i; permit = one permit_pending i; scheduled = one scheduled i; cancel = one cancel_pending i }
  where
    one : (status : ℕ) → moved_total status before after (orders_in status fs) ≡ orders_in status gs
    one status = omega (arith, e status)

pub moved_store : (fs : List File) (at : ℕ) (past g : File) → at < length fs
    → moved (waiting_in fs) (get_or fs at past) g ≡ waiting_in (set fs at g)
moved_store fs at past g h = moved_as fs (set fs at g) (get_or fs at past) g (λ status. count_after_store status fs at past g h)

pub moved_insert : (fs : List File) (at : ℕ) (g : File) → moved (waiting_in fs) blank_file g ≡ waiting_in (inserted at g fs)
moved_insert fs at g = moved_as fs (inserted at g fs) blank_file g (λ status. omega (arith, count_after_insert status fs at g))

pub moved_remove : (fs : List File) (at : ℕ) (past : File) → at < length fs
    → moved (waiting_in fs) (get_or fs at past) blank_file ≡ waiting_in (removed at fs)
moved_remove fs at past h =
    moved_as fs (removed at fs) (get_or fs at past) blank_file (λ status. omega (arith, count_after_remove status fs at past h))

-- one file more at the end
pub moved_next : (fs : List File) (g : File) → moved (waiting_in fs) blank_file g ≡ waiting_in (fs ++ (g ∷ []))
moved_next fs g = moved_as fs (fs ++ (g ∷ [])) blank_file g (λ status. omega (arith, count_parts status fs (g ∷ [])))
