-- A file of which no order waits: put into a book or taken out of it, it leaves the totals as they are. Assumes nothing.
use Prim.Native.Nat.{ℕ, ◌≤◌, ◌<◌}
use mathlib.Core.Path.{◌≡◌, refl, sym, ap, subst⁻¹, ◌∙◌}
use mathlib.Core.List.{List, [], ◌∷◌}
use mathlib.Core.Bool.{Bool, true, false, cond, ◌&&◌}
use native.Mathlib.Omega.{arith}
use lib.ListN.{get_or}
use borrow.Author.Tests.{le-leb, ne_eqb}
use Rattle.lists.specs.Search.{any_of, count_of}
use Rattle.lists.specs.Shift.{inserted, removed}
use Rattle.lists.proofs.TestLaws.{or_left, or_right}
use Rattle.premise.specs.declared.File.{File}
use Rattle.premise.specs.declared.Order.{Order}
use Rattle.premise.specs.Orders.{in_review, permit_pending, scheduled, cancel_pending, has_status, is_open, held, blank_file}
use Rattle.book.specs.declared.Book.{Book}
use Rattle.book.specs.declared.Waiting.{Waiting}
use Rattle.book.specs.Totals.{waiting_in, moved_total, moved}
use Rattle.book.specs.Book.{files_of}
use Rattle.book.specs.Laws.{TidyBook}
use Rattle.book.proofs.Kept.{count_is, totals_are}
use Rattle.book.proofs.Totals.{moved_insert, moved_remove}
use Rattle.book_files.proofs.Tidy.{past, at_file}

-- no order that it holds is open
abbrev pub NoneWaits : File → Type 0
NoneWaits f = any_of is_open (held f) ≡ false

-- so none has an open status
none_with : (status : ℕ) → in_review ≤ status → status ≤ cancel_pending → (os : List Order) → any_of is_open os ≡ false
    → count_of (has_status status) os ≡ 0
none_with status low high [] e = refl
none_with status low high (o ∷ os) e =
    let closed = or_left (is_open o) (any_of is_open os) e in
    let other : o.status ≡ status → ⊥ = λ q.
    let one = le-leb in_review o.status (omega (arith, q, low)) in
    let four = le-leb o.status cancel_pending (omega (arith, q, high)) in
    let waits : is_open o ≡ true = λ i. one i && four i in
    let z : ◌≡◌ {A = ℕ} 0 1 = ap (λ (a : Bool). cond a 1 0) (sym closed ∙ waits) in absurd (omega (arith, z)) in
    let this : ◌≡◌ {A = ℕ} (cond (has_status status o) 1 0) 0 = ap (λ (a : Bool). cond a 1 0) (ne_eqb o.status status other) in
    omega (arith, this, none_with status low high os (or_right (is_open o) (any_of is_open os) e))

-- it in the place of such another
moved_none : (w : Waiting) (f g : File) → NoneWaits f → NoneWaits g → w ≡ moved w f g
unfolding moved
moved_none w f g before after =
    λ i. record {
      review = one in_review (omega arith) (omega arith) w.review i;
      permit = one permit_pending (omega arith) (omega arith) w.permit i;
      scheduled = one scheduled (omega arith) (omega arith) w.scheduled i;
      cancel = one cancel_pending (omega arith) (omega arith) w.cancel i;
    }
  where
    one : (status : ℕ) → in_review ≤ status → status ≤ cancel_pending → (total : ℕ) → total ≡ moved_total status f g total
    one status low high total =
        omega (arith, none_with status low high (held f) before, none_with status low high (held g) after)

module _ (b : Book) (tidy : TidyBook b) (at : ℕ) where
  pub totals_put_in : (f : File) → NoneWaits f → b.waiting ≡ waiting_in (inserted at f (files_of b))
  totals_put_in f none =
      totals_are b tidy ∙ moved_none (waiting_in (files_of b)) blank_file f refl none ∙ moved_insert (files_of b) at f

  pub totals_taken_out : at < b.count → NoneWaits (get_or b.files at past) → b.waiting ≡ waiting_in (removed at (files_of b))
  totals_taken_out h none =
      totals_are b tidy
      ∙ moved_none (waiting_in (files_of b)) (get_or (files_of b) at past) blank_file (subst⁻¹ NoneWaits (sym (at_file b at h)) none) refl
      ∙ moved_remove (files_of b) at past (omega (arith, h, count_is b tidy))
