-- A call gives at most 1,024 notices, two for each order of 64 files of eight: they go into the buffer that it is lent. Assumes nothing.
use Prim.Native.Nat.{ℕ, ◌*◌, ◌≤◌}
use mathlib.Core.List.{List, [], ◌∷◌}
use native.Mathlib.Omega.{arith}
use lib.ListN.{length, length-append, length-take}
use Rattle.lists.specs.Search.{Each}
use Rattle.records.specs.Layout.{record_length}
use Rattle.premise.specs.declared.File.{File}
use Rattle.premise.specs.Orders.{most_orders}
use Rattle.premise.specs.WellKept.{FileKept}
use Rattle.premise.specs.OnePremise.{marked}
use Rattle.premise_laws.proofs.Few.{mark_few, step_few}
use Rattle.book.specs.Book.{files_of, file_for}
use Rattle.book.specs.Calls.{marked_notices, premise_state}
use Rattle.book.specs.Laws.{MarkAllFew, StepAllFew, CallFew}
use Rattle.book.proofs.Kept.{count_is, book_kept_means}
use Rattle.book.proofs.Keeps.{found_kept, kept_ones, by_call}

-- two notices for each of eight orders, file by file
marks_few : (calendar : List ℕ) (day : ℕ) (fs : List File) → Each FileKept fs
    → length (marked_notices calendar day fs) ≤ 2 * most_orders * length fs
marks_few calendar day [] u = omega arith
marks_few calendar day (f ∷ fs) u =
    omega (
      arith,
      mark_few calendar day f u.0,
      length-take f.count f.orders,
      u.0.tidy.few,
      marks_few calendar day fs u.1,
      length-append (marked calendar day f).notices (marked_notices calendar day fs),
    )

pub mark_all_few : MarkAllFew
mark_all_few calendar b day k = omega (arith, marks_few calendar day (files_of b) k.files, k.tidy.few, count_is b k.tidy)

pub step_all_few : StepAllFew
step_all_few calendar b r k w t =
    omega (
      arith,
      step_few calendar (premise_state b r.premise) r w t
          (kept_ones r.premise (file_for r.premise (files_of b)) (found_kept b k r.premise)),
    )

pub call_few : CallFew
call_few calendar b bytes lent =
    by_call (λ x. record_length * length x.notices ≤ length lent) calendar b bytes lent
    (omega arith)
    (λ r p w t. omega (arith, p.room, mark_all_few calendar b r.day ((book_kept_means b).0 p.kept)))
    (λ r p w t full. omega (arith, p.room, step_all_few calendar b r ((book_kept_means b).0 p.kept) w t))
