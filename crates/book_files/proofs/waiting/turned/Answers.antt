-- `turned` meets its contract, total by total.
use Rattle.book_files.specs.Turned.{turned}
use Rattle.book_files.proofs.waiting.turned.Goals as goal

pub turned_total-review-requires : goal.turned_total-review-requires
turned_total-review-requires c = let p = c.requires in (p.review.0, p.review.1, p.differ)

pub turned_total-permit-requires : goal.turned_total-permit-requires
turned_total-permit-requires c = let p = c.requires in (p.permit.0, p.permit.1, p.differ)

pub turned_total-scheduled-requires : goal.turned_total-scheduled-requires
turned_total-scheduled-requires c = let p = c.requires in (p.dated.0, p.dated.1, p.differ)

pub turned_total-cancel-requires : goal.turned_total-cancel-requires
turned_total-cancel-requires c = let p = c.requires in (p.cancel.0, p.cancel.1, p.differ)

pub returns : goal.returns
unfolding turned
returns c =
    λ i. record {
      review = c.turned_total-review.ensures i;
      permit = c.turned_total-permit.ensures i;
      scheduled = c.turned_total-scheduled.ensures i;
      cancel = c.turned_total-cancel.ensures i;
    }
