-- Document 02, change 11, "Waiting orders at a glance": "how many orders are in each open status", and the four totals of a book.
use Rattle.std.specs.Prelude.{ℕ, ◌+◌, ◌-◌, ◌≤◌, List, [], ◌∷◌, Bool, ◌&&◌, eqb}
use Rattle.lists.specs.Search.{count_of}
use Rattle.premise.specs.declared.File.{File}
use Rattle.premise.specs.Orders.{in_review, permit_pending, scheduled, cancel_pending, has_status, held}
use Rattle.book.specs.declared.Waiting.{Waiting}

-- how many orders that a file holds have a status ..
abbrev pub orders_with : ℕ → File → ℕ
orders_with status f = count_of (has_status status) (held f)

-- .. and how many that a list of files holds: "the count over all files"
abbrev pub orders_in : ℕ → List File → ℕ
orders_in status [] = 0
orders_in status (f ∷ fs) = orders_with status f + orders_in status fs

-- "The book keeps four totals": that count for each open status.
unfoldable pub waiting_in : List File → Waiting
waiting_in fs =
    record {
      review = orders_in in_review fs;
      permit = orders_in permit_pending fs;
      scheduled = orders_in scheduled fs;
      cancel = orders_in cancel_pending fs;
    }

-- whether four totals are another four
abbrev pub same_totals : Waiting → Waiting → Bool
same_totals w v =
    eqb w.review v.review
    && eqb w.permit v.permit
    && eqb w.scheduled v.scheduled
    && eqb w.cancel v.cancel

-- ---- a file in the place of another
-- a total, moved from the one to the other: nothing but the two files is counted again
abbrev pub moved_total : ℕ → File → File → ℕ → ℕ
moved_total status before after total = total + orders_with status after - orders_with status before

unfoldable pub moved : Waiting → File → File → Waiting
moved w before after =
    record {
      review = moved_total in_review before after w.review;
      permit = moved_total permit_pending before after w.permit;
      scheduled = moved_total scheduled before after w.scheduled;
      cancel = moved_total cancel_pending before after w.cancel;
    }

-- 64 files of eight orders
abbrev pub most_waiting : ℕ
most_waiting = 512

-- What a move asks of the totals: the orders of the file that leaves are among them, and they are no more than a book's orders.
abbrev pub Among : ℕ → File → ℕ → Type 0
Among status f total = (orders_with status f ≤ total) × (total ≤ most_waiting)

pub record Counts (w : Waiting) (f : File) : Type 0 where
  pub review : Among in_review f w.review
  pub permit : Among permit_pending f w.permit
  pub dated : Among scheduled f w.scheduled
  pub cancel : Among cancel_pending f w.cancel
