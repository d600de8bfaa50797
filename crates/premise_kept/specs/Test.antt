-- What the test of a file gives: nothing where it is not well kept, and where it is, how many of its orders are in each open status
-- (document 02, change 11), as one number.
use Rattle.std.specs.Prelude.{ℕ, ◌+◌, ◌*◌, List, cond, Option, Some, None}
use Rattle.lists.specs.Search.{count_of}
use Rattle.premise.specs.declared.Order.{Order}
use Rattle.premise.specs.declared.File.{File}
use Rattle.premise.specs.Orders.{in_review, permit_pending, scheduled, cancel_pending, has_status, held}
use Rattle.premise.specs.WellKept.{file_kept}

-- ---- four counts as one number: 16 bits for each
-- what one order counts in Permit Pending, Scheduled and Cancel Pending; In Review it counts 1
abbrev permit_place : ℕ
permit_place = 65536

abbrev scheduled_place : ℕ
scheduled_place = 4294967296

abbrev cancel_place : ℕ
cancel_place = 281474976710656

abbrev pub packed : ℕ → ℕ → ℕ → ℕ → ℕ
packed review permit dated cancel = review + permit_place * permit + scheduled_place * dated + cancel_place * cancel

-- how many of some orders are in each open status
abbrev pub packed_counts : List Order → ℕ
packed_counts os =
    packed (count_of (has_status in_review) os) (count_of (has_status permit_pending) os) (count_of (has_status scheduled) os)
    (count_of (has_status cancel_pending) os)

-- ---- the test of a file; of one that is not well kept nothing is counted
unfoldable pub file_test : File → Option ℕ
file_test f = cond (file_kept f) (Some (packed_counts (held f))) None
