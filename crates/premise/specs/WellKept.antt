-- Document 01, "The book": well kept, for one file. A test, and the facts behind it; proofs/KeptFiles.antt has the law between the two.
use Rattle.std.specs.Prelude.{◌≤◌, ◌≡◌, List, [], ◌∷◌, Bool, true, cond, not, ◌&&◌, ◌||◌, eqb, leb, length, drop}
use Rattle.lists.specs.Search.{any_of, all_of}
use Rattle.days.specs.Days.{no_day, is_day}
use Rattle.days.specs.Window.{most_width}
use Rattle.records.specs.Layout.{Layout, wide}
use Rattle.records.specs.Records.{move_in, a_reference, a_premise, a_retailer_by, a_retailer_or_none_by, a_retailer_or_none, an_order_kind, last_counter}
use Rattle.premise.specs.declared.Order.{Order}
use Rattle.premise.specs.declared.File.{File}
use Rattle.premise.specs.Orders.{most_orders, in_review, permit_pending, scheduled, cancel_pending, complete, unexecutable, has_status}
use Rattle.premise.specs.Orders.{has_kind, held, places}
use Rattle.premise.specs.Clock.{most_waited, most_pending}

-- SD none in statuses 1 and 2 and a day in 3 and 5; in the others a day or none.
abbrev pub day_fits : Order → Bool
day_fits o =
    cond (has_status in_review o || has_status permit_pending o) (eqb o.scheduled no_day)
    (cond (has_status scheduled o || has_status complete o) (is_day o.scheduled)
    (leb o.scheduled no_day))

-- status 2 only with K 1
abbrev pub permit_fits : Order → Bool
permit_fits o = not (has_status permit_pending o) || has_kind move_in o

-- W at most 6 in status 4 and 0 elsewhere
abbrev pub pending_fits : Order → Bool
pending_fits o = cond (has_status cancel_pending o) (not (leb most_pending o.pending.0)) (eqb o.pending.0 0)

-- An order with every field in range: a retailer by the layout's limit (document 02, change 7), and the counter of date changes, which is
-- kept as wide as the field that it comes from, any number of 32 bits.
unfoldable pub order_kept_by : Layout → Order → Bool
order_kept_by layout o =
    a_reference o.reference
    && an_order_kind o.kind
    && a_retailer_by layout o.submitter
    && is_day o.requested
    && (leb in_review o.status && leb o.status unexecutable)
    && day_fits o
    && permit_fits o
    && leb o.waited.0 most_waited
    && pending_fits o
    && leb o.told 1
    && leb o.counter last_counter

abbrev pub order_kept : Order → Bool
order_kept = order_kept_by wide

-- F distinct in a file
abbrev pub distinct : List Order → Bool
distinct [] = true
distinct (o ∷ os) = not (any_of (λ (other : Order). eqb other.reference o.reference) os) && distinct os

-- an unused place is zero in every field
unfoldable pub is_blank : Order → Bool
is_blank o =
    eqb o.reference 0
    && eqb o.kind 0
    && eqb o.submitter 0
    && eqb o.requested 0
    && eqb o.scheduled 0
    && eqb o.status 0
    && eqb o.waited.0 0
    && eqb o.pending.0 0
    && eqb o.told 0
    && eqb o.counter 0

-- A file is well kept. Document 02, change 2: "The file keeps the width from 1 to 5, and a book with another width isn't well kept." (It
-- has eight places by its type; the definition, over lists, says so.)
unfoldable pub file_kept_by : Layout → File → Bool
file_kept_by layout f =
    a_premise f.premise
    && a_retailer_or_none_by layout f.retailer
    && is_day f.since
    && (leb 1 f.window && leb f.window most_width)
    && a_retailer_or_none_by layout f.agreement
    && leb f.entered 1
    && leb f.count most_orders
    && eqb (length f.orders) most_orders
    && all_of (order_kept_by layout) (held f)
    && distinct (held f)
    && all_of is_blank (drop f.count f.orders)

abbrev pub file_kept : File → Bool
file_kept = file_kept_by wide

-- an unused place of the book is zero in every field
unfoldable pub file_blank : File → Bool
file_blank f =
    eqb f.premise 0
    && eqb f.retailer 0
    && eqb f.since 0
    && eqb f.window 0
    && eqb f.agreement 0
    && eqb f.entered 0
    && eqb f.count 0
    && eqb (length f.orders) most_orders
    && all_of is_blank f.orders

-- At most eight orders, and the places after them unused: what the functions on a file ask of it.
pub record Tidy (f : File) : Type 0 where
  pub few : f.count ≤ most_orders
  pub whole : f.orders ≡ places (held f)

-- the facts of a well_kept file
pub record FileKept (f : File) : Type 0 where
  pub premise : a_premise f.premise ≡ true
  pub retailer : a_retailer_or_none f.retailer ≡ true
  pub since : is_day f.since ≡ true
  pub window : (leb 1 f.window && leb f.window most_width) ≡ true
  pub agreement : a_retailer_or_none f.agreement ≡ true
  pub entered : leb f.entered 1 ≡ true
  pub orders : all_of order_kept (held f) ≡ true
  pub references : distinct (held f) ≡ true
  pub tidy : Tidy f
