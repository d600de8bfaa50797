-- Document 01, "One premise": orders and files.
use Rattle.std.specs.Prelude.{ℕ, ◌-◌, List, ◌++◌, Bool, not, ◌&&◌, ◌||◌, eqb, leb, length, take, replicate}
use Rattle.lists.specs.Search.{count_of}
use Rattle.records.specs.Records.{standard_switch, self_selected_switch}
use Rattle.premise.specs.declared.BusinessDays.{BusinessDays}
use Rattle.premise.specs.declared.CalendarDays.{CalendarDays}
use Rattle.premise.specs.declared.Order.{Order}
use Rattle.premise.specs.declared.File.{File}

-- up to 8 orders
abbrev pub most_orders : ℕ
most_orders = 8

-- Statuses.
abbrev pub in_review : ℕ
in_review = 1

abbrev pub permit_pending : ℕ
permit_pending = 2

abbrev pub scheduled : ℕ
scheduled = 3

abbrev pub cancel_pending : ℕ
cancel_pending = 4

abbrev pub complete : ℕ
complete = 5

abbrev pub cancelled : ℕ
cancelled = 6

abbrev pub unexecutable : ℕ
unexecutable = 7

abbrev pub has_status : ℕ → Order → Bool
has_status status o = eqb o.status status

abbrev pub has_kind : ℕ → Order → Bool
has_kind kind o = eqb o.kind kind

-- 1 to 4 are open, the others closed.
abbrev pub is_open : Order → Bool
is_open o = leb in_review o.status && leb o.status cancel_pending

abbrev pub is_closed : Order → Bool
is_closed o = not (is_open o)

-- Document 02, change 12. "No retailer ever has more than 4 open orders as Q at one premise."
abbrev pub most_of_one : ℕ
most_of_one = 4

-- an open order of a retailer, its Q; of a drop that is the gaining one
abbrev pub is_open_of : ℕ → Order → Bool
is_open_of retailer o = is_open o && eqb o.submitter retailer

-- how many open orders a retailer has among some orders
abbrev pub open_of : ℕ → List Order → ℕ
open_of retailer os = count_of (is_open_of retailer) os

-- Switches: K 3 and 4.
abbrev pub is_switch : Order → Bool
is_switch o = has_kind standard_switch o || has_kind self_selected_switch o

-- The retailer 0: the premise is de-energized.
abbrev pub no_retailer : ℕ
no_retailer = 0

-- N and W as counts in their own units
abbrev pub business_days : ℕ → BusinessDays
business_days n = record { 0 = n }

abbrev pub calendar_days : ℕ → CalendarDays
calendar_days n = record { 0 = n }

-- An order with one of its fields set anew.
abbrev pub with_status : ℕ → Order → Order
with_status status o =
    record {
      reference = o.reference;
      kind = o.kind;
      submitter = o.submitter;
      requested = o.requested;
      scheduled = o.scheduled;
      status = status;
      waited = o.waited;
      pending = o.pending;
      told = o.told;
      counter = o.counter;
    }

-- SD
abbrev pub with_scheduled : ℕ → Order → Order
with_scheduled day o =
    record {
      reference = o.reference;
      kind = o.kind;
      submitter = o.submitter;
      requested = o.requested;
      scheduled = day;
      status = o.status;
      waited = o.waited;
      pending = o.pending;
      told = o.told;
      counter = o.counter;
    }

-- N
abbrev pub with_waited : ℕ → Order → Order
with_waited days o =
    record {
      reference = o.reference;
      kind = o.kind;
      submitter = o.submitter;
      requested = o.requested;
      scheduled = o.scheduled;
      status = o.status;
      waited = business_days days;
      pending = o.pending;
      told = o.told;
      counter = o.counter;
    }

-- W
abbrev pub with_pending : ℕ → Order → Order
with_pending days o =
    record {
      reference = o.reference;
      kind = o.kind;
      submitter = o.submitter;
      requested = o.requested;
      scheduled = o.scheduled;
      status = o.status;
      waited = o.waited;
      pending = calendar_days days;
      told = o.told;
      counter = o.counter;
    }

abbrev pub with_told : ℕ → Order → Order
with_told told o =
    record {
      reference = o.reference;
      kind = o.kind;
      submitter = o.submitter;
      requested = o.requested;
      scheduled = o.scheduled;
      status = o.status;
      waited = o.waited;
      pending = o.pending;
      told = told;
      counter = o.counter;
    }

-- Cancelled, W 0. (Only Cancel Pending counts W: elsewhere it is 0 already.)
abbrev pub as_cancelled : Order → Order
as_cancelled o = with_pending 0 (with_status cancelled o)

-- an unused place: every field zero
abbrev pub blank : Order
blank = record {
  reference = 0;
  kind = 0;
  submitter = 0;
  requested = 0;
  scheduled = 0;
  status = 0;
  waited = business_days 0;
  pending = calendar_days 0;
  told = 0;
  counter = 0;
}

-- the orders that a file holds, oldest first
abbrev pub held : File → List Order
held f = take f.count f.orders

-- the eight places with some orders in the first of them
unfoldable pub places : List Order → List Order
places os = os ++ replicate (most_orders - length os) blank

-- a file with other orders
abbrev pub with_orders : File → List Order → File
with_orders f os =
    record {
      premise = f.premise;
      retailer = f.retailer;
      since = f.since;
      window = f.window;
      agreement = f.agreement;
      entered = f.entered;
      count = length os;
      orders = places os;
    }

-- A file with another retailer, R, since a day, S. Document 02, change 4: "the file keeps a mark" for whether a move in set it.
abbrev pub with_supply : File → ℕ → ℕ → ℕ → File
with_supply f retailer since entered =
    record {
      premise = f.premise;
      retailer = retailer;
      since = since;
      window = f.window;
      agreement = f.agreement;
      entered = entered;
      count = f.count;
      orders = f.orders;
    }

-- Document 02, change 3: "The file keeps C, 0 for none". A file with another C.
abbrev pub with_agreement : File → ℕ → File
with_agreement f agreement =
    record {
      premise = f.premise;
      retailer = f.retailer;
      since = f.since;
      window = f.window;
      agreement = agreement;
      entered = f.entered;
      count = f.count;
      orders = f.orders;
    }

-- a file of which every field is zero: an unused place of the book
abbrev pub blank_file : File
blank_file = record {
  premise = 0;
  retailer = 0;
  since = 0;
  window = 0;
  agreement = 0;
  entered = 0;
  count = 0;
  orders = replicate most_orders blank;
}

-- A width for every file: the one that it keeps, or one number throughout. Document 02, change 2, compares the two.
abbrev pub kept_width : File → ℕ
kept_width f = f.window

abbrev pub always : ℕ → File → ℕ
always width f = width
