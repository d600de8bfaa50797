-- Document 02, change 13: "And an accepted order in In Review that no later record names turns Cancel Pending at the first later accepted
-- mark at which N, once counted on, is at least 20, or is at least 3 with T at least RD, and Cancelled at the seventh accepted mark after
-- that one, if the tape goes so far." About what calls returned, for every book on the way; proofs/Waiting.antt proves it.
use Rattle.std.specs.Prelude.{ℕ, ◌+◌, ◌-◌, ◌≤◌, ◌<◌, ◌≡◌, List, [], ◌∷◌, ◌++◌, Bool, true, false, ◌&&◌, eqb}
use Rattle.std.specs.Prelude.{Option, Some, None}
use Rattle.records.specs.declared.Record.{Record}
use Rattle.lists.specs.Search.{count_of, Each}
use Rattle.days.specs.Days.{no_day}
use Rattle.records.specs.Records.{reading, kind_day_mark}
use Rattle.premise.specs.declared.Order.{Order}
use Rattle.premise.specs.Orders.{in_review, cancel_pending, cancelled, has_status, with_status, with_waited, with_pending}
use Rattle.premise.specs.Steps.{is}
use Rattle.premise.specs.Refusals.{number}
use Rattle.book.specs.declared.Book.{Book}
use Rattle.book.specs.Book.{fresh_book}
use Rattle.demands.specs.Demand3.{Made, Played, last_book}
use Rattle.order_ends.specs.Endings.{order_for, ThereAfterEach}
use Rattle.order_ends.specs.TurningDay.{counted_to, turning_day}

-- ---- accepted marks
abbrev pub is_mark : Option Record → Bool
is_mark None = false
is_mark (Some r) = is kind_day_mark r

abbrev pub is_accepted_mark : Made → Bool
is_accepted_mark m = eqb (number m.reply.answer) 0 && is_mark (reading m.bytes)

-- T after a list of calls is T before it and a day for each accepted mark in it.
abbrev pub MarksMoveDay : Type 0
MarksMoveDay =
    (calendar : List ℕ) (start : ℕ) (first second : List Made) → Played calendar (fresh_book start) (first ++ second)
    → (last_book (fresh_book start) (first ++ second)).today ≡ (last_book (fresh_book start) first).today + count_of is_accepted_mark second

-- ---- "that no later record names"
-- a record with an order's premise and reference
abbrev pub is_named : ℕ → ℕ → Option Record → Bool
is_named premise reference None = false
is_named premise reference (Some r) = eqb r.premise premise && eqb r.reference reference

-- No accepted one does: a record that is refused changes nothing, so that it may.
abbrev pub Unnamed : ℕ → ℕ → Made → Type 0
Unnamed premise reference m = number m.reply.answer ≡ 0 → is_named premise reference (reading m.bytes) ≡ false

-- ---- what comes of it, from a day on
abbrev pub turning_of : List ℕ → ℕ → Order → ℕ
turning_of calendar today o = turning_day calendar today o.waited.0 o.requested

-- as it was, with N counted on to a day
abbrev pub counted_on : List ℕ → ℕ → Order → ℕ → Order
counted_on calendar today o day = with_waited (counted_to calendar today o.waited.0 day) o

-- the same with N as on the turning day, and Cancel Pending with W
abbrev pub pending_for : List ℕ → ℕ → Order → ℕ → Order
pending_for calendar today o days =
    with_pending days (with_status cancel_pending (counted_on calendar today o (turning_of calendar today o)))

-- or Cancelled
abbrev pub cancelled_of : List ℕ → ℕ → Order → Order
cancelled_of calendar today o = with_pending 0 (with_status cancelled (counted_on calendar today o (turning_of calendar today o)))

-- An order at T, then the calls of a list and the book after them: before the turning day it is In Review, from it on for seven days Cancel
-- Pending, and with the mark of the seventh day after it Cancelled; and so for as long as it is there.
pub record Hangs (calendar : List ℕ) (premise reference : ℕ) (o : Order) (today : ℕ) (calls : List Made) (after : Book) : Type 0 where
  pub unscheduled : o.scheduled ≡ no_day
  pub waits : after.today < turning_of calendar today o
      → order_for premise reference after ≡ Some (counted_on calendar today o after.today)
  pub pends : turning_of calendar today o ≤ after.today → after.today ≤ turning_of calendar today o + 6
      → order_for premise reference after ≡ Some (pending_for calendar today o (after.today - turning_of calendar today o))
  pub ends : (before : List Made) (m : Made) → calls ≡ before ++ (m ∷ []) → is_accepted_mark m ≡ true
      → after.today ≡ turning_of calendar today o + 7
      → order_for premise reference after ≡ Some (cancelled_of calendar today o)
  pub stays : turning_of calendar today o + 7 ≤ after.today → ThereAfterEach premise reference calls
      → order_for premise reference after ≡ Some (cancelled_of calendar today o)

-- The second theorem: the list is split anywhere; the order is in review after the first part, and no accepted record of the second names
-- it.
abbrev pub HangsUntilItsDay : Type 0
HangsUntilItsDay =
    (calendar : List ℕ) (start : ℕ) (first second : List Made) → Played calendar (fresh_book start) (first ++ second)
    → (premise reference : ℕ) (o : Order) → order_for premise reference (last_book (fresh_book start) first) ≡ Some o
    → has_status in_review o ≡ true → Each (Unnamed premise reference) second
    → Hangs calendar premise reference o (last_book (fresh_book start) first).today second (last_book (fresh_book start) (first ++ second))
