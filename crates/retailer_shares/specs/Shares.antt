-- Document 02, change 12, "No retailer fills a flat's stack", over the record call's promise; proofs/Shares.antt proves it.
use Rattle.std.specs.Prelude.{ℕ, ◌≤◌, ◌<◌, ◌≡◌, List, true, false}
use Rattle.std.specs.Prelude.{Some}
use Rattle.lists.specs.Search.{any_of, count_of, Each}
use Rattle.records.specs.declared.Record.{Record}
use Rattle.records.specs.Records.{reading, kind_new_order}
use Rattle.premise.specs.declared.File.{File}
use Rattle.premise.specs.Orders.{most_orders, most_of_one, is_open, open_of, held}
use Rattle.premise.specs.Steps.{is}
use Rattle.premise.specs.Refusals.{Row, number, in_front_of}
use Rattle.book.specs.declared.Book.{Book}
use Rattle.book.specs.declared.Reply.{Reply}
use Rattle.book.specs.Book.{files_of, fresh_book, file_for}
use Rattle.book.specs.Calls.{call_rows}
use Rattle.book.specs.Promise.{Promised}
use Rattle.demands.specs.Demand3.{Made, Played, last_book}

-- "From a fresh book, no retailer ever has more than 4 open orders as Q at one premise." Whatever the calls were, accepted or refused; and
-- ever, since every beginning of such a list of calls is one.
abbrev pub NoRetailerFills : Type 0
NoRetailerFills =
    (calendar : List ℕ) (start : ℕ) (ms : List Made)
    → Played calendar (fresh_book start) ms
    → (retailer : ℕ) → Each (λ (f : File). open_of retailer (held f) ≤ most_of_one) (files_of (last_book (fresh_book start) ms))

-- "Whenever fewer than 8 are open, a new order whose Q has fewer than 4 there, and which no earlier row refuses, is accepted." The earlier
-- rows are those of the call's own table in front of 26.
pub record HasRoom (calendar : List ℕ) (b : Book) (bytes before : List ℕ) (r : Record) (f : File) : Type 0 where
  pub says : reading bytes ≡ Some r
  pub new : is kind_new_order r ≡ true
  pub there : file_for r.premise (files_of b) ≡ Some f
  pub no_earlier : any_of (λ (x : Row). x.when) (in_front_of 26 (call_rows calendar b bytes before)) ≡ false
  pub own : open_of r.retailer (held f) < most_of_one
  pub all : count_of is_open (held f) < most_orders

abbrev pub RoomForOthers : Type 0
RoomForOthers =
    (calendar : List ℕ) (b : Book) (bytes before : List ℕ) (reply : Reply) (after : List ℕ)
    → Promised calendar b bytes before reply after
    → (r : Record) (f : File) → HasRoom calendar b bytes before r f
    → number reply.answer ≡ 0
