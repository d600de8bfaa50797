-- Document 02, change 13: "For every list of calls from a fresh book: an accepted order that has been Complete is never afterwards
-- Cancelled or Unexecutable, nor the other way round, in any later file until it is dropped or its premise retired; after that its
-- reference may be used anew." About what calls returned, whatever their bytes and their buffers;
-- proofs/Endings.antt proves it (`endings`).
use Rattle.std.specs.Prelude.{ℕ, ◌≡◌, List, [], ◌∷◌, ◌++◌, true, false}
use Rattle.std.specs.Prelude.{Option, Some, None}
use Rattle.lists.specs.Search.{Each}
use Rattle.records.specs.declared.Record.{Record}
use Rattle.records.specs.Records.{reading, kind_new_order}
use Rattle.premise.specs.declared.Order.{Order}
use Rattle.premise.specs.Orders.{complete, cancelled, unexecutable, has_status, is_open, is_closed}
use Rattle.premise.specs.Steps.{is, new_order}
use Rattle.premise.specs.Refusals.{number, orders_of}
use Rattle.premise_laws.specs.Endings.{order_in, is_there, Goes}
use Rattle.book.specs.declared.Book.{Book}
use Rattle.book.specs.Book.{files_of, fresh_book, file_for}
use Rattle.demands.specs.Demand3.{Made, Played, last_book}

-- An order of a book, by its premise and its reference; or none.
unfoldable pub order_for : ℕ → ℕ → Book → Option Order
order_for premise reference b = order_in reference (orders_of (file_for premise (files_of b)))

-- after every call of a list
abbrev pub ThereAfterEach : ℕ → ℕ → List Made → Type 0
ThereAfterEach premise reference ms = Each (λ (m : Made). is_there (order_for premise reference m.reply.book) ≡ true) ms

-- ---- a closed order stays
-- The list is split anywhere: closed after the first part, and there after every call of the second, an order is the same in every field.
abbrev pub ClosedStays : Type 0
ClosedStays =
    (calendar : List ℕ) (start : ℕ) (first second : List Made) → Played calendar (fresh_book start) (first ++ second)
    → (premise reference : ℕ) (o : Order) → order_for premise reference (last_book (fresh_book start) first) ≡ Some o → is_closed o ≡ true
    → ThereAfterEach premise reference second
    → order_for premise reference (last_book (fresh_book start) (first ++ second)) ≡ Some o

-- ---- "until it is dropped or its premise retired"
-- A call is accepted with a record of a premise that takes an order away: a retire, or a new order that finds eight held, of which it is
-- the oldest closed one (`Goes`).
pub record Gone (b : Book) (premise : ℕ) (o : Order) (m : Made) : Type 0 where
  pub said : Record
  pub says : reading m.bytes ≡ Some said
  pub accepted : number m.reply.answer ≡ 0
  pub own : said.premise ≡ premise
  pub goes : Goes (orders_of (file_for premise (files_of b))) said o

-- an order that is there before a call and not after it is gone so
abbrev pub GoneByItsCall : Type 0
GoneByItsCall =
    (calendar : List ℕ) (start : ℕ) (before : List Made) (m : Made) → Played calendar (fresh_book start) (before ++ (m ∷ []))
    → (premise reference : ℕ) (o : Order) → order_for premise reference (last_book (fresh_book start) before) ≡ Some o
    → order_for premise reference m.reply.book ≡ None
    → Gone (last_book (fresh_book start) before) premise o m

-- an open order is there after the next call
abbrev pub OpenStaysThere : Type 0
OpenStaysThere =
    (calendar : List ℕ) (start : ℕ) (before : List Made) (m : Made) → Played calendar (fresh_book start) (before ++ (m ∷ []))
    → (premise reference : ℕ) (o : Order) → order_for premise reference (last_book (fresh_book start) before) ≡ Some o → is_open o ≡ true
    → is_there (order_for premise reference m.reply.book) ≡ true

-- no call of a list, made on a book and on those that the calls return, takes the order away
abbrev pub NeverGone : ℕ → ℕ → Book → List Made → Type 0
NeverGone premise reference b [] = Unit {0}
NeverGone premise reference b (m ∷ ms) =
    ((o : Order) → order_for premise reference b ≡ Some o → Gone b premise o m → ⊥) × NeverGone premise reference m.reply.book ms

-- so long it is there after every call
abbrev pub ThereUntilGone : Type 0
ThereUntilGone =
    (calendar : List ℕ) (start : ℕ) (first second : List Made) → Played calendar (fresh_book start) (first ++ second)
    → (premise reference : ℕ) → is_there (order_for premise reference (last_book (fresh_book start) first)) ≡ true
    → NeverGone premise reference (last_book (fresh_book start) first) second
    → ThereAfterEach premise reference second

-- ---- "an accepted order"
-- Each order that is there came by a call with a new order of its premise and reference, which was accepted where none was there; it began
-- as new orders do, by the T of that call, and it has been there ever since.
pub record Came (calendar : List ℕ) (start premise reference : ℕ) (ms : List Made) : Type 0 where
  pub before : List Made
  pub call : Made
  pub later : List Made
  pub whole : ms ≡ before ++ (call ∷ later)
  pub said : Record
  pub says : reading call.bytes ≡ Some said
  pub accepted : number call.reply.answer ≡ 0
  pub kind : is kind_new_order said ≡ true
  pub own : said.premise ≡ premise
  pub names : said.reference ≡ reference
  pub free : order_for premise reference (last_book (fresh_book start) before) ≡ None
  pub begins : order_for premise reference call.reply.book ≡ Some (new_order calendar (last_book (fresh_book start) before).today said)
  pub since : ThereAfterEach premise reference later

abbrev pub EachCame : Type 0
EachCame =
    (calendar : List ℕ) (start : ℕ) (ms : List Made) → Played calendar (fresh_book start) ms
    → (premise reference : ℕ) → is_there (order_for premise reference (last_book (fresh_book start) ms)) ≡ true
    → Came calendar start premise reference ms

-- ---- the sentence itself, as a corollary
-- Complete is not Cancelled or Unexecutable afterwards, nor the other way round.
pub record OneEnd (before after : Order) : Type 0 where
  pub complete_not_cancelled : has_status complete before ≡ true → has_status cancelled after ≡ false
  pub complete_not_unexecutable : has_status complete before ≡ true → has_status unexecutable after ≡ false
  pub cancelled_not_complete : has_status cancelled before ≡ true → has_status complete after ≡ false
  pub unexecutable_not_complete : has_status unexecutable before ≡ true → has_status complete after ≡ false

abbrev pub ComesToOneEnd : Type 0
ComesToOneEnd =
    (calendar : List ℕ) (start : ℕ) (first second : List Made) → Played calendar (fresh_book start) (first ++ second)
    → (premise reference : ℕ) (o after : Order)
    → order_for premise reference (last_book (fresh_book start) first) ≡ Some o
    → NeverGone premise reference (last_book (fresh_book start) first) second
    → order_for premise reference (last_book (fresh_book start) (first ++ second)) ≡ Some after
    → OneEnd o after

-- The first theorem, as one statement.
pub record Endings : Type 0 where
  pub stays : ClosedStays
  pub gone : GoneByItsCall
  pub open_there : OpenStaysThere
  pub until : ThereUntilGone
  pub came : EachCame
  pub one_end : ComesToOneEnd
