-- Document 02, change 11, "Waiting orders at a glance", over the record call's promise and the question's; proofs/Waiting.antt proves it.
use Rattle.std.specs.Prelude.{ℕ, ◌≡◌, List}
use Rattle.premise.specs.declared.File.{File}
use Rattle.premise.specs.Orders.{in_review, permit_pending, scheduled, cancel_pending}
use Rattle.book.specs.declared.Waiting.{Waiting}
use Rattle.book.specs.Totals.{orders_in}
use Rattle.book.specs.Book.{files_of, fresh_book}
use Rattle.book.specs.Promise.{Shown}
use Rattle.demands.specs.Demand3.{Made, Played, last_book, AllAllowed, Premise, own_bytes}

-- four totals are "the count over all files", status by status
pub record CountsOver (fs : List File) (shown : Waiting) : Type 0 where
  pub review : shown.review ≡ orders_in in_review fs
  pub permit : shown.permit ≡ orders_in permit_pending fs
  pub dated : shown.scheduled ≡ orders_in scheduled fs
  pub cancel : shown.cancel ≡ orders_in cancel_pending fs

-- "They equal the count over all files after every list of calls from a fresh book." What the question promises of the last book, whatever
-- the calls were, accepted or refused, by row 6 too, with any bytes and any buffers.
abbrev pub TotalsAreCounts : Type 0
TotalsAreCounts =
    (calendar : List ℕ) (start : ℕ) (ms : List Made) (shown : Waiting)
    → Played calendar (fresh_book start) ms
    → Shown (last_book (fresh_book start) ms) shown
    → CountsOver (files_of (last_book (fresh_book start) ms)) shown

-- "Two shuffled tapes show equal totals under the premises that hold for their books": those of `ShuffleProof`.
abbrev pub ShuffledTotals : Type 0
ShuffledTotals =
    (calendar : List ℕ) (start : ℕ) (one other : List Made) (shown seen : Waiting)
    → Played calendar (fresh_book start) one → AllAllowed (fresh_book start) one
    → Played calendar (fresh_book start) other → AllAllowed (fresh_book start) other
    → ((premise : ℕ) → Premise premise → own_bytes premise one ≡ own_bytes premise other)
    → Shown (last_book (fresh_book start) one) shown → Shown (last_book (fresh_book start) other) seen
    → shown ≡ seen
