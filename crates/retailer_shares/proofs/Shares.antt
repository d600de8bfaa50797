-- No retailer fills a flat's stack: a call leaves every file within each retailer's share if it found it so, by the one-premise laws; and
-- where there is room no row from 26 on holds. Assumes nothing.
use Prim.Native.Nat.{ℕ, min}
use mathlib.Core.Path.{◌≡◌, refl, ap, ◌∙◌}
use mathlib.Core.List.{List, [], ◌∷◌}
use Rattle.std.specs.Prelude.{Option, Some}
use Rattle.lists.specs.Search.{any_of, Each}
use Rattle.days.specs.Days.{last_day}
use Rattle.records.specs.declared.Record.{Record}
use Rattle.records.specs.Records.{reading}
use Rattle.premise.specs.declared.File.{File}
use Rattle.premise.specs.Orders.{kept_width}
use Rattle.premise.specs.WellKept.{FileKept}
use Rattle.premise.specs.Refusals.{number, from_row, orders_of, premise_rows, file_rows}
use Rattle.premise.specs.OnePremise.{step}
use Rattle.premise.proofs.Answers.{holds}
use Rattle.premise.proofs.Table.{premise_row_numbers, from_skips, none_in_all, room_from_26}
use Rattle.premise_laws.specs.Laws.{WithinShare}
use Rattle.premise_laws.proofs.KeptPasses.{mark_keeps_shares}
use Rattle.premise_laws.proofs.KeptSteps.{step_keeps_shares}
use Rattle.book.specs.declared.Book.{Book}
use Rattle.book.specs.Book.{files_of, fresh_book, file_for, with_file}
use Rattle.book.specs.Calls.{record_rows, call_rows, premise_state, marked_files, call, call_rows_by}
use Rattle.book.proofs.Files.{found_each}
use Rattle.book.proofs.SameFiles.{with_each}
use Rattle.book.proofs.Kept.{holds_its_files, book_kept_means}
use Rattle.book.proofs.Keeps.{kept_ones, found_kept, by_call}
use Rattle.demands.specs.Demand3.{Made, Played, last_book}
use Rattle.retailer_shares.specs.Shares.{NoRetailerFills, RoomForOthers}
use Rattle.demands.proofs.Demand1.{zero_where_no_row}

-- ---- no retailer fills a stack
module _ (calendar : List ℕ) (retailer : ℕ) where
  -- within the retailer's share, file by file
  abbrev Within : List File → Type 0
  Within fs = Each (WithinShare retailer) fs

  marked_within : (day : ℕ) (fs : List File) → Each FileKept fs → Within fs → Within (marked_files calendar day fs)
  marked_within day [] k u = tt
  marked_within day (f ∷ fs) k u =
      (mark_keeps_shares calendar day f retailer k.0 u.0, marked_within day fs k.1 u.1)

  -- only an accepted call changes a file, and then its book is well kept
  call_within : (b : Book) (bytes lent : List ℕ) → Within (files_of b) → Within (files_of (call calendar b bytes lent).book)
  call_within b bytes lent u =
      by_call (λ x. Within (files_of x.book)) calendar b bytes lent u
      (λ r p w t.
      rw (holds_its_files r.day (marked_files calendar r.day (files_of b)))
      (marked_within r.day (files_of b) ((book_kept_means b).0 p.kept).files u))
      (λ r p w t full.
      let file : Option File = (step calendar (premise_state b r.premise) r).state.file in
      let kept = kept_ones r.premise (file_for r.premise (files_of b))
      (found_kept b ((book_kept_means b).0 p.kept) r.premise) in
      rw (holds_its_files b.today (with_file r.premise file (files_of b)))
      (with_each (WithinShare retailer) r.premise file (files_of b)
      (step_keeps_shares calendar (premise_state b r.premise) r retailer w kept
      (found_each (WithinShare retailer) r.premise (files_of b) u)) u))

  calls_within : (b : Book) (ms : List Made) → Played calendar b ms → Within (files_of b) → Within (files_of (last_book b ms))
  calls_within b [] p u = u
  calls_within b (m ∷ ms) p u =
      calls_within m.reply.book ms p.1 (rw p.0.book (call_within b m.bytes m.lent u))

pub no_retailer_fills : NoRetailerFills
no_retailer_fills calendar start ms p retailer =
    calls_within calendar retailer (fresh_book start) ms p (rw (holds_its_files (min start last_day) []) tt)

-- ---- room for others
-- the rows from 26 on are those of the premise's orders
rows_from_26 : (calendar : List ℕ) (b : Book) (bytes lent : List ℕ) (r : Record) → reading bytes ≡ Some r
    → from_row 26 (call_rows calendar b bytes lent)
    ≡ from_row 26 (file_rows calendar b.today (file_for r.premise (files_of b)) r)
unfolding call_rows_by number
rows_from_26 calendar b bytes lent r e =
    let file : Option File = file_for r.premise (files_of b) in
    ap (λ (d : Option Record). from_row 26 (record_rows calendar b d)) e
    ∙ from_skips 26 (premise_rows file r) _ (rw (premise_row_numbers file r) refl)

pub room_for_others : RoomForOthers
room_for_others calendar b bytes before reply after p r f h =
    (zero_where_no_row calendar b bytes before reply after p).1
    (none_in_all 26 (call_rows calendar b bytes before) h.no_earlier
    (ap (any_of holds)
    (rows_from_26 calendar b bytes before r h.says
    ∙ ap (λ (file : Option File). from_row 26 (file_rows calendar b.today file r)) h.there)
    ∙ room_from_26 (kept_width f) calendar b.today (orders_of (Some f)) r h.new h.own h.all))
