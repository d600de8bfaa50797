-- Each way that the call of a record is made on a book that stays in its place. Assumes nothing.
use Prim.Native.Nat.{ℕ, ◌+◌, ◌*◌, ◌-◌, ◌≤◌, ◌<◌}
use mathlib.Core.Path.{◌≡◌, refl, sym, ap, subst, subst⁻¹, ◌∙◌}
use mathlib.Core.List.{List, []}
use Rattle.std.specs.Prelude.{Some}
use mathlib.Core.Bool.{Bool, true, false, cond}
use native.Mathlib.Omega.{arith}
use lib.ListN.{length, drop, get_or, set, replicate}
use lib.Seq.{paste, get_or-take, get_or-set_same}
use Rattle.lists.specs.Search.{any_of}
use Rattle.lists.specs.Shift.{inserted, removed}
use Rattle.lists.proofs.SearchLaws.{each_at}
use Rattle.records.specs.declared.Record.{Record}
use Rattle.records.specs.Layout.{record_length}
use Rattle.records.proofs.Readings.{says}
use Rattle.premise.specs.declared.File.{File}
use Rattle.std.specs.Prelude.{Ok, Err}
use Rattle.premise.specs.Refusals.{Answer}
use Rattle.premise.specs.declared.Refusal.{Refusal}
use Rattle.premise.specs.declared.Refusal.TheVariants.{OrderOpen}
use Rattle.premise.specs.Orders.{is_open, held, blank_file}
use Rattle.premise.specs.Steps.{new_file}
use Rattle.premise.specs.WellKept.{Tidy, FileKept}
use Rattle.premise.specs.OnePremise.{given_on}
use Rattle.premise.specs.Promises.{Room, Writes, StaysHeld}
use Rattle.premise.proofs.KindsOf.{needs_no_mark}
use Rattle.premise_laws.proofs.Few.{step_few}
use Rattle.premise_laws.proofs.Writes.{writes_none}
use Rattle.book.specs.declared.Book.{Book}
use Rattle.book.specs.declared.Waiting.{Waiting}
use Rattle.book.specs.Totals.{moved, Counts}
use Rattle.book.specs.Book.{most_files, files_of, book_of, book_kept}
use Rattle.book.specs.Calls.{notice_bytes, Result, refusal}
use Rattle.book.specs.CallsInRow.{called}
use Rattle.book.specs.Laws.{BookKept, StoresFile}
use Rattle.book.proofs.Kept.{count_is, book_kept_means}
use Rattle.book.proofs.OnHeld.{call_on_held}
use Rattle.book.proofs.CallsInRow.{called_room}
use Rattle.book_files.proofs.Tidy.{past, with_totals, with_places, length_files}
use Rattle.book_files.proofs.Moves.{place_counted, stored_totals}
use Rattle.book_player.specs.declared.dispatch.Task.{Task}
use Rattle.book_player.specs.declared.dispatch.Task.TheVariants.{Refused, Opens, Closes, NextDay}
use Rattle.book_player.specs.declared.dispatch.Task.TheVariants as variant
use Rattle.book_player.specs.Tasks.{Known, KnownOpens, KnownCloses, KnownHeld}
use Rattle.book_player.proofs.Closing.{closed}
use Rattle.book_player.proofs.Marking.{Asked, Marking, dated, mark_asks, mark_book, mark_wrote}
use Rattle.book_player.proofs.NoneWaiting.{NoneWaits, totals_put_in, totals_taken_out}
use Rattle.book_player.proofs.Opening.{opened}

-- a well_kept book, and a buffer in which some notices stand and those of any call find room
pub record Standing (b : Book) (standing : ℕ) (buffer : List ℕ) : Type 0 where
  pub kept : book_kept b ≡ true
  pub room : notice_bytes ≤ length buffer - record_length * standing

-- what stands after a record's call: its answer, how many notices stand then, the book and the buffer
pub record Outcome : Type 0 where
  pub answer : Answer
  pub sent : ℕ
  pub book : Book
  pub buffer : List ℕ

-- .. by whichever way it was made
pub record Made (calendar : List ℕ) (b : Book) (bytes : List ℕ) (standing : ℕ) (buffer : List ℕ) (o : Outcome) : Type 0 where
  pub answer : o.answer ≡ (called calendar b bytes).answer
  pub book : o.book ≡ (called calendar b bytes).book
  pub wrote : Writes standing buffer o.buffer o.sent (called calendar b bytes).notices

pub made_as : {calendar : List ℕ} {b : Book} {bytes : List ℕ} {standing : ℕ} {buffer : List ℕ} {o o' : Outcome} → o ≡ o'
    → Made calendar b bytes standing buffer o' → Made calendar b bytes standing buffer o
made_as {calendar} {b} {bytes} {standing} {buffer} e m = subst⁻¹ (Made calendar b bytes standing buffer) e m

-- what the call comes to, and what was done
made_of : {calendar : List ℕ} {b : Book} {bytes : List ℕ} {standing : ℕ} {buffer : List ℕ} {o : Outcome} (result : Result)
    → called calendar b bytes ≡ result → o.answer ≡ result.answer → o.book ≡ result.book
    → Writes standing buffer o.buffer o.sent result.notices
    → Made calendar b bytes standing buffer o
made_of {standing = standing} {buffer = buffer} {o = o} result e answer book wrote =
    record {
      answer = answer ∙ sym (ap (λ (x : Result). x.answer) e);
      book = book ∙ sym (ap (λ (x : Result). x.book) e);
      wrote = subst⁻¹ (λ (x : Result). Writes standing buffer o.buffer o.sent x.notices) e wrote;
    }

module _ {b : Book} {standing : ℕ} {buffer : List ℕ} (t : Standing b standing buffer) where
  pub well_kept : BookKept b
  well_kept = (book_kept_means b).0 t.kept

  -- what a day mark asks
  pub day_asks : (calendar : List ℕ) (day : ℕ) → Asked calendar day b standing buffer
  day_asks calendar day = mark_asks calendar b day standing buffer well_kept t.room

  -- a file of the book is well kept
  file_kept_lem : (at : ℕ) → at < b.count → FileKept (get_or b.files at past)
  file_kept_lem at h =
      subst FileKept (get_or-take b.count b.files at past h)
      (each_at FileKept (files_of b) at past (omega (arith, h, count_is b well_kept.tidy)) well_kept.files)

  -- ---- by what was found
  module _ (bytes : List ℕ) {task : Task} (told : Known bytes b past task) where
    known : (k : Task) → task ≡ k → Known bytes b past k
    known k is = subst (Known bytes b past) is told

    pub by_refusal : {calendar : List ℕ} {why : Refusal} → task ≡ Refused why
        → Made calendar b bytes standing buffer (record { answer = Err why; sent = standing; book = b; buffer = buffer })
    by_refusal {calendar} {why} is =
        made_of _ ((known (Refused why) is).result calendar) refl refl (writes_none standing buffer)

    -- ---- a record on the file at a place
    module _ {at : ℕ} {r : Record} (is : task ≡ variant.OnFile at r) where
      found : KnownHeld bytes b past at r
      found = known (variant.OnFile at r) is

      pub held_place : at < most_files
      held_place = omega (arith, found.held.within, well_kept.tidy.few)

      pub held_asks : (calendar : List ℕ) → Tidy (get_or b.files at past)
          × Room standing (given_on calendar b.today (Some (get_or b.files at past)) r).notices buffer × StaysHeld r
      held_asks calendar =
          let f = file_kept_lem at found.held.within in
          let few = step_few calendar (record { today = b.today; file = Some (get_or b.files at past) }) r
          (says bytes r found.says).formed (needs_no_mark r found.held.kind.needs) f in
          (f.tidy, omega (arith, few, t.room), found.held.kind)

      -- a file that is stored there stands there
      held_stored : (f : File) → get_or (set b.files at f) at past ≡ f
      held_stored f = get_or-set_same b.files at f past (omega (arith, length_files b well_kept.tidy, held_place))

      -- f is the file that it leaves
      module _ (calendar : List ℕ) {f : File} (left : Some f ≡ (given_on calendar b.today (Some (get_or b.files at past)) r).state.file) where
        stores : StoresFile calendar b bytes (replicate notice_bytes 0) r at
            (given_on calendar b.today (Some (get_or b.files at past)) r) f
        stores = call_on_held calendar b bytes _ r at past f t.kept called_room found.says found.held (sym left)

        -- what it asks to move the totals to the file that is left
        pub held_moves : Tidy (get_or b.files at past) × Tidy (get_or (set b.files at f) at past) × Counts b.waiting (get_or b.files at past)
        held_moves = (
          (file_kept_lem at found.held.within).tidy,
          subst⁻¹ Tidy (held_stored f) stores.file.kept.tidy,
          place_counted b well_kept at found.held.within,
        )

        pub by_file : {answer : Answer} → answer ≡ (given_on calendar b.today (Some (get_or b.files at past)) r).answer
            → {sent : ℕ} {after : List ℕ}
            → Writes standing buffer after sent (given_on calendar b.today (Some (get_or b.files at past)) r).notices
            → {totals : Waiting} → totals ≡ moved b.waiting (get_or b.files at past) (get_or (set b.files at f) at past)
            → Made calendar b bytes standing buffer
            (record {
              answer = answer;
              sent = sent;
              book = with_totals b b.count totals (set b.files at f);
              buffer = after;
            })
        by_file answered wrote sum =
            made_of _ stores.result answered
            (ap (λ (w : Waiting). with_totals b b.count w (set b.files at f))
            (stored_totals b well_kept at found.held.within f (sum ∙ ap (moved b.waiting (get_or b.files at past)) (held_stored f))))
            wrote

    -- ---- a mark of the next day
    pub by_marks : {calendar : List ℕ} {day : ℕ} → task ≡ NextDay day → {i sent : ℕ} {c : Book} {after : List ℕ}
        → Marking calendar day (dated day b) standing buffer i sent c after → b.count ≤ i
        → Made calendar b bytes standing buffer (record { answer = Ok tt; sent = sent; book = c; buffer = after })
    by_marks {calendar} {day} is m end =
        made_of _ ((known (NextDay day) is).result calendar) refl (mark_book m end) (mark_wrote m end)

    -- ---- a create opens a place
    module _ {at : ℕ} {r : Record} (is : task ≡ Opens at r) where
      opens : KnownOpens bytes b at r
      opens = known (Opens at r) is

      -- a new file holds no order
      pub by_opening : {calendar : List ℕ} {f : File} → f ≡ new_file r → {l : List File}
          → l ≡ paste b.files (at + 1) (drop at b.files) (b.count - at)
          → Made calendar b bytes standing buffer
          (record {
            answer = Ok tt;
            sent = standing;
            book = with_places b (b.count + 1) (set l at f);
            buffer = buffer;
          })
      by_opening {calendar} {f} new {l} moved_up =
          made_of _ (opens.result calendar) refl
          (opened b well_kept.tidy at f opens.within opens.free l moved_up
          (totals_put_in b well_kept.tidy at f (subst⁻¹ NoneWaits new refl))
          ∙ ap (λ (g : File). book_of b.today (inserted at g (files_of b))) new)
          (writes_none standing buffer)

    -- ---- a retire closes one
    module _ {at : ℕ} (is : task ≡ Closes at) where
      closes : KnownCloses bytes b past at
      closes = known (Closes at) is

      pub close_place : at < most_files
      close_place = omega (arith, closes.within, well_kept.tidy.few)

      pub closed_tidy : Tidy (get_or b.files at past)
      closed_tidy = (file_kept_lem at closes.within).tidy

      pub close_held : at < b.count
      close_held = closes.within

      -- what comes of it, by whether an order is open
      by_open : {one : Bool} → any_of is_open (held (get_or b.files at past)) ≡ one → (calendar : List ℕ)
          → called calendar b bytes ≡ cond one (refusal (Err OrderOpen) b)
          (record { answer = Ok tt; notices = []; book = book_of b.today (removed at (files_of b)) })
      by_open e calendar = closes.result calendar ∙ ap (λ (one : Bool). cond one (refusal (Err OrderOpen) b)
          (record { answer = Ok tt; notices = []; book = book_of b.today (removed at (files_of b)) })) e

      pub by_open_order : {calendar : List ℕ} → any_of is_open (held (get_or b.files at past)) ≡ true
          → Made calendar b bytes standing buffer
          (record { answer = Err OrderOpen; sent = standing; book = b; buffer = buffer })
      by_open_order {calendar} e = made_of _ (by_open e calendar) refl refl (writes_none standing buffer)

      pub by_closing : {calendar : List ℕ} → any_of is_open (held (get_or b.files at past)) ≡ false
          → {l : List File} → l ≡ paste b.files at (drop (at + 1) b.files) (b.count - (at + 1)) → {none : File} → none ≡ blank_file
          → Made calendar b bytes standing buffer
          (record {
            answer = Ok tt;
            sent = standing;
            book = with_places b (b.count - 1) (set l (b.count - 1) none);
            buffer = buffer;
          })
      by_closing {calendar} e {l} moved_down {none} blank =
          made_of _ (by_open e calendar) refl
          (closed b well_kept.tidy at closes.within l moved_down none blank (totals_taken_out b well_kept.tidy at closes.within e))
          (writes_none standing buffer)
