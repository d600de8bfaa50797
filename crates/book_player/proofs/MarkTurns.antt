-- A turn of a day mark: the next file is marked, or stays since the mark does not change it. Assumes nothing.
use Prim.Native.Nat.{ℕ, zero, suc, ◌+◌, ◌-◌, ◌≤◌, ◌<◌}
use mathlib.Core.Path.{◌≡◌, sym, ap, subst, subst⁻¹, ◌∙◌}
use mathlib.Core.List.{List, [], ◌∷◌, ◌++◌, append-nil, map-append}
use mathlib.Core.Bool.{Bool, false}
use native.Mathlib.Numerals.{add-one}
use native.Mathlib.Omega.{arith}
use lib.Dec.{leb}
use lib.ListN.{take, drop, length, get_or, set, length-take, length-drop, length-append}
use lib.Seq.{take-suc, set-get_or, get_or-set_same}
use borrow.Author.Tests.{leb-true}
use Rattle.lists.specs.Search.{Each}
use Rattle.lists.proofs.SearchLaws.{each_at, each_append}
use Rattle.lists.proofs.TestLaws.{and_left, and_right}
use Rattle.lists.proofs.Over.{next_at, next_stored}
use Rattle.days.specs.Days.{is_business_day}
use Rattle.days.specs.Window.{most_width, LastInWindow, LastDays}
use Rattle.records.specs.declared.Notice.{Notice}
use Rattle.premise.specs.declared.File.{File}
use Rattle.premise.specs.Orders.{in_review, permit_pending, scheduled, cancel_pending}
use Rattle.premise.specs.Passes.{Effect}
use Rattle.premise.specs.OnePremise.{marked}
use Rattle.premise.specs.WellKept.{Tidy, FileKept}
use Rattle.premise.specs.Promises.{Room, Writes}
use Rattle.premise_laws.proofs.Writes.{room_then, writes_none, writes_then}
use Rattle.premise_laws.specs.Changes.{mark_changes_file}
use Rattle.premise_laws.proofs.MarkChanges.{unchanged_stays}
use Rattle.book.specs.declared.Book.{Book}
use Rattle.book.specs.declared.Waiting.{Waiting}
use Rattle.book.specs.Totals.{waiting_in, moved_total, moved, Counts}
use Rattle.book.specs.Book.{most_files, files_of}
use Rattle.book.specs.Calls.{marked_files, marked_notices}
use Rattle.book.specs.Laws.{TidyBook}
use Rattle.book.proofs.Kept.{count_is}
use Rattle.book.proofs.Totals.{counts_at, moved_store}
use Rattle.book.proofs.Marks.{marked_one, marked_each, mark_tells_in_order}
use Rattle.book_files.proofs.Tidy.{past, with_totals, with_places, at_file, length_files}
use Rattle.book_player.proofs.Marking.{marked_to, Marking, room_for, length_marked}

-- ---- parts of a list
each_start : (fs : List File) (i : ℕ) → Each FileKept fs → Each FileKept (take i fs)
each_start fs zero u = tt
each_start [] (suc i) u = tt
each_start (f ∷ fs) (suc i) u = (u.0, each_start fs i u.1)

each_rest : (fs : List File) (i : ℕ) → Each FileKept fs → Each FileKept (drop i fs)
each_rest fs zero u = u
each_rest [] (suc i) u = tt
each_rest (f ∷ fs) (suc i) u = each_rest fs i u.1

-- a file stored over itself moves no total
moved_nothing : (w : Waiting) (f : File) → w ≡ moved w f f
unfolding moved
moved_nothing w f =
    λ i. record {
      review = nothing in_review w.review i;
      permit = nothing permit_pending w.permit i;
      scheduled = nothing scheduled w.scheduled i;
      cancel = nothing cancel_pending w.cancel i;
    }
  where
    nothing : (status total : ℕ) → total ≡ moved_total status f f total
    nothing status total = omega arith

module _ {calendar : List ℕ} {day : ℕ} {b : Book} {standing : ℕ} {buffer : List ℕ} {i sent : ℕ} {c : Book}
    {after : List ℕ} (m : Marking calendar day b standing buffer i sent c after) (h : i < b.count) where
  tidy : TidyBook b
  tidy = m.asked.0

  -- the first i files, marked, and their notices
  abbrev done : List File
  done = marked_files calendar day (take i (files_of b))

  abbrev told : List Notice
  told = marked_notices calendar day (take i (files_of b))

  pub mark_place : i < most_files
  mark_place = omega (arith, h, tidy.few)

  inside : i < length (files_of b)
  inside = omega (arith, count_is b tidy)

  done-length : length done ≡ i
  done-length = length_marked calendar day (take i (files_of b)) ∙ omega (arith, length-take i (files_of b), inside)

  -- it
  abbrev file : File
  file = get_or (files_of b) i past

  has_place : i < length b.files
  has_place = omega (arith, length_files b tidy, mark_place)

  -- with it the first i + 1 files
  files_more : take (i + 1) (files_of b) ≡ take i (files_of b) ++ (file ∷ [])
  files_more = rw (add-one i, take-suc (files_of b) i past inside)

  done_more : marked_files calendar day (take (i + 1) (files_of b)) ≡ done ++ ((marked calendar day file).file ∷ [])
  done_more = ap (marked_files calendar day) files_more
      ∙ map-append (λ (f : File). (marked calendar day f).file) (take i (files_of b)) (file ∷ [])

  told_more : marked_notices calendar day (take (i + 1) (files_of b)) ≡ told ++ (marked calendar day file).notices
  told_more =
      ap (marked_notices calendar day) files_more
      ∙ mark_tells_in_order calendar day (take i (files_of b)) (file ∷ [])
      ∙ ap (λ (l : List Notice). told ++ l) (append-nil (marked calendar day file).notices)

  room_more : Room standing (told ++ (marked calendar day file).notices) buffer
  room_more = subst (λ (l : List Notice). Room standing l buffer) told_more (room_for m (i + 1))

  -- it is as it was
  same_file_lem : get_or c.files i past ≡ file
  same_file_lem =
      ap (λ (x : Book). get_or x.files i past) m.here
      ∙ next_at past done b.files i done-length has_place
      ∙ at_file b i h

  -- it is well kept: tidy, and its window has one of the widths of which the last days are known; and there is room for its notices
  kept : FileKept (get_or c.files i past)
  kept = subst⁻¹ FileKept same_file_lem (each_at FileKept (files_of b) i past inside m.asked.1)

  pub mark_tidy : Tidy (get_or c.files i past)
  mark_tidy = kept.tidy

  -- its width, as a place among the five
  abbrev width : ℕ
  width = (get_or c.files i past).window

  pub mark_width : (1 ≤ width) × (width ≤ most_width)
  mark_width = (
    leb-true 1 width (and_left (leb 1 width) (leb width most_width) kept.window),
    leb-true width most_width (and_right (leb 1 width) (leb width most_width) kept.window),
  )

  -- the last day in its window stands there
  pub mark_window : (ends : List ℕ) → LastDays calendar day ends → LastInWindow calendar width day (get_or ends (width - 1) 0)
  mark_window ends lasts =
      let e : width - 1 + 1 ≡ width = omega (arith, mark_width.0) in
      subst (λ (w : ℕ). LastInWindow calendar w day (get_or ends (width - 1) 0)) e
      (lasts.each (width - 1) (omega (arith, mark_width.0, mark_width.1)))

  pub mark_room : Room sent (marked calendar day (get_or c.files i past)).notices after
  mark_room =
      subst⁻¹ (λ (f : File). Room sent (marked calendar day f).notices after) same_file_lem
      (room_then standing buffer told (marked calendar day file).notices room_more after sent m.wrote)

  -- ---- the files as they stand, of which the totals are
  abbrev standing_files : List File
  standing_files = marked_to calendar day i (files_of b) (files_of b)

  standing_inside : i < length standing_files
  standing_inside =
      omega (arith, length-append done (drop i (files_of b)), done-length, length-drop i (files_of b), inside)

  standing_few : length standing_files ≤ most_files
  standing_few =
      omega (
        arith,
        length-append done (drop i (files_of b)),
        done-length,
        length-drop i (files_of b),
        inside,
        count_is b tidy,
        tidy.few,
      )

  standing_kept : Each FileKept standing_files
  standing_kept =
      each_append FileKept done (drop i (files_of b))
      (marked_each calendar day (take i (files_of b)) (each_start (files_of b) i m.asked.1)) (each_rest (files_of b) i m.asked.1)

  standing_totals : c.waiting ≡ waiting_in standing_files
  standing_totals = ap (λ (x : Book). x.waiting) m.here

  standing_file : get_or standing_files i past ≡ get_or c.files i past
  standing_file = next_at past done (files_of b) i done-length inside ∙ sym same_file_lem

  -- a file that is stored there stands there
  mark_stored : (g : File) → get_or (set c.files i g) i past ≡ g
  mark_stored g =
      get_or-set_same c.files i g past
      (subst⁻¹ (λ (fs : List File). i < length fs) (ap (λ (x : Book). x.files) m.here)
      (omega (arith, length-append done (drop i b.files), done-length, length-drop i b.files, has_place)))

  -- what it asks to move them to the file that is left
  pub mark_moves : {f : File} → f ≡ (marked calendar day (get_or c.files i past)).file
      → Tidy (get_or c.files i past) × Tidy (get_or (set c.files i f) i past) × Counts c.waiting (get_or c.files i past)
  mark_moves {f} left = (
    mark_tidy,
    subst⁻¹ Tidy (mark_stored f ∙ left) (marked_one calendar day (get_or c.files i past) kept).kept.tidy,
    subst⁻¹ (λ (w : Waiting). Counts w (get_or c.files i past)) standing_totals
        (subst (Counts (waiting_in standing_files)) standing_file
        (counts_at standing_files i past standing_inside standing_few standing_kept)),
  )

  -- the marked file stored among some places
  stored_in : (places : List File) → i < length places → (f : File) → f ≡ (marked calendar day file).file
      → set (marked_to calendar day i (files_of b) places) i f ≡ marked_to calendar day (i + 1) (files_of b) places
  stored_in places k f e =
      next_stored past done places i done-length k f
      ∙ ap (λ (g : File). (done ++ (g ∷ [])) ++ drop (i + 1) places) e
      ∙ ap (λ (l : List File). l ++ drop (i + 1) places) (sym done_more)

  -- one turn
  pub mark_more : {g : File} → g ≡ (marked calendar day (get_or c.files i past)).file
      → {now : ℕ} {last : List ℕ} → Writes sent after last now (marked calendar day (get_or c.files i past)).notices
      → {totals : Waiting} → totals ≡ moved c.waiting (get_or c.files i past) (get_or (set c.files i g) i past)
      → Marking calendar day b standing buffer (i + 1) now (with_totals c c.count totals (set c.files i g)) last
  mark_more {g} left {now} {last} raw {totals} stored_sum =
      let sum : totals ≡ moved c.waiting (get_or c.files i past) g =
      stored_sum ∙ ap (moved c.waiting (get_or c.files i past)) (mark_stored g) in
      let stored : g ≡ (marked calendar day file).file = subst (λ (f : File). g ≡ (marked calendar day f).file) same_file_lem left in
      let wrote : Writes sent after last now (marked calendar day file).notices =
      subst (λ (f : File). Writes sent after last now (marked calendar day f).notices) same_file_lem raw in
      record {
        asked = m.asked;
        within = omega arith;
        here =
            ap (λ (x : Book). with_totals x x.count totals (set x.files i g)) m.here
            ∙ (λ j. record {
              today = day;
              count = b.count;
              waiting = (sum ∙ (λ k. moved (standing_totals k) (sym standing_file k) g)
                  ∙ moved_store standing_files i past g standing_inside
                  ∙ ap waiting_in (stored_in (files_of b) inside g stored)) j;
              files = stored_in b.files has_place g stored j;
            });
        wrote =
            subst⁻¹ (λ (l : List Notice). Writes standing buffer last now l) told_more
            (writes_then standing buffer told (marked calendar day file).notices room_more after sent m.wrote last now wrote);
      }

  -- a turn on a file that the mark does not touch
  pub mark_still : {business touches : Bool} (last : ℕ) → business ≡ is_business_day calendar day → LastInWindow calendar width day last
      → touches ≡ mark_changes_file business day last (get_or c.files i past) → touches ≡ false
      → Marking calendar day b standing buffer (i + 1) sent c after
  mark_still last day-kind window tested stays =
      let f : File = get_or c.files i past in
      let e : marked calendar day f ≡ record { file = f; notices = [] } =
      unchanged_stays calendar day last f mark_tidy window
      (ap (λ (x : Bool). mark_changes_file x day last f) (sym day-kind) ∙ sym tested ∙ stays) in
      subst (λ (fs : List File). Marking calendar day b standing buffer (i + 1) sent (with_places c c.count fs) after)
      (set-get_or c.files i past)
      (mark_more (sym (ap (λ (x : Effect). x.file) e))
      (subst⁻¹ (λ (x : Effect). Writes sent after after sent x.notices) e (writes_none sent after)) (moved_nothing c.waiting f ∙ ap (moved c.waiting f) (sym (mark_stored f))))
