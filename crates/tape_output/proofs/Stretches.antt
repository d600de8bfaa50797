-- The stretches of a tape, one after another, are the whole output, and each leaves a tape that is played on. Assumes nothing.
use Prim.Native.Nat.{ℕ, zero, suc, ◌+◌, ◌*◌, ◌-◌, ◌≤◌, ◌<◌}
use mathlib.Core.Path.{◌≡◌, refl, sym, ap, ap₂, ◌∙◌}
use mathlib.Core.List.{List, [], ◌∷◌, ◌++◌, append-nil}
use mathlib.Core.Bool.{Bool, true, false, cond, false≢true}
use native.Mathlib.Omega.{arith}
use lib.Dec.{leb}
use lib.ListN.{length, take, drop, length-append, length-take, length-drop, take-append-drop}
use lib.Seq.{take-nil, drop-nil}
use borrow.Author.Tests.{leb-true, leb-false, le-leb}
use Rattle.lists.proofs.TestLaws.{by_test}
use Rattle.book.specs.CallsInRow.{records_of, Course, calls_in_row}
use Rattle.book.proofs.CallsInRow.{records_few, row_left, row_played}
use Rattle.tape_reader.specs.Counts.{most_records}
use Rattle.tape_output.specs.declared.Playing.{Playing}
use Rattle.tape_output.specs.Output.{ending, printed, starting, calendar_most, tape_most}
use Rattle.tape_output.specs.Stretches.{record_text_most, ending_most, stretch_records, stretch_notices, stretch_text_most, one_or_none}
use Rattle.tape_output.specs.Stretches.{after_calls, results_text, Stretched, nothing_more, ended, behind, closing, text_then, stretch}
use Rattle.tape_output.specs.Stretches.{left, Ready, pieces, joined, PiecesAreOutput, GoesOn, StretchGoesOn, StretchMoves}
use Rattle.tape_output.specs.Stretches.{StretchFits, at_once}
use Rattle.tape_output.proofs.Courses.{course_moves, course_text_each, course_text_fits, course_prints}
use Rattle.tape_output.proofs.Left.{left_few}
use Rattle.tape_output.proofs.Lines.{ending_most_lem}
use Rattle.tape_output.proofs.Ready.{calls_place, calls_left, calls_ready}

-- ---- how a stretch closes
-- What holds of the end where no record is left, and where nothing more is put, holds of both.
by_closing : (P : List (List ℕ) → Stretched → Type 0) (room : ℕ) (p : Playing) (records : List (List ℕ))
    → P [] (ended p) → P records (nothing_more p records) → P records (closing room p records)
by_closing P room p [] put no_more = by_test (P []) (leb ending_most room) (ended p) (nothing_more p []) (λ e. put) (λ e. no_more)
by_closing P room p (bytes ∷ rest) put no_more = no_more

pub closing_fits : (room : ℕ) (p : Playing) (records : List (List ℕ)) → Ready p → length (closing room p records).text ≤ room
closing_fits room p [] ready =
    by_test (λ s. length s.text ≤ room) (leb ending_most room) (ended p) (nothing_more p [])
    (λ e. omega (arith, ending_most_lem p ready, leb-true ending_most room e)) (λ e. omega arith)
closing_fits room p (bytes ∷ rest) ready = omega arith

-- what is printed behind a stretch
abbrev after : List ℕ → Stretched → List ℕ
after calendar s = cond s.done [] (printed calendar s.playing s.left)

-- ---- how many records it plays
at_once_some : (room : ℕ) → record_text_most ≤ room → 0 < at_once room
at_once_some room h =
    by_test (λ n. 0 < n) (leb stretch_text_most room) stretch_records (one_or_none room) (λ e. omega arith)
    (λ e. by_test (λ n. 0 < n) (leb record_text_most room) _ _ (λ t. omega arith)
    (λ t. absurd (omega (arith, leb-false record_text_most room t))))

pub at_once_many : (room : ℕ) → stretch_text_most ≤ room → at_once room ≡ stretch_records
at_once_many room h =
    ap (λ (t : Bool). cond t stretch_records (one_or_none room)) (le-leb stretch_text_most room h)

module _ (calendar : List ℕ) (room : ℕ) (p : Playing) (records : List (List ℕ)) where
  abbrev course : Course
  course = calls_in_row calendar stretch_notices p.book (take (at_once room) records)

  abbrev others : List (List ℕ)
  others = drop (at_once room) records

  abbrev on : Playing
  on = after_calls p.reader course

  abbrev text : List ℕ
  text = results_text p.reader.place course.results

  abbrev whole : Stretched
  whole = stretch calendar room p records

  parts : take (at_once room) records ++ others ≡ records
  parts = take-append-drop (at_once room) records

  -- ---- the text
  stretch_prints : whole.text ++ after calendar whole ≡ printed calendar p records
  stretch_prints =
      let all = course_prints calendar stretch_notices p.book (take (at_once room) records) p.reader others
      ∙ ap (printed calendar p) parts in
      by_closing
      (λ ls s. text ++ printed calendar on ls ≡ printed calendar p records
      → text ++ s.text ++ after calendar s ≡ printed calendar p records)
      (room - length text) on (course.left ++ others)
      (λ h. append-nil (text ++ ending on) ∙ h)
      (λ h. ap (λ (l : List ℕ). l ++ printed calendar on (course.left ++ others)) (append-nil text) ∙ h) all

  text_fits : p.reader.place + length records ≤ most_records → length text ≤ room
  text_fits within =
      by_test (λ n. length (text_of n) ≤ room) (leb stretch_text_most room) stretch_records (one_or_none room)
      (λ e. omega (arith, many, leb-true stretch_text_most room e))
      (λ e. omega (arith, each (one_or_none room), one))
    where
      text_of : ℕ → List ℕ
      text_of n = results_text p.reader.place (calls_in_row calendar stretch_notices p.book (take n records)).results

      within_part : (n : ℕ) → p.reader.place + length (take n records) ≤ most_records
      within_part n = omega (arith, within, length-take n records)

      one : record_text_most * one_or_none room ≤ room
      one =
          by_test (λ n. record_text_most * n ≤ room) (leb record_text_most room) _ _ (λ t. omega (arith, leb-true record_text_most room t))
          (λ t. omega arith)

      many : length (text_of stretch_records) + ending_most ≤ stretch_text_most
      many =
          course_text_fits calendar p.book (take stretch_records records) p.reader.place (within_part stretch_records)
          (omega (arith, length-take stretch_records records))

      each : (n : ℕ) → length (text_of n) ≤ record_text_most * n
      each n =
          omega (
            arith,
            course_text_each calendar stretch_notices p.book (take n records) p.reader.place (within_part n),
            row_played calendar stretch_notices p.book (take n records),
            length-take n records,
          )

  -- ---- what is left
  stretch_playing : whole.playing ≡ on
  stretch_playing = by_closing (λ ls s. s.playing ≡ on) (room - length text) on (course.left ++ others) refl refl

  stretch_left : whole.done ≡ false → whole.left ≡ course.left ++ others
  stretch_left =
      by_closing (λ ls s. s.done ≡ false → s.left ≡ ls) (room - length text) on (course.left ++ others)
      (λ more. absurd (false≢true (sym more))) (λ more. refl)

  goes_on : (tape : List ℕ) → records ≡ left p tape → Ready p → GoesOn tape whole
  goes_on tape is ready =
      let on_ready = calls_ready calendar stretch_notices p (take (at_once room) records) tape others (parts ∙ is) ready in
      by_closing (λ ls s. ls ≡ left on tape → GoesOn tape (behind text s)) (room - length text) on (course.left ++ others)
      (λ e. record { left = e; ready = on_ready }) (λ e. record { left = e; ready = on_ready })
      (calls_left calendar stretch_notices p (take (at_once room) records) tape others (parts ∙ is))

-- ---- a stretch that is not the last plays a record
no_record : (calendar : List ℕ) (room : ℕ) (p : Playing) → record_text_most ≤ room → (stretch calendar room p []).done ≡ true
unfolding calls_in_row
no_record calendar room p h =
    ap₂ (λ (l r : List (List ℕ)). (text_then room p.reader (calls_in_row calendar stretch_notices p.book l) r).done)
    (take-nil (at_once room)) (drop-nil (at_once room))
    ∙ ap (λ (t : Bool). (cond t (ended p) (nothing_more p [])).done) (le-leb ending_most (room - 0) (omega arith))

plays_some : (calendar : List ℕ) (room : ℕ) (p : Playing) (records : List (List ℕ)) → record_text_most ≤ room
    → (stretch calendar room p records).done ≡ false → 0 < length (course calendar room p records).results
plays_some calendar room p [] h more = absurd (false≢true (sym more ∙ no_record calendar room p h))
plays_some calendar room p (bytes ∷ rest) h more =
    course_moves calendar stretch_notices p.book (take (at_once room) (bytes ∷ rest)) (omega arith)
    (omega (arith, at_once_some room h, length-take (at_once room) (bytes ∷ rest)))

stretch_shortens : (calendar : List ℕ) (room : ℕ) (p : Playing) (records : List (List ℕ)) → record_text_most ≤ room
    → (stretch calendar room p records).done ≡ false → length (stretch calendar room p records).left < length records
stretch_shortens calendar room p records h more =
    let c = course calendar room p records in
    let rest = others calendar room p records in
    omega (
      arith,
      plays_some calendar room p records h more,
      ap length (stretch_left calendar room p records more) ∙ length-append c.left rest,
      ap length (row_left calendar stretch_notices p.book (take (at_once room) records)),
      length-drop (length c.results) (take (at_once room) records),
      row_played calendar stretch_notices p.book (take (at_once room) records),
      length-take (at_once room) records,
      length-drop (at_once room) records,
    )

-- ---- the pieces
joined_unless : (done : Bool) (texts : List (List ℕ)) (text : List ℕ) → (done ≡ false → joined texts ≡ text)
    → joined (cond done [] texts) ≡ cond done [] text
joined_unless true texts text e = refl
joined_unless false texts text e = e refl

pieces_print : (most : ℕ) (calendar : List ℕ) (room : ℕ) (p : Playing) (records : List (List ℕ)) → record_text_most ≤ room
    → length records < most
    → joined (pieces most calendar room p records) ≡ printed calendar p records
pieces_print zero calendar room p records h few = absurd (omega arith)
pieces_print (suc most) calendar room p records h few =
    let s : Stretched = stretch calendar room p records in
    ap (λ (l : List ℕ). s.text ++ l)
    (joined_unless s.done (pieces most calendar room s.playing s.left) (printed calendar s.playing s.left)
    (λ more. pieces_print most calendar room s.playing s.left h (omega (arith, stretch_shortens calendar room p records h more))))
    ∙ stretch_prints calendar room p records

pub pieces_are_output : PiecesAreOutput
pieces_are_output calendar tape room h =
    pieces_print (most_records + 1) (take calendar_most calendar) room starting (records_of most_records (take tape_most tape)) h
    (omega (arith, records_few most_records (take tape_most tape)))

-- ---- a tape that is played on
pub stretch_goes_on : StretchGoesOn
stretch_goes_on calendar tape room p short ready = goes_on calendar room p (left p tape) tape refl ready

pub stretch_fits : StretchFits
stretch_fits calendar tape room p ready =
    let records = left p tape in
    let c = course calendar room p records in
    let written = text calendar room p records in
    let on_ready = calls_ready calendar stretch_notices p (take (at_once room) records) tape (others calendar room p records)
    (parts calendar room p records) ready in
    let rest = closing (room - length written) (on calendar room p records) (c.left ++ others calendar room p records) in
    omega (
      arith,
      length-append written rest.text,
      text_fits calendar room p records (omega (arith, left_few p tape, ready.within)),
      closing_fits (room - length written) (on calendar room p records) (c.left ++ others calendar room p records) on_ready,
    )

pub stretch_moves : StretchMoves
stretch_moves calendar tape room p h more =
    let records = left p tape in
    omega (
      arith,
      plays_some calendar room p records h more,
      ap (λ (q : Playing). q.reader.place) (stretch_playing calendar room p records),
      calls_place calendar stretch_notices p (take (at_once room) records),
    )
