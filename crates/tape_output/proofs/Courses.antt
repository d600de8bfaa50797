-- The text of calls in a row: how long it can be, and that what is printed behind it makes what is printed from them on. Assumes nothing.
use Prim.Native.Nat.{ℕ, ◌+◌, ◌*◌, ◌≤◌, ◌<◌}
use mathlib.Core.Path.{◌≡◌, refl, sym, ap, ◌∙◌}
use mathlib.Core.List.{List, [], ◌∷◌, ◌++◌, append_assoc}
use native.Mathlib.Omega.{arith}
use lib.ListN.{length, length-append}
use Rattle.premise.specs.Refusals.{number}
use Rattle.book.specs.declared.Book.{Book}
use Rattle.book.specs.Calls.{notice_bytes}
use Rattle.book.specs.CallsInRow.{called, Course, calls_in_row, notices_of}
use Rattle.book.proofs.CallsInRow.{called_few, row_next, by_row, row_few, row_played}
use Rattle.tape_reader.specs.declared.Reader.{Reader}
use Rattle.tape_reader.specs.Counts.{most_records, counted}
use Rattle.tape_reader.proofs.Counts.{counted_place}
use Rattle.tape_output.specs.Lengths.{record_line_most, notice_line_most}
use Rattle.tape_output.specs.declared.Playing.{Playing}
use Rattle.tape_output.specs.Output.{record_text, result_text, printed}
use Rattle.tape_output.specs.Stretches.{record_text_most, ending_most, stretch_records, stretch_notices, stretch_text_most}
use Rattle.tape_output.specs.Stretches.{after_calls, results_text}
use Rattle.tape_output.proofs.Lines.{result_text_most}

-- a tape that is being played, of its two parts
abbrev of : Reader → Book → Playing
of reader b = record { reader = reader; book = b }

module _ (calendar : List ℕ) where
  -- with room for a call's notices, the first record is played
  pub course_moves : (free : ℕ) (b : Book) (records : List (List ℕ)) → notice_bytes ≤ free → 0 < length records
      → 0 < length (calls_in_row calendar free b records).results
  course_moves free b [] room some = absurd (omega arith)
  course_moves free b (bytes ∷ rest) room some =
      omega (arith, ap (λ (c : Course). length c.results) (row_next calendar free b bytes rest room))

  -- ---- their text
  pub course_text_most : (free : ℕ) (b : Book) (records : List (List ℕ)) (place : ℕ) → place + length records ≤ most_records
      → length (results_text place (calls_in_row calendar free b records).results)
      ≤ record_line_most * length (calls_in_row calendar free b records).results
      + notice_line_most * length (notices_of (calls_in_row calendar free b records).results)
  course_text_most =
      by_row
      (λ free b records course. (place : ℕ) → place + length records ≤ most_records → length (results_text place course.results)
      ≤ record_line_most * length course.results + notice_line_most * length (notices_of course.results)) calendar
      (λ free b records place h. omega arith)
      (λ free b bytes rest course room ih place h.
      omega (
        arith,
        ih (place + 1) (omega arith),
        result_text_most (place + 1) (called calendar b bytes) (omega arith) (omega (arith, called_few calendar b bytes)),
        length-append (result_text (place + 1) (called calendar b bytes)) (results_text (place + 1) course.results),
        length-append (called calendar b bytes).notices (notices_of course.results),
      ))

  pub course_text_each : (free : ℕ) (b : Book) (records : List (List ℕ)) (place : ℕ) → place + length records ≤ most_records
      → length (results_text place (calls_in_row calendar free b records).results)
      ≤ record_text_most * length (calls_in_row calendar free b records).results
  course_text_each =
      by_row
      (λ free b records course. (place : ℕ) → place + length records ≤ most_records
      → length (results_text place course.results) ≤ record_text_most * length course.results)
      calendar
      (λ free b records place h. omega arith)
      (λ free b bytes rest course room ih place h.
      omega (
        arith,
        ih (place + 1) (omega arith),
        result_text_most (place + 1) (called calendar b bytes) (omega arith) (omega (arith, called_few calendar b bytes)),
        length-append (result_text (place + 1) (called calendar b bytes)) (results_text (place + 1) course.results),
        called_few calendar b bytes,
      ))

  -- that of a stretch finds room, with the end
  pub course_text_fits : (b : Book) (records : List (List ℕ)) (place : ℕ) → place + length records ≤ most_records
      → length records ≤ stretch_records
      → length (results_text place (calls_in_row calendar stretch_notices b records).results) + ending_most ≤ stretch_text_most
  course_text_fits b records place left few =
      omega (
        arith,
        course_text_most stretch_notices b records place left,
        row_played calendar stretch_notices b records,
        row_few calendar stretch_notices b records,
      )

  -- what is printed behind them makes it what is printed from them on
  pub course_prints : (free : ℕ) (b : Book) (records : List (List ℕ)) (reader : Reader) (others : List (List ℕ))
      → results_text reader.place (calls_in_row calendar free b records).results
      ++ printed calendar (after_calls reader (calls_in_row calendar free b records)) ((calls_in_row calendar free b records).left ++ others)
      ≡ printed calendar (of reader b) (records ++ others)
  unfolding record_text
  course_prints =
      by_row
      (λ free b records course. (reader : Reader) (others : List (List ℕ)) → results_text reader.place course.results
      ++ printed calendar (after_calls reader course) (course.left ++ others) ≡ printed calendar (of reader b) (records ++ others)) calendar
      (λ free b records reader others. refl)
      (λ free b bytes rest course room ih reader others.
      let x = called calendar b bytes in
      let on = counted reader (number x.answer) in
      let text = result_text (reader.place + 1) x in
      let behind = printed calendar (after_calls on course) (course.left ++ others) in
      append_assoc text (results_text (reader.place + 1) course.results) behind
      ∙ ap (λ (l : List ℕ). text ++ l)
      (ap (λ (place : ℕ). results_text place course.results ++ behind) (sym (counted_place reader (number x.answer))) ∙ ih on others))
