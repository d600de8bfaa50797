-- A tape that can be played on: before the first record, and after calls in a row, with the records that these leave. Assumes nothing.
use Prim.Native.Nat.{ℕ, ◌+◌, ◌≤◌}
use mathlib.Core.Path.{◌≡◌, refl, sym, ap, ◌∙◌}
use mathlib.Core.List.{List, [], ◌∷◌, ◌++◌}
use native.Mathlib.Omega.{arith}
use lib.ListN.{length, drop, length-append, length-map}
use lib.Seq.{drop-append-le}
use Rattle.premise.specs.Refusals.{number}
use Rattle.book.specs.Calls.{Result}
use Rattle.book.specs.CallsInRow.{Course, calls_in_row, answers_of}
use Rattle.book.proofs.Kept.{fresh_kept}
use Rattle.book.proofs.CallsInRow.{row_keeps, row_left, row_played}
use Rattle.tape_reader.specs.declared.Reader.{Reader}
use Rattle.tape_reader.specs.Counts.{most_records, counted, Sound}
use Rattle.tape_reader.proofs.Counts.{counted_sound, counted_place}
use Rattle.tape_output.specs.declared.Playing.{Playing}
use Rattle.tape_output.specs.Output.{starting}
use Rattle.tape_output.specs.Stretches.{counted_all, after_calls, left, Ready}
use Rattle.tape_output.proofs.Left.{left_few, left_after}

pub start_ready : Ready starting
start_ready = record { kept = fresh_kept 0; sound = refl; within = omega arith }

-- ---- the reader after records with these answers
pub counted_places : (reader : Reader) (answers : List ℕ) → (counted_all reader answers).place ≡ reader.place + length answers
counted_places reader [] = omega arith
counted_places reader (answer ∷ answers) = omega (arith, counted_places (counted reader answer) answers, counted_place reader answer)

counted_all_sound : (reader : Reader) (answers : List ℕ) → Sound reader → Sound (counted_all reader answers)
counted_all_sound reader [] sound = sound
counted_all_sound reader (answer ∷ answers) sound = counted_all_sound (counted reader answer) answers (counted_sound reader answer sound)

-- ---- after calls in a row
module _ (calendar : List ℕ) (free : ℕ) (p : Playing) (records : List (List ℕ)) where
  abbrev course : Course
  course = calls_in_row calendar free p.book records

  abbrev after : Playing
  after = after_calls p.reader course

  abbrev played : ℕ
  played = length course.results

  pub calls_place : after.reader.place ≡ p.reader.place + played
  calls_place =
      counted_places p.reader (answers_of course.results)
      ∙ ap (λ (n : ℕ). p.reader.place + n) (length-map course.results (λ (x : Result). number x.answer))

  -- among the records that a reader has not played
  module _ (tape : List ℕ) (others : List (List ℕ)) (is : records ++ others ≡ left p tape) where
    pub calls_left : course.left ++ others ≡ left after tape
    calls_left =
        ap (λ (l : List (List ℕ)). l ++ others) (row_left calendar free p.book records)
        ∙ sym (drop-append-le played records others (row_played calendar free p.book records))
        ∙ ap (drop played) is ∙ left_after p tape after played calls_place

    pub calls_within : p.reader.place ≤ most_records → p.reader.place + length records ≤ most_records
    calls_within h = omega (arith, left_few p tape, ap length is, length-append records others)

    pub calls_ready : Ready p → Ready after
    calls_ready ready =
        record {
          kept = row_keeps calendar free p.book records ready.kept;
          sound = counted_all_sound p.reader (answers_of course.results) ready.sound;
          within = omega (arith, calls_place, row_played calendar free p.book records, calls_within ready.within);
        }
