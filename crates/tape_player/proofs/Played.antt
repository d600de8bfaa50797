-- A stretch: its records are those of the definition, what was noted of them can be printed, and their text with what closes is the
-- stretch's. Assumes nothing.
use Prim.Native.Nat.{ℕ, zero, suc, ◌+◌, ◌*◌, ◌-◌, ◌≤◌, min}
use mathlib.Core.Path.{◌≡◌, refl, sym, ap, ap₂, subst, subst⁻¹, ◌∙◌}
use mathlib.Core.List.{List, [], ◌∷◌, ◌++◌}
use native.Mathlib.Omega.{arith}
use lib.ListN.{length, take, drop, length-append, length-map, length-take, length-drop, take-append-drop}
use lib.Seq.{drop-nil, take_all, take_at}
use Rattle.records.specs.Layout.{record_length}
use Rattle.records.specs.Notices.{encode_all}
use Rattle.records.proofs.Notices.{length-encode_all}
use Rattle.premise.specs.Refusals.{number}
use Rattle.book.specs.declared.Playback.{Playback}
use Rattle.book.specs.Calls.{Result}
use Rattle.book.specs.Laws.{BookKept}
use Rattle.book.specs.CallsInRow.{records_of, Course, calls_in_row, answers_of, counts_of, notices_of, Plays as PlaysInRow}
use Rattle.book.proofs.Kept.{book_kept_means}
use Rattle.book.proofs.CallsInRow.{row_played}
use Rattle.tape_text.specs.Numbers.{Puts}
use Rattle.tape_text.proofs.Puts.{puts_as, puts_length, puts_then}
use Rattle.tape_reader.specs.Counts.{most_records}
use Rattle.tape_output.specs.declared.Playing.{Playing}
use Rattle.tape_output.specs.declared.Stretch.{Stretch}
use Rattle.tape_output.specs.Output.{tape_most}
use Rattle.tape_output.specs.Stretches.{ending_most, stretch_records, stretch_notices, counted_all, after_calls, results_text}
use Rattle.tape_output.specs.Stretches.{Stretched, behind, closing, text_then, stretch, left, Ready, Roomy, Plays}
use Rattle.tape_output.proofs.Courses.{course_text_fits}
use Rattle.tape_output.proofs.Left.{left_first}
use Rattle.tape_output.proofs.Ready.{calls_left, calls_within, calls_ready}
use Rattle.tape_output.proofs.Stretches.{at_once_many, closing_fits}
use Rattle.tape_reader.specs.declared.Reader.{Reader}
use Rattle.tape_player.specs.Noted.{noted_texts, sum, Printable}
use Rattle.tape_player.proofs.Noted.{sum_counts, noted_results}

-- past a list's end nothing is left, wherever one stands
drop_within : {X : Type 0} (m n : ℕ) (l : List X) → min m (length l) ≡ min n (length l) → drop m l ≡ drop n l
drop_within m n [] e = drop-nil m ∙ sym (drop-nil n)
drop_within zero zero (x ∷ l) e = refl
drop_within zero (suc n) (x ∷ l) e = absurd (omega arith)
drop_within (suc m) zero (x ∷ l) e = absurd (omega arith)
drop_within (suc m) (suc n) (x ∷ l) e = drop_within m n l (omega arith)

module _ (calendar tape : List ℕ) (p : Playing) (answers counts notices out : List ℕ)
    (asked : Ready p × (length tape ≤ tape_most) × Roomy answers counts notices out) where
  abbrev roomy : Roomy answers counts notices out
  roomy = asked.2

  abbrev firsts : List (List ℕ)
  firsts = take stretch_records (left p tape)

  abbrev others : List (List ℕ)
  others = drop stretch_records (left p tape)

  abbrev course : Course
  course = calls_in_row calendar stretch_notices p.book firsts

  abbrev results : List Result
  results = course.results

  abbrev text : List ℕ
  text = results_text p.reader.place results

  answers_many : length (answers_of results) ≡ length results
  answers_many = length-map results (λ (x : Result). number x.answer)

  counts_many : length (counts_of results) ≡ length results
  counts_many = length-map results (λ (x : Result). length x.notices)

  pub play_asks : BookKept p.book × (length answers ≤ length counts)
  play_asks = ((book_kept_means p.book).0 asked.0.kept, omega (arith, roomy.answers, roomy.counts))

  parts : firsts ++ others ≡ left p tape
  parts = take-append-drop stretch_records (left p tape)

  within : p.reader.place + length firsts ≤ most_records
  within = calls_within calendar stretch_notices p firsts tape others parts asked.0.within

  fits : length text + ending_most ≤ length out
  fits =
      omega (
        arith,
        course_text_fits calendar p.book firsts p.reader.place within (omega (arith, length-take stretch_records (left p tape))),
        roomy.text,
      )

  -- ---- the records are played, from the bytes as the code lends them
  module _ (from : ℕ) (at : from ≡ min (record_length * p.reader.place) (length tape)) where
    abbrev lent : List ℕ
    lent = take (length tape - from) (drop from tape)

    lent_is : lent ≡ drop (record_length * p.reader.place) tape
    lent_is =
        take_all (length tape - from) (drop from tape) (omega (arith, length-drop from tape))
        ∙ drop_within from (record_length * p.reader.place) tape (omega (arith, at))

    course_is : calls_in_row calendar (length notices) p.book (records_of (length answers) lent) ≡ course
    course_is =
        ap₂ (λ (free : ℕ) (records : List (List ℕ)). calls_in_row calendar free p.book records) roomy.notices
        (ap₂ records_of roomy.answers lent_is ∙ sym (left_first p tape stretch_records asked.1))

    module _ (r : Playback) (answers' counts' notices' : List ℕ)
        (given : PlaysInRow (calls_in_row calendar (length notices) p.book (records_of (length answers) lent)) r
        answers answers' counts counts' notices notices') where
      plays : PlaysInRow course r answers answers' counts counts' notices notices'
      plays = subst (λ (c : Course). PlaysInRow c r answers answers' counts counts' notices notices') course_is given

      answers_are : take r.played answers' ≡ answers_of results
      answers_are = ap₂ take plays.played plays.answers ∙ take_at (answers_of results) _ (length results) answers_many

      counts_are : take r.played counts' ≡ counts_of results
      counts_are = ap₂ take plays.played plays.counts ∙ take_at (counts_of results) _ (length results) counts_many

      abbrev noted : List ℕ
      noted = noted_texts p.reader.place (take r.played answers') (take r.played counts') notices'

      noted_is : noted ≡ text
      noted_is =
          ap₂ (λ (l m : List ℕ). noted_texts p.reader.place l m notices') answers_are counts_are
          ∙ ap (noted_texts p.reader.place (answers_of results) (counts_of results)) plays.notices.bytes
          ∙ noted_results p.reader.place results _

      pub printable : Printable p.reader r.played answers' counts' notices' out
      printable =
          record {
            sound = asked.0.sound;
            within = omega (arith, plays.played, row_played calendar stretch_notices p.book firsts, within);
            answers = omega (arith, ap length answers_are, length-take r.played answers', answers_many, plays.played);
            counts = omega (arith, ap length counts_are, length-take r.played counts', counts_many, plays.played);
            notices = omega (
              arith,
              ap sum counts_are,
              sum_counts results,
              ap length plays.notices.bytes ∙ length-append (encode_all (notices_of results)) _,
              length-encode_all (notices_of results),
            );
            text = omega (arith, ap length noted_is, fits);
          }

      -- ---- their text is put
      module _ (reader : Reader) (stop : ℕ) (middle : List ℕ)
          (prints : (reader ≡ counted_all p.reader (take r.played answers')) × Puts 0 out middle stop noted) where
        abbrev on : Playing
        on = record { reader = reader; book = r.book }

        on_is : on ≡ after_calls p.reader course
        on_is =
            let counted = prints.0 ∙ ap (counted_all p.reader) answers_are in
            λ i. record { reader = counted i; book = plays.book i }

        put : Puts 0 out middle stop text
        put = puts_as noted_is prints.1

        middle_length : length middle ≡ length out
        middle_length = puts_length put (omega (arith, fits))

        on_ready : Ready on
        on_ready = subst⁻¹ Ready on_is (calls_ready calendar stretch_notices p firsts tape others parts asked.0)

        pub close_asks : Ready on × (length tape ≤ tape_most) × (stop ≤ length middle)
        close_asks = (on_ready, asked.1, omega (arith, put.end, middle_length, fits))

        -- ---- and then what closes
        stretch_is : stretch calendar (length out) p (left p tape) ≡ behind text (closing (length middle - stop) on (left on tape))
        stretch_is =
            let rest : length out - length text ≡ length middle - stop = omega (arith, put.end, middle_length) in
            ap (λ (n : ℕ).
            text_then (length out) p.reader (calls_in_row calendar stretch_notices p.book (take n (left p tape))) (drop n (left p tape)))
            (at_once_many (length out) roomy.text)
            ∙ ap (λ (l : List (List ℕ)). behind text (closing (length out - length text) (after_calls p.reader course) l))
            (calls_left calendar stretch_notices p firsts tape others parts)
            ∙ ap₂ (λ (room : ℕ) (q : Playing). behind text (closing room q (left q tape))) rest (sym on_is)

        pub stretch_plays : {s : Stretch} {last : List ℕ}
            → Plays stop (closing (length middle - stop) on (left on tape)) s middle last
            → Plays 0 (stretch calendar (length out) p (left p tape)) s out last
        stretch_plays {s} {last} closes =
            let close = closing (length middle - stop) on (left on tape) in
            let most = closing_fits (length middle - stop) on (left on tape) on_ready in
            let room : 0 + length (text ++ close.text) ≤ length out =
            omega (arith, length-append text close.text, put.end, middle_length, most, fits) in
            subst⁻¹ (λ (x : Stretched). Plays 0 x s out last) stretch_is
            (record { playing = closes.playing; text = puts_then put closes.text room; done = closes.done })
