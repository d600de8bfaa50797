-- The loop over the lots of a stretch: some records are played and noted, and the course of those that are left is the rest of the whole.
-- Assumes nothing.
use Prim.Native.Nat.{ℕ, ◌+◌, ◌*◌, ◌-◌, ◌≤◌, ◌<◌, min}
use mathlib.Core.Path.{◌≡◌, refl, sym, ap, ap₂, subst, subst⁻¹, ◌∙◌}
use mathlib.Core.List.{List, [], ◌++◌, append_assoc, append-nil, map-append}
use mathlib.Core.Bool.{true}
use native.Mathlib.Omega.{arith}
use lib.ListN.{length, take, drop, length-append, length-take, length-drop, length-map}
use lib.Seq.{take_all, drop-append-le, drop-drop}
use Rattle.records.specs.Layout.{record_length}
use Rattle.records.specs.Notices.{encode_all}
use Rattle.records.proofs.Notices.{length-encode_all, encode_all-append}
use Rattle.premise.specs.Refusals.{number}
use Rattle.book.specs.declared.Book.{Book}
use Rattle.book.specs.declared.Playback.{Playback}
use Rattle.book.specs.Book.{book_kept}
use Rattle.book.specs.Calls.{notice_bytes, Result}
use Rattle.book.specs.CallsInRow.{records_of, Course, stopped, calls_in_row, answers_of, notices_of, Noted, Plays}
use Rattle.book.specs.Laws.{BookKept}
use Rattle.book.proofs.Kept.{book_kept_means}
use Rattle.book.proofs.CallsInRow.{records_parts, records_many, records_after, notices_parts, behind, row_none, row_stops, row_keeps}
use Rattle.book.proofs.CallsInRow.{row_few, row_left, row_played, row_some, row_parts}
use Rattle.book_player.proofs.Playing.{noted_length}
use Rattle.stretch_rules.specs.declared.Replies.{Replies}
use Rattle.stretch_rules.specs.declared.StretchAnswer.TheVariants.{Taken}
use Rattle.stretch_rules.specs.Stretch.{whole_count, whole_records, Outcome, Gives, StretchPromised}
use Rattle.stretch_rules.proofs.Whole.{whole_within}
use Rattle.stretch_rules.proofs.NothingPlayed.{enough_answers}
use Rattle.stretch_calls.proofs.calls.Noted.{noted_part, emits_noted, noted_emits}

-- ---- what holds between two lots; the first lists of each pair are the buffers as they were lent
pub record Underway (calendar tape : List ℕ) (b : Book) (answers₀ notices₀ : List ℕ) (whole : ℕ) (answers counts notices : List ℕ)
    (c : Book)
    (played sent : ℕ) : Type 0 where
  pub results : List Result
  pub kept : book_kept c ≡ true
  pub all : whole ≡ whole_count tape
  pub fit : whole ≤ length answers₀
  pub notes : 0 < length counts
  pub few : played ≤ whole
  pub room : record_length * sent ≤ length notices₀
  pub count : played ≡ length results
  pub total : sent ≡ length (notices_of results)
  pub answered : Noted (answers_of results) answers₀ answers
  pub wrote : Noted (encode_all (notices_of results)) notices₀ notices
  pub rest : calls_in_row calendar (length notices₀) b (whole_records tape)
      ≡ behind results
      (calls_in_row calendar (length notices₀ - record_length * sent) c (records_of (whole - played) (drop (record_length * played) tape)))

pub underway_none : (calendar tape : List ℕ) (b : Book) (answers counts notices : List ℕ) (whole : ℕ) → BookKept b
    → whole_count tape ≤ length answers → 0 < length counts → whole ≡ whole_count tape
    → Underway calendar tape b answers notices whole answers counts notices b 0 0
unfolding whole_records
underway_none calendar tape b answers counts notices whole k fit notes all =
    let free : length notices ≡ length notices - record_length * 0 = omega arith in
    let most : whole_count tape ≡ whole - 0 = omega (arith, all) in
    record {
      results = [];
      kept = (book_kept_means b).1 k;
      all = all;
      fit = omega (arith, fit, all);
      notes = notes;
      few = omega arith;
      room = omega arith;
      count = refl;
      total = refl;
      answered = refl;
      wrote = refl;
      rest = ap₂ (λ (free most : ℕ). calls_in_row calendar free b (records_of most tape)) free most;
    }

module _ {calendar tape : List ℕ} {b : Book} {answers₀ notices₀ : List ℕ} {whole : ℕ} {answers counts notices : List ℕ} {c : Book}
    {played sent : ℕ}
    (u : Underway calendar tape b answers₀ notices₀ whole answers counts notices c played sent) where
  noted : length (answers_of u.results) ≡ played
  noted = length-map u.results (λ (x : Result). number x.answer) ∙ sym u.count

  written : length (encode_all (notices_of u.results)) ≡ record_length * sent
  written = length-encode_all (notices_of u.results) ∙ omega (arith, u.total)

  pub answers-length : length answers ≡ length answers₀
  answers-length = noted_length (answers_of u.results) answers₀ answers u.answered (omega (arith, noted, u.few, u.fit))

  pub notices_length : length notices ≡ length notices₀
  notices_length = noted_length (encode_all (notices_of u.results)) notices₀ notices u.wrote (omega (arith, written, u.room))

  -- the notices that stand have gone no further than the buffer, and the records that were played no further than the stretch
  pub sent_within : record_length * sent ≤ length notices
  sent_within = omega (arith, u.room, notices_length)

  pub whole_inside : record_length * whole ≤ length tape
  whole_inside = omega (arith, u.all, whole_within tape)

  pub kept_book : BookKept c
  kept_book = (book_kept_means c).0 u.kept

  -- ---- the loop is left
  abbrev returned : Replies
  returned = record { answer = Taken; played = played; sent = sent; book = c }

  abbrev Done : Type 0
  Done = StretchPromised calendar b tape returned answers₀ answers notices₀ notices

  done : (left : List (List ℕ))
      → calls_in_row calendar (length notices₀ - record_length * sent) c (records_of (whole - played) (drop (record_length * played) tape))
      ≡ stopped c left
      → Done
  done left e =
      let course = u.rest ∙ ap (behind u.results) e in
      let is : (calls_in_row calendar (length notices₀) b (whole_records tape)).results ≡ u.results =
      ap (λ (x : Course). x.results) course ∙ append-nil u.results in
      subst⁻¹ (λ (x : Outcome). Gives x returned answers₀ answers notices₀ notices)
      (enough_answers calendar b tape (length answers₀) (length notices₀) (omega (arith, u.all, u.fit)))
      (record {
        answer = refl;
        played = u.count ∙ ap length (sym is);
        book = sym (ap (λ (x : Course). x.book) course);
        answers = subst⁻¹ (λ (l : List Result). Noted (answers_of l) answers₀ answers) is u.answered;
        notices = noted_emits (u.total ∙ ap (λ (l : List Result). length (notices_of l)) (sym is))
            (subst⁻¹ (λ (l : List Result). Noted (encode_all (notices_of l)) notices₀ notices) is u.wrote);
      })

  -- every whole record is played
  pub done_all : whole ≤ played → Done
  done_all h =
      let none : whole - played ≡ 0 = omega (arith, h) in
      let free = length notices₀ - record_length * sent in
      done [] (ap (λ (m : ℕ). calls_in_row calendar free c (records_of m (drop (record_length * played) tape))) none
      ∙ row_none calendar free c)

  -- the next would find fewer than 24,576 bytes free
  pub done_room : length notices - record_length * sent < notice_bytes → Done
  done_room h =
      done _ (row_stops calendar (length notices₀ - record_length * sent) c (records_of (whole - played) (drop (record_length * played) tape))
      (omega (arith, h, notices_length)))

  -- ---- a lot is played, into parts of the buffers
  module _ (more : played < whole) (room : notice_bytes ≤ length notices - record_length * sent) (many : ℕ)
      (is : many ≡ min (whole - played) (length counts)) where
    abbrev answers_part : List ℕ
    answers_part = take (played + many - played) (drop played answers)

    abbrev tape_part : List ℕ
    tape_part = take (length tape - record_length * played) (drop (record_length * played) tape)

    abbrev notices_part : List ℕ
    notices_part = take (length notices - record_length * sent) (drop (record_length * sent) notices)

    part_many : length answers_part ≡ many
    part_many =
        omega (arith, length-take (played + many - played) (drop played answers), length-drop played answers, is, u.fit, answers-length)

    part_free : length notices_part ≡ length notices₀ - record_length * sent
    part_free =
        omega (
          arith,
          length-take (length notices - record_length * sent) (drop (record_length * sent) notices),
          length-drop (record_length * sent) notices,
          notices_length,
        )

    part_tape : tape_part ≡ drop (record_length * played) tape
    part_tape =
        take_all (length tape - record_length * played) (drop (record_length * played) tape)
        (omega (arith, length-drop (record_length * played) tape))

    pub lot_asks : BookKept c × (length answers_part ≤ length counts)
    lot_asks = (kept_book, omega (arith, part_many, is))

    abbrev lot_records : List (List ℕ)
    lot_records = records_of many (drop (record_length * played) tape)

    abbrev others : List (List ℕ)
    others = records_of (whole - played - many) (drop (record_length * many) (drop (record_length * played) tape))

    abbrev free : ℕ
    free = length notices₀ - record_length * sent

    abbrev lot_course : Course
    lot_course = calls_in_row calendar free c lot_records

    course_is : calls_in_row calendar (length notices_part) c (records_of (length answers_part) tape_part) ≡ lot_course
    course_is = λ i. calls_in_row calendar (part_free i) c (records_of (part_many i) (part_tape i))

    records_are : records_of (whole - played) (drop (record_length * played) tape) ≡ lot_records ++ others
    records_are =
        let sum : whole - played ≡ many + (whole - played - many) = omega (arith, is) in
        ap (λ (m : ℕ). records_of m (drop (record_length * played) tape)) sum
        ∙ records_parts many (whole - played - many) (drop (record_length * played) tape)

    lot_some : 0 < length lot_course.results
    lot_some =
        row_some calendar free c lot_records (omega (arith, room, notices_length))
        (omega (
          arith,
          records_many many (drop (record_length * played) tape)
              (omega (arith, length-drop (record_length * played) tape, whole_inside, is)),
          is,
          more,
          u.notes,
        ))

    lot_few : length lot_course.results ≤ many
    lot_few =
        omega (
          arith,
          row_played calendar free c lot_records,
          records_many many (drop (record_length * played) tape)
              (omega (arith, length-drop (record_length * played) tape, whole_inside, is)),
        )

    module _ {lot : Playback} {part counts₁ noticed : List ℕ}
        (given : Plays (calls_in_row calendar (length notices_part) c (records_of (length answers_part) tape_part)) lot
        answers_part part counts counts₁ notices_part noticed) where
      plays : Plays lot_course lot answers_part part counts counts₁ notices_part noticed
      plays = subst (λ (x : Course). Plays x lot answers_part part counts counts₁ notices_part noticed) course_is given

      -- it goes on, and no further than there are records and bytes
      pub lot_goes_on : 0 < lot.played
      lot_goes_on = omega (arith, plays.played, lot_some)

      pub lot_within : played + lot.played ≤ whole
      lot_within = omega (arith, plays.played, lot_few, is, u.few)

      pub lot_room : record_length * (sent + lot.sent) ≤ length notices₀
      lot_room = omega (arith, plays.notices.count, row_few calendar free c lot_records, u.room)

      -- the records left after it
      left_is : lot_course.left ++ others ≡ records_of (whole - (played + lot.played)) (drop (record_length * (played + lot.played)) tape)
      left_is =
          let k = length lot_course.results in
          let fewer : whole - played - k ≡ whole - (played + lot.played) = omega (arith, plays.played) in
          let on : record_length * played + record_length * k ≡ record_length * (played + lot.played) = omega (arith, plays.played) in
          ap (λ (l : List (List ℕ)). l ++ others) (row_left calendar free c lot_records)
          ∙ sym (drop-append-le k lot_records others (row_played calendar free c lot_records))
          ∙ ap (drop k) (sym records_are) ∙ records_after k (whole - played) (drop (record_length * played) tape)
          ∙ ap₂ records_of fewer
          (drop-drop (record_length * k) (record_length * played) tape ∙ ap (λ (n : ℕ). drop n tape) on)

      rest_is : calls_in_row calendar free c (records_of (whole - played) (drop (record_length * played) tape))
          ≡ behind lot_course.results
          (calls_in_row calendar (length notices₀ - record_length * (sent + lot.sent)) lot.book
          (records_of (whole - (played + lot.played)) (drop (record_length * (played + lot.played)) tape)))
      rest_is =
          let still : free - record_length * length (notices_of lot_course.results) ≡ length notices₀ - record_length * (sent + lot.sent) =
          omega (arith, plays.notices.count) in
          ap (calls_in_row calendar free c) records_are
          ∙ row_parts calendar free c lot_records others
          ∙ (λ i. behind lot_course.results (calls_in_row calendar (still i) (sym plays.book i) (left_is i)))

      pub underway_more : 0 < length counts₁
          → Underway calendar tape b answers₀ notices₀ whole
          (take played answers ++ (part ++ drop (played + many - played) (drop played answers)))
          counts₁
          (take (record_length * sent) notices
          ++ (noticed ++ drop (length notices - record_length * sent) (drop (record_length * sent) notices)))
          lot.book
          (played + lot.played) (sent + lot.sent)
      underway_more notes =
          let done = u.results in
          let lately = lot_course.results in
          let after : Course = calls_in_row calendar (length notices₀ - record_length * (sent + lot.sent)) lot.book
          (records_of (whole - (played + lot.played)) (drop (record_length * (played + lot.played)) tape)) in
          let answers₁ = take played answers ++ (part ++ drop (played + many - played) (drop played answers)) in
          let notices₁ = take (record_length * sent) notices
          ++ (noticed ++ drop (length notices - record_length * sent) (drop (record_length * sent) notices)) in
          let numbers = length-map lately (λ (x : Result). number x.answer) in
          let told : encode_all (notices_of (done ++ lately)) ≡ encode_all (notices_of done) ++ encode_all (notices_of lately) =
          ap encode_all (notices_parts done lately) ∙ encode_all-append (notices_of done) (notices_of lately) in
          record {
            results = done ++ lately;
            kept = subst⁻¹ (λ (x : Book). book_kept x ≡ true) plays.book (row_keeps calendar free c lot_records u.kept);
            all = u.all;
            fit = u.fit;
            notes = notes;
            few = lot_within;
            room = lot_room;
            count = omega (arith, u.count, plays.played, length-append done lately);
            total =
                omega (
                  arith,
                  u.total,
                  plays.notices.count,
                  ap length (notices_parts done lately) ∙ length-append (notices_of done) (notices_of lately),
                );
            answered = subst⁻¹ (λ (l : List ℕ). Noted l answers₀ answers₁) (map-append (λ (x : Result). number x.answer) done lately)
                (noted_part (answers_of done) (answers_of lately) answers₀ answers part played (played + many - played) noted
                (omega (arith, is, u.fit)) (omega (arith, numbers, lot_few)) u.answered plays.answers);
            wrote = subst⁻¹ (λ (l : List ℕ). Noted l notices₀ notices₁) told
                (noted_part (encode_all (notices_of done)) (encode_all (notices_of lately)) notices₀ notices noticed (record_length * sent)
                (length notices - record_length * sent) written (omega (arith, notices_length, u.room))
                (omega (
                  arith,
                  length-encode_all (notices_of lately),
                  row_few calendar free c lot_records,
                  notices_length,
                )) u.wrote (emits_noted plays.notices));
            rest =
                u.rest ∙ ap (behind done) rest_is
                ∙ (λ i. record {
                  results = sym (append_assoc done lately after.results) i;
                  book = after.book;
                  left = after.left;
                });
          }
