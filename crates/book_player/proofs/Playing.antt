-- The loop over the records of a stretch of tape: some are played and noted, and the course of those that are left is the rest of the
-- whole. Assumes nothing.
use Prim.Native.Nat.{ℕ, ◌+◌, ◌*◌, ◌-◌, ◌≤◌, ◌<◌, min}
use mathlib.Core.Path.{◌≡◌, refl, sym, ap, ap₂, subst⁻¹, ◌∙◌}
use mathlib.Core.List.{List, [], ◌∷◌, ◌++◌, append_assoc, append-nil, map-append}
use mathlib.Core.Bool.{Bool, true, false}
use native.Mathlib.Omega.{arith}
use lib.Dec.{leb}
use lib.ListN.{length, take, drop, set, length-append, length-drop, length-map}
use lib.Seq.{drop-drop}
use borrow.Author.Tests.{leb-true, leb-false}
use Rattle.lists.proofs.Over.{next_stored}
use Rattle.lists.proofs.Find.{drop-none}
use Rattle.records.specs.declared.Notice.{Notice}
use Rattle.records.specs.Layout.{record_length}
use Rattle.std.specs.Prelude.{Ok}
use Rattle.premise.specs.Refusals.{Answer}
use Rattle.premise.specs.Refusals.{number}
use Rattle.premise.specs.Promises.{Writes}
use Rattle.premise_laws.proofs.Writes.{writes_none, writes_then, writes_length}
use Rattle.book.specs.declared.Book.{Book}
use Rattle.book.specs.Book.{book_kept}
use Rattle.book.specs.Calls.{notice_bytes, Result}
use Rattle.book.specs.CallsInRow.{records_of, called, Course, stopped, calls_in_row, answers_of, counts_of, notices_of, last_answer, Noted, Plays}
use Rattle.book.specs.Laws.{BookKept}
use Rattle.book.proofs.Emits.{writes_emits}
use Rattle.book.proofs.Kept.{book_kept_means}
use Rattle.book.proofs.CallsInRow.{records_over, records_next, lent_record, called_few, called_keeps, notices_parts}
use Rattle.book.proofs.CallsInRow.{behind, row_none, row_next, row_stops}
use Rattle.book_player.proofs.Ways.{Standing, Outcome, Made}

-- ---- calls and one more
answers_more : (results : List Result) (x : Result) → answers_of (results ++ (x ∷ [])) ≡ answers_of results ++ (number x.answer ∷ [])
answers_more results x = map-append (λ (y : Result). number y.answer) results (x ∷ [])

counts_more : (results : List Result) (x : Result) → counts_of (results ++ (x ∷ [])) ≡ counts_of results ++ (length x.notices ∷ [])
counts_more results x = map-append (λ (y : Result). length y.notices) results (x ∷ [])

notices_more : (results : List Result) (x : Result) → notices_of (results ++ (x ∷ [])) ≡ notices_of results ++ x.notices
notices_more results x =
    notices_parts results (x ∷ []) ∙ ap (λ (l : List Notice). notices_of results ++ l) (append-nil x.notices)

last_more : (answer : Answer) (results : List Result) (x : Result) → last_answer answer (results ++ (x ∷ [])) ≡ x.answer
last_more answer [] x = refl
last_more answer (y ∷ ys) x = last_more y.answer ys x

-- ---- a number more noted
pub noted_length : (numbers before after : List ℕ) → Noted numbers before after → length numbers ≤ length before
    → length after ≡ length before
noted_length numbers before after e h =
    ap length e ∙ length-append numbers (drop (length numbers) before) ∙ omega (arith, length-drop (length numbers) before, h)

pub noted_more : (numbers before after : List ℕ) (i n : ℕ) → Noted numbers before after → length numbers ≡ i → i < length before
    → Noted (numbers ++ (n ∷ [])) before (set after i n)
noted_more numbers before after i n e long h =
    let many : i + 1 ≡ length (numbers ++ (n ∷ [])) = omega (arith, long, length-append numbers (n ∷ [])) in
    ap (λ (l : List ℕ). set l i n) (e ∙ ap (λ (k : ℕ). numbers ++ drop k before) long)
    ∙ next_stored 0 numbers before i long h n
    ∙ ap (λ (k : ℕ). (numbers ++ (n ∷ [])) ++ drop k before) many

-- ---- the tape after a record
pub dropped : (tape : List ℕ) (from to : ℕ) → to ≡ min (from + record_length) (length tape) → drop record_length
    (drop from tape) ≡ drop to tape
dropped tape from to ends = drop-drop record_length from tape ∙ go (leb (from + record_length) (length tape)) refl
  where
    go : (inside : Bool) → leb (from + record_length) (length tape) ≡ inside → drop (from + record_length) tape ≡ drop to tape
    go true t =
        let e : from + record_length ≡ to = omega (arith, ends, leb-true (from + record_length) (length tape) t) in
        ap (λ (n : ℕ). drop n tape) e
    go false t =
        let short = leb-false (from + record_length) (length tape) t in
        drop-none tape (from + record_length) (omega (arith, short)) ∙ sym (drop-none tape to (omega (arith, ends, short)))

-- ---- what holds between two records; the first lists of each pair are the buffers as they were lent
pub record Playing (calendar tape : List ℕ) (b : Book) (answers₀ counts₀ notices₀ answers counts notices : List ℕ) (c : Book)
    (played sent from : ℕ) (last : Answer) : Type 0 where
  pub results : List Result
  pub kept : book_kept c ≡ true
  pub fit : length answers₀ ≤ length counts₀
  pub few : played ≤ length answers₀
  pub room : record_length * sent ≤ length notices₀
  pub count : played ≡ length results
  pub ended : last ≡ last_answer (Ok tt) results
  pub answered : Noted (answers_of results) answers₀ answers
  pub counted : Noted (counts_of results) counts₀ counts
  pub wrote : Writes 0 notices₀ notices sent (notices_of results)
  pub rest : calls_in_row calendar (length notices₀) b (records_of (length answers₀) tape)
      ≡ behind results
      (calls_in_row calendar (length notices₀ - record_length * sent) c (records_of (length answers₀ - played) (drop from tape)))

pub playing_none : (calendar tape : List ℕ) (b : Book) (answers counts notices : List ℕ) → BookKept b
    → length answers ≤ length counts
    → Playing calendar tape b answers counts notices answers counts notices b 0 0 0 (Ok tt)
playing_none calendar tape b answers counts notices k fit =
    let all : length notices - record_length * 0 ≡ length notices = omega arith in
    let most : length answers - 0 ≡ length answers = omega arith in
    record {
      results = [];
      kept = (book_kept_means b).1 k;
      fit = fit;
      few = omega arith;
      room = omega arith;
      count = refl;
      ended = refl;
      answered = refl;
      counted = refl;
      wrote = writes_none 0 notices;
      rest = ap₂ (λ (free most : ℕ). calls_in_row calendar free b (records_of most tape)) (sym all) (sym most);
    }

module _ {calendar tape : List ℕ} {b : Book} {answers₀ counts₀ notices₀ answers counts notices : List ℕ} {c : Book}
    {played sent from : ℕ} {last : Answer}
    (p : Playing calendar tape b answers₀ counts₀ notices₀ answers counts notices c played sent from last) where
  noted : length (answers_of p.results) ≡ played
  noted = length-map p.results (λ (x : Result). number x.answer) ∙ sym p.count

  noted_counts : length (counts_of p.results) ≡ played
  noted_counts = length-map p.results (λ (x : Result). length x.notices) ∙ sym p.count

  pub answers-length : length answers ≡ length answers₀
  answers-length = noted_length (answers_of p.results) answers₀ answers p.answered (omega (arith, noted, p.few))

  pub counts_length : length counts ≡ length counts₀
  counts_length = noted_length (counts_of p.results) counts₀ counts p.counted (omega (arith, noted_counts, p.few, p.fit))

  pub notices_length : length notices ≡ length notices₀
  notices_length = writes_length 0 notices₀ (notices_of p.results) (omega (arith, p.room, p.wrote.count)) notices sent p.wrote

  -- the notices that stand have gone no further than the buffer
  pub sent_within : record_length * sent ≤ length notices
  sent_within = omega (arith, p.room, notices_length)

  -- ---- the loop is left
  plays : (records : List (List ℕ))
      → calls_in_row calendar (length notices₀ - record_length * sent) c (records_of (length answers₀ - played) (drop from tape))
      ≡ stopped c records
      → Plays (calls_in_row calendar (length notices₀) b (records_of (length answers₀) tape))
      (record { played = played; sent = sent; last = last; book = c }) answers₀ answers counts₀ counts notices₀ notices
  plays records e =
      let whole = p.rest ∙ ap (behind p.results) e in
      let all : (calls_in_row calendar (length notices₀) b (records_of (length answers₀) tape)).results ≡ p.results =
      ap (λ (x : Course). x.results) whole ∙ append-nil p.results in
      record {
        book = sym (ap (λ (x : Course). x.book) whole);
        played = p.count ∙ ap length (sym all);
        last = p.ended ∙ ap (last_answer (Ok tt)) (sym all);
        answers = subst⁻¹ (λ (l : List Result). Noted (answers_of l) answers₀ answers) all p.answered;
        counts = subst⁻¹ (λ (l : List Result). Noted (counts_of l) counts₀ counts) all p.counted;
        notices = writes_emits notices₀ notices sent _
            (subst⁻¹ (λ (l : List Result). Writes 0 notices₀ notices sent (notices_of l)) all p.wrote);
      }

  -- as many are played as there are answers to note
  pub plays_most : length answers ≤ played
      → Plays (calls_in_row calendar (length notices₀) b (records_of (length answers₀) tape))
      (record { played = played; sent = sent; last = last; book = c }) answers₀ answers counts₀ counts notices₀ notices
  plays_most h =
      let none : length answers₀ - played ≡ 0 = omega (arith, h, answers-length) in
      plays [] (ap (λ (m : ℕ). calls_in_row calendar (length notices₀ - record_length * sent) c (records_of m (drop from tape))) none
      ∙ row_none calendar (length notices₀ - record_length * sent) c)

  -- no record is left
  pub plays_all : length tape ≤ from
      → Plays (calls_in_row calendar (length notices₀) b (records_of (length answers₀) tape))
      (record { played = played; sent = sent; last = last; book = c }) answers₀ answers counts₀ counts notices₀ notices
  plays_all h =
      plays [] (ap (calls_in_row calendar (length notices₀ - record_length * sent) c) (records_over (length answers₀ - played) from tape h)
      ∙ row_none calendar (length notices₀ - record_length * sent) c)

  -- the next might find no room for its notices
  pub plays_room : length notices - record_length * sent < notice_bytes
      → Plays (calls_in_row calendar (length notices₀) b (records_of (length answers₀) tape))
      (record { played = played; sent = sent; last = last; book = c }) answers₀ answers counts₀ counts notices₀ notices
  plays_room h =
      plays _ (row_stops calendar (length notices₀ - record_length * sent) c (records_of (length answers₀ - played) (drop from tape))
      (omega (arith, h, notices_length)))

  -- ---- a record is left and finds room
  module _ (more : played < length answers) (h : from < length tape) (room : notice_bytes ≤ length notices - record_length * sent) where
    pub standing : Standing c sent notices
    standing = record { kept = p.kept; room = room }

    module _ (to : ℕ) {o : Outcome} (made : Made calendar c (take (to - from) (drop from tape)) sent notices o) where
      abbrev bytes : List ℕ
      bytes = take (to - from) (drop from tape)

      abbrev result : Result
      result = called calendar c bytes

      -- its notices follow, and are few
      pub sent_more : o.sent ≡ sent + length result.notices
      sent_more = made.wrote.count

      pub sent_few : record_length * (o.sent - sent) ≤ notice_bytes
      sent_few = omega (arith, sent_more, called_few calendar c bytes)

      rest_is : to ≡ min (from + record_length) (length tape)
          → calls_in_row calendar (length notices₀ - record_length * sent) c (records_of (length answers₀ - played) (drop from tape))
          ≡ behind (result ∷ [])
          (calls_in_row calendar (length notices₀ - record_length * o.sent) o.book
          (records_of (length answers₀ - (played + 1)) (drop to tape)))
      rest_is ends =
          let free = length notices₀ - record_length * sent in
          let left : length answers₀ - played - 1 ≡ length answers₀ - (played + 1) = omega arith in
          let on = dropped tape from to ends in
          let after : free - record_length * length result.notices ≡ length notices₀ - record_length * o.sent =
          omega (arith, sent_more) in
          ap (calls_in_row calendar free c)
          (records_next (length answers₀ - played) (drop from tape) (omega (arith, more, answers-length))
          (omega (arith, h, length-drop from tape))
          ∙ (λ i. sym (lent_record tape from to ends) i ∷ records_of (left i) (on i)))
          ∙ row_next calendar free c bytes (records_of (length answers₀ - (played + 1)) (drop to tape)) (omega (arith, room, notices_length))
          ∙ (λ i. behind (result ∷ [])
          (calls_in_row calendar (after i) (sym made.book i) (records_of (length answers₀ - (played + 1)) (drop to tape))))

      pub playing_more : to ≡ min (from + record_length) (length tape) → {answer gave : ℕ} → answer ≡ number o.answer
          → gave ≡ o.sent - sent
          → Playing calendar tape b answers₀ counts₀ notices₀ (set answers played answer) (set counts played gave) o.buffer o.book
          (played + 1) o.sent to o.answer
      playing_more ends {answer} {gave} is many =
          let results = p.results ++ (result ∷ []) in
          let others : Course = calls_in_row calendar (length notices₀ - record_length * o.sent) o.book
          (records_of (length answers₀ - (played + 1)) (drop to tape)) in
          let one : number result.answer ≡ answer = sym (is ∙ ap number made.answer) in
          let some : length result.notices ≡ gave = omega (arith, many, sent_more) in
          record {
            results = results;
            kept = subst⁻¹ (λ (x : Book). book_kept x ≡ true) made.book (called_keeps calendar c bytes p.kept);
            fit = p.fit;
            few = omega (arith, more, answers-length);
            room = omega (arith, sent_more, called_few calendar c bytes, room, notices_length, p.room);
            count = ap (λ (n : ℕ). n + 1) p.count ∙ sym (length-append p.results (result ∷ []));
            ended = made.answer ∙ sym (last_more (Ok tt) p.results result);
            answered = subst⁻¹ (λ (l : List ℕ). Noted l answers₀ (set answers played answer))
                (answers_more p.results result ∙ ap (λ (n : ℕ). answers_of p.results ++ (n ∷ [])) one)
                (noted_more (answers_of p.results) answers₀ answers played answer p.answered noted
                (omega (arith, more, answers-length)));
            counted = subst⁻¹ (λ (l : List ℕ). Noted l counts₀ (set counts played gave))
                (counts_more p.results result ∙ ap (λ (n : ℕ). counts_of p.results ++ (n ∷ [])) some)
                (noted_more (counts_of p.results) counts₀ counts played gave p.counted noted_counts
                (omega (arith, more, answers-length, p.fit)));
            wrote = subst⁻¹ (λ (l : List Notice). Writes 0 notices₀ o.buffer o.sent l) (notices_more p.results result)
                (writes_then 0 notices₀ (notices_of p.results) result.notices
                (omega (
                  arith,
                  p.wrote.count,
                  length-append (notices_of p.results) result.notices,
                  called_few calendar c bytes,
                  room,
                  notices_length,
                  p.room,
                ))
                notices sent p.wrote o.buffer o.sent made.wrote);
            rest =
                p.rest ∙ ap (behind p.results) (rest_is ends)
                ∙ (λ i. record {
                  results = sym (append_assoc p.results (result ∷ []) others.results) i;
                  book = others.book;
                  left = others.left;
                });
          }
