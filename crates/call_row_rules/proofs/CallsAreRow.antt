-- Record calls that were made one after the other are record calls in a row, as the definition has them. Assumes nothing.
use Prim.Native.Nat.{ℕ, suc, ◌*◌, ◌-◌, ◌≤◌, ◌<◌}
use mathlib.Core.Path.{◌≡◌, refl, sym, ap, ap₂, subst⁻¹, ◌∙◌}
use mathlib.Core.Logic.{◌⊎◌, inl, inr, ⊎_elim}
use mathlib.Core.List.{List, [], ◌∷◌, ◌++◌}
use native.Mathlib.Omega.{arith}
use lib.ListN.{length, take, drop, length-append, length-drop}
use lib.Seq.{take_at}
use Rattle.records.specs.Layout.{record_length}
use Rattle.records.specs.Notices.{encode_all, Emits}
use Rattle.records.proofs.Emits.{emits_as}
use Rattle.records.proofs.Notices.{length-encode_all, encode_all-append}
use Rattle.std.specs.Prelude.{Ok}
use Rattle.premise.specs.Refusals.{Answer}
use Rattle.premise.specs.Refusals.{number}
use Rattle.book.specs.declared.Book.{Book}
use Rattle.book.specs.Calls.{notice_bytes, Result, call}
use Rattle.book.specs.CallsInRow.{called, Course, stopped, and_then, calls_in_row, answers_of, counts_of, notices_of, last_answer, Noted}
use Rattle.book.specs.Promise.{Promised}
use Rattle.book.proofs.CallsInRow.{called_lent, row_none, row_next, row_stops}
use Rattle.demands.specs.Demand3.{Made, Played, last_book}
use Rattle.demands.specs.Tapes.{tape_of}
use Rattle.call_row_rules.specs.CallsAreRow.{CallsAreRow}
use Rattle.call_row_rules.specs.CallsMade.{numbers_given, counts_given, sent_by, bytes_sent, last_given, Lent}

-- ---- one call
module _ (calendar : List ℕ) (b : Book) (m : Made)
    (promise : Promised calendar b m.bytes m.lent m.reply m.after) (long : notice_bytes ≤ length m.lent) where
  abbrev result : Result
  result = called calendar b m.bytes

  same : call calendar b m.bytes m.lent ≡ result
  same = called_lent calendar b m.bytes m.lent long

  pub answer_is : result.answer ≡ m.reply.answer
  answer_is = sym (promise.answer ∙ ap (λ (x : Result). x.answer) same)

  pub book_is : result.book ≡ m.reply.book
  book_is = sym (promise.book ∙ ap (λ (x : Result). x.book) same)

  emitted : Emits m.lent m.after m.reply.sent result.notices
  emitted = emits_as (ap (λ (x : Result). x.notices) same) promise.notices

  pub count_is : length result.notices ≡ m.reply.sent
  count_is = sym emitted.count

  pub bytes_are : encode_all result.notices ≡ take (record_length * m.reply.sent) m.after
  bytes_are =
      let many : length (encode_all result.notices) ≡ record_length * m.reply.sent =
      omega (arith, length-encode_all result.notices, count_is) in
      sym (ap (take (record_length * m.reply.sent)) emitted.bytes ∙ take_at (encode_all result.notices) _ _ many)

-- ---- all of them
-- what calls say of a course
record Says (b : Book) (course : Course) (ms : List Made) : Type 0 where
  book : course.book ≡ last_book b ms
  count : length course.results ≡ length ms
  answers : answers_of course.results ≡ numbers_given ms
  counts : counts_of course.results ≡ counts_given ms
  notices : encode_all (notices_of course.results) ≡ bytes_sent ms
  sent : length (notices_of course.results) ≡ sent_by ms
  last : (answer : Answer) → last_answer answer course.results ≡ last_given answer ms

says_none : (b : Book) (records : List (List ℕ)) → Says b (stopped b records) []
says_none b records = record {
  book = refl;
  count = refl;
  answers = refl;
  counts = refl;
  notices = refl;
  sent = refl;
  last = λ answer. refl;
}

abbrev Stops : ℕ → List (List ℕ) → List Made → Type 0
Stops free records ms = (length ms ≡ length records) ⊎ (free - record_length * sent_by ms < notice_bytes)

module _ (calendar : List ℕ) where
  says_more : (b : Book) (m : Made) → Promised calendar b m.bytes m.lent m.reply m.after
      → notice_bytes ≤ length m.lent → (course : Course) (ms : List Made) → Says m.reply.book course ms
      → Says b (and_then (called calendar b m.bytes) course) (m ∷ ms)
  says_more b m promise long course ms s =
      let x = called calendar b m.bytes in
      let answer = answer_is calendar b m promise long in
      record {
        book = s.book;
        count = ap suc s.count;
        answers = λ i. number (answer i) ∷ s.answers i;
        counts = λ i. count_is calendar b m promise long i ∷ s.counts i;
        notices = encode_all-append x.notices (notices_of course.results)
            ∙ ap₂ (λ (l r : List ℕ). l ++ r) (bytes_are calendar b m promise long) s.notices;
        sent = length-append x.notices (notices_of course.results)
            ∙ omega (arith, count_is calendar b m promise long, s.sent);
        last = λ given. ap (λ (a : Answer). last_answer a course.results) answer ∙ s.last m.reply.answer;
      }

  says : (free : List ℕ) (b : Book) (records : List (List ℕ)) (ms : List Made) → Played calendar b ms → Lent free ms
      → tape_of ms ≡ take (length ms) records → Stops (length free) records ms
      → Says b (calls_in_row calendar (length free) b records) ms
  says free b [] [] played lent fed stops = rw (row_none calendar (length free) b) (says_none b [])
  says free b (bytes ∷ rest) [] played lent fed stops =
      let full : length free < notice_bytes = ⊎_elim (λ e. absurd (omega (arith, e))) (λ h. omega (arith, h)) stops in
      rw (row_stops calendar (length free) b (bytes ∷ rest) full) (says_none b (bytes ∷ rest))
  says free b [] (m ∷ ms) played lent fed stops = absurd (omega (arith, ap length fed))
  says free b (bytes ∷ rest) (m ∷ ms) played lent fed stops =
      let e : m.bytes ∷ tape_of ms ≡ bytes ∷ take (length ms) rest = fed in
      let same : m.bytes ≡ bytes = cc in
      let others : tape_of ms ≡ take (length ms) rest = cc in
      let long : notice_bytes ≤ length m.lent = lent.1 in
      let on = m.reply.book in
      let behind = drop (record_length * m.reply.sent) free in
      let left : length free - record_length * length (called calendar b m.bytes).notices ≡ length behind =
      omega (arith, count_is calendar b m played.0 long, length-drop (record_length * m.reply.sent) free) in
      let more : Stops (length behind) rest ms =
      ⊎_elim (λ e. inl (omega (arith, e))) (λ h. inr (omega (arith, h, length-drop (record_length * m.reply.sent) free))) stops in
      let course : calls_in_row calendar (length free) b (bytes ∷ rest)
      ≡ and_then (called calendar b m.bytes) (calls_in_row calendar (length behind) on rest) =
      ap (λ (l : List ℕ). calls_in_row calendar (length free) b (l ∷ rest)) (sym same)
      ∙ row_next calendar (length free) b m.bytes rest (omega (arith, long, ap length lent.0))
      ∙ ap₂ (λ (n : ℕ) (x : Book). and_then (called calendar b m.bytes) (calls_in_row calendar n x rest)) left
      (book_is calendar b m played.0 long) in
      subst⁻¹ (λ (x : Course). Says b x (m ∷ ms)) course
      (says_more b m played.0 long (calls_in_row calendar (length behind) on rest) ms
      (says behind on rest ms played.1 lent.2 others more))

pub calls_are_row : CallsAreRow
calls_are_row calendar b records r answers₀ answers₁ counts₀ counts₁ notices₀ notices₁ made p =
    let course = calls_in_row calendar (length notices₀) b records in
    let stops : Stops (length notices₀) records made =
    ⊎_elim (λ e. inl (sym p.played ∙ e)) (λ h. inr (omega (arith, h, p.sent))) p.stops in
    let s : Says b course made =
    says calendar notices₀ b records made p.calls p.lent (p.fed ∙ ap (λ (n : ℕ). take n records) p.played) stops in
    let xs = notices_of course.results in
    let bytes : Noted (encode_all xs) notices₀ notices₁ =
    subst⁻¹ (λ (l : List ℕ). Noted l notices₀ notices₁) s.notices p.notices in
    record {
      book = p.book ∙ sym s.book;
      played = p.played ∙ sym s.count;
      last = p.last ∙ sym (s.last (Ok tt));
      answers = subst⁻¹ (λ (l : List ℕ). Noted l answers₀ answers₁) s.answers p.answers;
      counts = subst⁻¹ (λ (l : List ℕ). Noted l counts₀ counts₁) s.counts p.counts;
      notices = record {
        count = p.sent ∙ sym s.sent;
        bytes = bytes ∙ ap (λ (n : ℕ). encode_all xs ++ drop n notices₀) (length-encode_all xs);
      };
    }
