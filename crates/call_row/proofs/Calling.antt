-- The loop that makes record calls in a row: some are made, and the records of the others follow. Assumes nothing.
use Prim.Native.Nat.{ℕ, ◌+◌, ◌*◌, ◌-◌, ◌≤◌, ◌<◌, min}
use mathlib.Core.Path.{◌≡◌, refl, sym, ap, ap₂, subst, subst⁻¹, ◌∙◌}
use mathlib.Core.Logic.{◌⊎◌, inl, inr}
use mathlib.Core.List.{List, [], ◌∷◌, ◌++◌, append_assoc, append-nil}
use native.Mathlib.Omega.{arith}
use lib.ListN.{length, take, drop, set, length-append, length-map, length-take, length-drop, take-append-drop, drop_of_length-le}
use lib.Seq.{take_all, take_at, drop_at, drop-drop}
use Rattle.records.specs.Layout.{record_length}
use Rattle.records.proofs.Emits.{emits_rest, emits_length}
use Rattle.std.specs.Prelude.{Ok}
use Rattle.premise.specs.Refusals.{Answer}
use Rattle.premise.specs.Refusals.{number}
use Rattle.book.specs.declared.Book.{Book}
use Rattle.book.specs.declared.Reply.{Reply}
use Rattle.book.specs.Calls.{notice_bytes, call}
use Rattle.book.specs.CallsInRow.{records_of, Noted}
use Rattle.book.specs.Promise.{Promised}
use Rattle.book.proofs.CallsInRow.{records_over, records_next, lent_record}
use Rattle.book.proofs.Few.{mark_all_few, step_all_few}
use Rattle.book.proofs.Keeps.{by_call}
use Rattle.book.proofs.Kept.{book_kept_means}
use Rattle.book_player.proofs.Playing.{noted_length, noted_more, dropped}
use Rattle.demands.specs.Demand3.{Made, Played, last_book}
use Rattle.demands.specs.Tapes.{tape_of}
use Rattle.call_row_rules.specs.CallsMade.{numbers_given, counts_given, sent_by, bytes_sent, last_given, Lent, CallsMade}
use Rattle.call_row_rules.proofs.OneMore.{calls_more, lent_more, tape_more, numbers_more, counts_more, sent_more, bytes_more}
use Rattle.call_row_rules.proofs.OneMore.{last_more, book_more}

-- ---- a call's notices go into the shortest buffer that is taken, however long its own is
few : (calendar : List ℕ) (b : Book) (bytes lent : List ℕ) → record_length * length (call calendar b bytes lent).notices ≤ notice_bytes
few calendar b bytes lent =
    by_call (λ x. record_length * length x.notices ≤ notice_bytes) calendar b bytes lent
    (omega arith)
    (λ r p w t. mark_all_few calendar b r.day ((book_kept_means b).0 p.kept))
    (λ r p w t full. step_all_few calendar b r ((book_kept_means b).0 p.kept) w t)

-- ---- the rest of a buffer is lent, and the first n bytes of it are written
noted_behind : (done before after part : List ℕ) (at n : ℕ) → length done ≡ at → Noted done before after → at ≤ length before
    → n ≤ length part → drop n part ≡ drop n (drop at before)
    → Noted (done ++ take n part) before (take at after ++ (part ++ drop (length after - at) (drop at after)))
noted_behind done before after part at n long noted within some rest =
    let behind = drop (length done) before in
    let front : take at after ≡ done = ap (take at) noted ∙ take_at done behind at long in
    let none : drop (length after - at) (drop at after) ≡ [] =
    drop_of_length-le (drop at after) {i = length after - at} (omega (arith, length-drop at after)) in
    let many : at + n ≡ length (done ++ take n part) = omega (arith, length-append done (take n part), length-take n part, long, some) in
    ap₂ (λ (l r : List ℕ). l ++ (part ++ r)) front none
    ∙ ap (λ (l : List ℕ). done ++ l)
    (append-nil part ∙ sym (take-append-drop n part) ∙ ap (λ (l : List ℕ). take n part ++ l) (rest ∙ drop-drop n at before))
    ∙ sym (append_assoc done (take n part) (drop (at + n) before))
    ∙ ap (λ (k : ℕ). (done ++ take n part) ++ drop k before) many

-- how many calls can be noted
abbrev places : List ℕ → List ℕ → ℕ
places answers counts = min (length answers) (length counts)

-- ---- what holds between two calls; the first lists of each pair are the buffers as they were lent
pub record Calling (calendar tape : List ℕ) (b : Book) (answers₀ counts₀ notices₀ answers counts notices : List ℕ) (c : Book)
    (played sent from : ℕ) (last : Answer) : Type 0 where
  pub made : List Made
  pub calls : Played calendar b made
  pub lent : Lent notices₀ made
  pub few : played ≤ places answers₀ counts₀
  pub room : record_length * sent ≤ length notices₀
  pub count : played ≡ length made
  pub total : sent ≡ sent_by made
  pub long : length (bytes_sent made) ≡ record_length * sent
  pub ended : last ≡ last_given (Ok tt) made
  pub answered : Noted (numbers_given made) answers₀ answers
  pub counted : Noted (counts_given made) counts₀ counts
  pub wrote : Noted (bytes_sent made) notices₀ notices
  pub book : c ≡ last_book b made
  pub rest : records_of (places answers₀ counts₀) tape ≡ tape_of made ++ records_of (places answers₀ counts₀ - played) (drop from tape)

pub calling_none : (calendar tape : List ℕ) (b : Book) (answers counts notices : List ℕ)
    → Calling calendar tape b answers counts notices answers counts notices b 0 0 0 (Ok tt)
calling_none calendar tape b answers counts notices =
    let all : places answers counts - 0 ≡ places answers counts = omega arith in
    record {
      made = [];
      calls = tt;
      lent = tt;
      few = omega arith;
      room = omega arith;
      count = refl;
      total = refl;
      long = refl;
      ended = refl;
      answered = refl;
      counted = refl;
      wrote = refl;
      book = refl;
      rest = ap (λ (n : ℕ). records_of n tape) (sym all);
    }

module _ {calendar tape : List ℕ} {b : Book} {answers₀ counts₀ notices₀ answers counts notices : List ℕ} {c : Book}
    {played sent from : ℕ} {last : Answer}
    (p : Calling calendar tape b answers₀ counts₀ notices₀ answers counts notices c played sent from last) where
  abbrev most : ℕ
  most = places answers₀ counts₀

  noted_numbers : length (numbers_given p.made) ≡ played
  noted_numbers = length-map p.made (λ (m : Made). number m.reply.answer) ∙ sym p.count

  noted_counts : length (counts_given p.made) ≡ played
  noted_counts = length-map p.made (λ (m : Made). m.reply.sent) ∙ sym p.count

  fed_many : length (tape_of p.made) ≡ played
  fed_many = length-map p.made (λ (m : Made). m.bytes) ∙ sym p.count

  pub answers-length : length answers ≡ length answers₀
  answers-length = noted_length (numbers_given p.made) answers₀ answers p.answered (omega (arith, noted_numbers, p.few))

  pub counts_length : length counts ≡ length counts₀
  counts_length = noted_length (counts_given p.made) counts₀ counts p.counted (omega (arith, noted_counts, p.few))

  pub notices_length : length notices ≡ length notices₀
  notices_length = noted_length (bytes_sent p.made) notices₀ notices p.wrote (omega (arith, p.long, p.room))

  -- the notices that stand have gone no further than the buffer
  pub sent_within : record_length * sent ≤ length notices
  sent_within = omega (arith, p.room, notices_length)

  -- ---- the loop is left
  abbrev records : List (List ℕ)
  records = records_of most tape

  abbrev Done : Type 0
  Done = (made : List Made) × CallsMade calendar b records (record { played = played; sent = sent; last = last; book = c })
      answers₀ answers counts₀ counts notices₀ notices made

  done : (played ≡ length records) ⊎ (length notices₀ - record_length * sent < notice_bytes) → Done
  done stops = (
    p.made,
    record {
      calls = p.calls;
      lent = p.lent;
      fed = sym (ap (take played) p.rest ∙ take_at (tape_of p.made) _ played fed_many);
      played = p.count;
      stops = stops;
      answers = p.answered;
      counts = p.counted;
      sent = p.total;
      notices = p.wrote;
      last = p.ended;
      book = p.book;
    },
  )

  done_all : records_of (most - played) (drop from tape) ≡ [] → Done
  done_all none =
      let made = tape_of p.made in
      done (inl (sym fed_many ∙ ap length (sym (p.rest ∙ ap (λ (l : List (List ℕ)). made ++ l) none ∙ append-nil made))))

  -- as many are made as can be noted
  done_most : most ≤ played → Done
  done_most h =
      let none : most - played ≡ 0 = omega (arith, h) in
      done_all (ap (λ (n : ℕ). records_of n (drop from tape)) none)

  pub done_answers : length answers ≤ played → Done
  done_answers h = done_most (omega (arith, h, answers-length))

  pub done_counts : length counts ≤ played → Done
  done_counts h = done_most (omega (arith, h, counts_length))

  -- no record is left
  pub done_over : length tape ≤ from → Done
  done_over h = done_all (records_over (most - played) from tape h)

  -- the next might find no room for its notices
  pub done_room : length notices - record_length * sent < notice_bytes → Done
  done_room h = done (inr (omega (arith, h, notices_length)))

  -- ---- a record is left and finds room, and its call is made
  module _ (first : played < length answers) (other : played < length counts) (h : from < length tape)
      (room : notice_bytes ≤ length notices - record_length * sent) (to : ℕ)
      {reply : Reply} {part : List ℕ}
      (kept : Promised calendar c (take (to - from) (drop from tape))
      (take (length notices - record_length * sent) (drop (record_length * sent) notices)) reply part) where
    more : played < most
    more = omega (arith, first, other, answers-length, counts_length)

    abbrev made : Made
    made =
        record {
          bytes = take (to - from) (drop from tape);
          lent = take (length notices - record_length * sent) (drop (record_length * sent) notices);
          reply = reply;
          after = part;
        }

    lent_is : made.lent ≡ drop (record_length * sent) notices₀
    lent_is =
        let at = record_length * sent in
        let all = take_all (length notices - at) (drop at notices) (omega (arith, length-drop at notices)) in
        all ∙ ap (drop at) p.wrote ∙ drop_at (bytes_sent p.made) _ at p.long
        ∙ ap (λ (n : ℕ). drop n notices₀) p.long

    lent_long : notice_bytes ≤ length made.lent
    lent_long = omega (arith, ap length lent_is, length-drop (record_length * sent) notices₀, room, notices_length)

    -- its notices are few
    pub few_sent : record_length * reply.sent ≤ notice_bytes
    few_sent = omega (arith, kept.notices.count, few calendar c made.bytes made.lent)

    pub sent_within_more : record_length * (sent + reply.sent) ≤ length notices
    sent_within_more = omega (arith, few_sent, room)

    part_long : record_length * reply.sent ≤ length part
    part_long =
        omega (
          arith,
          kept.notices.count,
          few_sent,
          lent_long,
          emits_length kept.notices (omega (arith, few calendar c made.bytes made.lent, lent_long)),
        )

    next_is : to ≡ min (from + record_length) (length tape)
        → records_of (most - played) (drop from tape) ≡ made.bytes ∷ records_of (most - (played + 1)) (drop to tape)
    next_is ends =
        let left : most - played - 1 ≡ most - (played + 1) = omega arith in
        let on = dropped tape from to ends in
        records_next (most - played) (drop from tape) (omega (arith, more)) (omega (arith, h, length-drop from tape))
        ∙ (λ i. sym (lent_record tape from to ends) i ∷ records_of (left i) (on i))

    pub calling_more : to ≡ min (from + record_length) (length tape) → {answer : ℕ} → answer ≡ number reply.answer
        → Calling calendar tape b answers₀ counts₀ notices₀ (set answers played answer) (set counts played reply.sent)
        (take (record_length * sent) notices
        ++ (part ++ drop (length notices - record_length * sent) (drop (record_length * sent) notices)))
        reply.book (played + 1) (sent + reply.sent) to reply.answer
    calling_more ends {answer} is =
        let ms = p.made in
        let n = record_length * reply.sent in
        let at : record_length * sent ≡ record_length * sent_by ms = ap (λ (k : ℕ). record_length * k) p.total in
        record {
          made = ms ++ (made ∷ []);
          calls = calls_more made calendar b ms p.calls
              (subst (λ (x : Book). Promised calendar x made.bytes made.lent reply part) p.book kept);
          lent = lent_more made notices₀ ms p.lent (lent_is ∙ ap (λ (k : ℕ). drop k notices₀) at) lent_long;
          few = omega (arith, more);
          room = omega (arith, sent_within_more, notices_length);
          count = ap (λ (k : ℕ). k + 1) p.count ∙ sym (length-append ms (made ∷ []));
          total = ap (λ (k : ℕ). k + reply.sent) p.total ∙ sym (sent_more made ms);
          long = ap length (bytes_more made ms) ∙ length-append (bytes_sent ms) (take n part)
              ∙ omega (arith, p.long, length-take n part, part_long);
          ended = sym (last_more made (Ok tt) ms);
          answered = subst⁻¹ (λ (l : List ℕ). Noted l answers₀ (set answers played answer))
              (numbers_more made ms ∙ ap (λ (k : ℕ). numbers_given ms ++ (k ∷ [])) (sym is))
              (noted_more (numbers_given ms) answers₀ answers played answer p.answered noted_numbers (omega (arith, more)));
          counted = subst⁻¹ (λ (l : List ℕ). Noted l counts₀ (set counts played reply.sent)) (counts_more made ms)
              (noted_more (counts_given ms) counts₀ counts played reply.sent p.counted noted_counts (omega (arith, more)));
          wrote = subst⁻¹ (λ (l : List ℕ). Noted l notices₀ (take (record_length * sent) notices
              ++ (part ++ drop (length notices - record_length * sent) (drop (record_length * sent) notices))))
              (bytes_more made ms)
              (noted_behind (bytes_sent ms) notices₀ notices part (record_length * sent) n p.long p.wrote p.room part_long
              (emits_rest kept.notices ∙ ap (drop n) lent_is));
          book = sym (book_more made b ms);
          rest =
              p.rest ∙ ap (λ (l : List (List ℕ)). tape_of ms ++ l) (next_is ends)
              ∙ sym (append_assoc (tape_of ms) (made.bytes ∷ []) (records_of (most - (played + 1)) (drop to tape)))
              ∙ ap (λ (l : List (List ℕ)). l ++ records_of (most - (played + 1)) (drop to tape)) (sym (tape_more made ms));
        }
