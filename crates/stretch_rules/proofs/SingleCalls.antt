-- A stretch is its single calls: such calls can be made, by the definition of the call, and any two lists of them are one. Assumes nothing.
use Prim.Native.Nat.{ℕ, zero, suc, ◌+◌, ◌*◌, ◌-◌, ◌≤◌, ◌<◌}
use mathlib.Core.Path.{◌≡◌, refl, sym, ap, ap₂, subst, subst⁻¹, ◌∙◌}
use mathlib.Core.List.{List, [], ◌∷◌, ◌++◌, append_assoc}
use mathlib.Core.Bool.{Bool, true, false, cond}
use native.Mathlib.Omega.{arith}
use lib.Dec.{ltb}
use lib.ListN.{length, take, drop, length-append, length-take, length-drop, take-append-drop}
use lib.Seq.{take-append-le, drop-append-le, take_at, drop_at, drop-drop}
use Rattle.records.specs.Layout.{record_length}
use Rattle.records.specs.Notices.{encode_all, rows}
use Rattle.records.proofs.Emits.{emits_as}
use Rattle.records.proofs.Notices.{length-encode_all, encode_all-append}
use Rattle.premise.specs.Refusals.{number}
use Rattle.book.specs.declared.Book.{Book}
use Rattle.book.specs.Calls.{notice_bytes, Result, call}
use Rattle.book.specs.CallsInRow.{called, Course, stopped, and_then, calls_in_row, answers_of, notices_of, Noted}
use Rattle.book.specs.Promise.{Promised}
use Rattle.book.proofs.CallsInRow.{called_lent, by_row, row_short}
use Rattle.book.proofs.NothingFree.{nothing_free}
use Rattle.demands.specs.Demand3.{Made, Played, last_book}
use Rattle.demands.specs.Tapes.{tape_of}
use Rattle.demands.specs.CallsInRow.{notice_rows}
use Rattle.call_row_rules.specs.CallsMade.{numbers_given, sent_by}
use Rattle.stretch_rules.specs.declared.StretchAnswer.TheVariants.{Taken, FewAnswers}
use Rattle.stretch_rules.specs.Stretch.{whole_count, whole_records, Outcome, stretch_call}
use Rattle.stretch_rules.specs.Stretch.{number as stretch_number}
use Rattle.stretch_rules.specs.SingleCalls.{behind_own, EachLentRest, still_free, pieces_left}
use Rattle.stretch_rules.specs.SingleCalls.{StretchIsSingleCalls, SingleCallsCanBeMade}

-- ---- a single call, by the definition of the call, into a buffer
abbrev single : List ℕ → Book → List ℕ → List ℕ → Made
single calendar b lent bytes =
    record {
      bytes = bytes;
      lent = lent;
      reply = record {
        answer = (called calendar b bytes).answer;
        sent = length (called calendar b bytes).notices;
        book = (called calendar b bytes).book;
      };
      after = encode_all (called calendar b bytes).notices ++ drop (record_length * length (called calendar b bytes).notices) lent;
    }

module _ (calendar : List ℕ) (b : Book) (lent bytes : List ℕ) where
  abbrev result : Result
  result = called calendar b bytes

  abbrev m : Made
  m = single calendar b lent bytes

  promised : notice_bytes ≤ length lent → Promised calendar b bytes lent m.reply m.after
  promised room =
      let same : result ≡ call calendar b bytes lent = sym (called_lent calendar b bytes lent room) in
      record {
        answer = ap (λ (x : Result). x.answer) same;
        book = ap (λ (x : Result). x.book) same;
        notices = emits_as (ap (λ (x : Result). x.notices) same) (record { count = refl; bytes = refl });
      }

  own : take (record_length * length result.notices) m.after ≡ encode_all result.notices
  own = take_at (encode_all result.notices) _ (record_length * length result.notices) (length-encode_all result.notices)

  rest : behind_own m ≡ drop (record_length * length result.notices) lent
  rest = drop_at (encode_all result.notices) _ (record_length * length result.notices) (length-encode_all result.notices)

-- those of some records, each into what the one before left behind its own notices
abbrev singles : List ℕ → Book → List ℕ → List (List ℕ) → List Made
singles calendar b lent [] = []
singles calendar b lent (bytes ∷ rest) =
    single calendar b lent bytes ∷ singles calendar (called calendar b bytes).book (behind_own (single calendar b lent bytes)) rest

-- ---- what calls say of a course, from the buffer that the first of them was lent
record Says (calendar : List ℕ) (b : Book) (lent : List ℕ) (records : List (List ℕ)) (c : Course) (ms : List Made) : Type 0 where
  calls : Played calendar b ms
  fed : tape_of ms ≡ take (length ms) records
  handed : EachLentRest lent ms
  many : length ms ≡ length c.results
  book : c.book ≡ last_book b ms
  answers : answers_of c.results ≡ numbers_given ms
  sent : length (notices_of c.results) ≡ sent_by ms
  pieces : encode_all (notices_of c.results) ++ drop (record_length * length (notices_of c.results)) lent ≡ pieces_left lent ms
  free : length (still_free lent ms) ≡ length lent - record_length * length (notices_of c.results)

says_none : (calendar : List ℕ) (b : Book) (lent : List ℕ) (records : List (List ℕ)) → Says calendar b lent records (stopped b records) []
says_none calendar b lent records = record {
  calls = tt;
  fed = refl;
  handed = tt;
  many = refl;
  book = refl;
  answers = refl;
  sent = refl;
  pieces = refl;
  free = omega arith;
}

module _ (calendar : List ℕ) where
  says_more : (b : Book) (lent bytes : List ℕ) (others : List (List ℕ)) (c : Course) (ms : List Made) → notice_bytes ≤ length lent
      → Says calendar (called calendar b bytes).book (behind_own (single calendar b lent bytes)) others c ms
      → Says calendar b lent (bytes ∷ others) (and_then (called calendar b bytes) c) (single calendar b lent bytes ∷ ms)
  says_more b lent bytes others c ms room s =
      let x = called calendar b bytes in
      let n = record_length * length x.notices in
      let later = notices_of c.results in
      let all : n + record_length * length later ≡ record_length * length (x.notices ++ later) =
      omega (arith, length-append x.notices later) in
      record {
        calls = (promised calendar b lent bytes room, s.calls);
        fed = ap (λ (l : List (List ℕ)). bytes ∷ l) s.fed;
        handed = (refl, room, s.handed);
        many = ap suc s.many;
        book = s.book;
        answers = ap (λ (l : List ℕ). number x.answer ∷ l) s.answers;
        sent = length-append x.notices later ∙ ap (λ (k : ℕ). length x.notices + k) s.sent;
        pieces =
            ap₂ (λ (l : List ℕ) (k : ℕ). l ++ drop k lent) (encode_all-append x.notices later) (sym all)
            ∙ append_assoc (encode_all x.notices) (encode_all later) (drop (n + record_length * length later) lent)
            ∙ ap (λ (l : List ℕ). encode_all x.notices ++ (encode_all later ++ l))
            (sym (ap (drop (record_length * length later)) (rest calendar b lent bytes) ∙ drop-drop (record_length * length later) n lent))
            ∙ ap₂ (λ (l r : List ℕ). l ++ r) (sym (own calendar b lent bytes)) s.pieces;
        free = s.free
            ∙ omega (arith, ap length (rest calendar b lent bytes), length-drop n lent, length-append x.notices later);
      }

  -- as many as a course has results
  says : (free : ℕ) (b : Book) (records : List (List ℕ)) (lent : List ℕ) → length lent ≡ free
      → Says calendar b lent records (calls_in_row calendar free b records)
      (singles calendar b lent (take (length (calls_in_row calendar free b records).results) records))
  says =
      by_row
      (λ free b records c. (lent : List ℕ) → length lent ≡ free
      → Says calendar b lent records c (singles calendar b lent (take (length c.results) records)))
      calendar
      (λ free b records lent e. says_none calendar b lent records)
      (λ free b bytes others c h ih lent e.
      says_more b lent bytes others c
      (singles calendar (called calendar b bytes).book (behind_own (single calendar b lent bytes)) (take (length c.results) others))
      (omega (arith, h, e))
      (ih (behind_own (single calendar b lent bytes))
      (ap length (rest calendar b lent bytes) ∙ length-drop (record_length * length (called calendar b bytes).notices) lent
      ∙ ap (λ (n : ℕ). n - record_length * length (called calendar b bytes).notices) e)))

-- ---- any two lists of calls on the same records, from one book and one buffer, are one
pub same_made : (calendar : List ℕ) (b : Book) (m n : Made) → Promised calendar b m.bytes m.lent m.reply m.after
    → Promised calendar b n.bytes n.lent n.reply n.after → m.bytes ≡ n.bytes → m.lent ≡ n.lent → m ≡ n
same_made calendar b m n p q bytes lent =
    let moved : Promised calendar b m.bytes m.lent n.reply n.after =
    subst⁻¹ (λ (l : List ℕ). Promised calendar b l m.lent n.reply n.after) bytes
    (subst⁻¹ (λ (l : List ℕ). Promised calendar b n.bytes l n.reply n.after) lent q) in
    let same = nothing_free calendar b m.bytes m.lent m.reply n.reply m.after n.after p moved in
    λ i. record { bytes = bytes i; lent = lent i; reply = same.reply i; after = same.bytes i }

same_calls : (calendar : List ℕ) (b : Book) (lent : List ℕ) (ms ns : List Made) → Played calendar b ms → EachLentRest lent ms
    → Played calendar b ns → EachLentRest lent ns → tape_of ms ≡ tape_of ns → ms ≡ ns
same_calls calendar b lent [] [] p h q k e = refl
same_calls calendar b lent [] (n ∷ ns) p h q k e = absurd (omega (arith, ap length e))
same_calls calendar b lent (m ∷ ms) [] p h q k e = absurd (omega (arith, ap length e))
same_calls calendar b lent (m ∷ ms) (n ∷ ns) p h q k e =
    let both : m.bytes ∷ tape_of ms ≡ n.bytes ∷ tape_of ns = e in
    let bytes : m.bytes ≡ n.bytes = cc in
    let others : tape_of ms ≡ tape_of ns = cc in
    let one : m ≡ n = same_made calendar b m n p.0 q.0 bytes (h.0 ∙ sym k.0) in
    let later : ms ≡ ns =
    same_calls calendar m.reply.book (behind_own m) ms ns p.1 h.2
    (subst⁻¹ (λ (x : Made). Played calendar x.reply.book ns) one q.1)
    (subst⁻¹ (λ (x : Made). EachLentRest (behind_own x) ns) one k.2) others in
    ap₂ (λ (x : Made) (l : List Made). x ∷ l) one later

-- ---- the call of a stretch
-- what its outcome says, whichever its answer
record Told (calendar : List ℕ) (b : Book) (tape lent : List ℕ) (x : Outcome) : Type 0 where
  ms : List Made
  says : Says calendar b lent (whole_records tape) x.course ms
  stops : stretch_number x.answer ≡ 0 → length x.course.results < length (whole_records tape)
      → length lent - record_length * length (notices_of x.course.results) < notice_bytes

told : (calendar : List ℕ) (b : Book) (tape : List ℕ) (places : ℕ) (lent : List ℕ)
    → Told calendar b tape lent (stretch_call calendar b tape places (length lent))
unfolding stretch_call stretch_number
told calendar b tape places lent = go (ltb places (whole_count tape))
  where
    go : (few : Bool) → Told calendar b tape lent
        (cond few (record { answer = FewAnswers; course = stopped b (whole_records tape) })
        (record { answer = Taken; course = calls_in_row calendar (length lent) b (whole_records tape) }))
    go true = record {
      ms = [];
      says = says_none calendar b lent (whole_records tape);
      stops = λ taken fewer. absurd (omega (arith, taken));
    }
    go false = record {
      ms = singles calendar b lent (take (length (calls_in_row calendar (length lent) b (whole_records tape)).results) (whole_records tape));
      says = says calendar (length lent) b (whole_records tape) lent refl;
      stops = λ taken fewer. row_short calendar (length lent) b (whole_records tape) fewer;
    }

pub single_calls_can_be_made : SingleCallsCanBeMade
single_calls_can_be_made calendar b tape r answers₀ answers₁ notices₀ notices₁ p =
    let t = told calendar b tape (length answers₀) notices₀ in
    let s = t.says in
    (t.ms, record { made = record { calls = s.calls; fed = s.fed; lent = s.handed }; many = s.many ∙ sym p.played })

pub stretch_is_single_calls : StretchIsSingleCalls
stretch_is_single_calls calendar b tape r answers₀ answers₁ notices₀ notices₁ ms p single =
    let x = stretch_call calendar b tape (length answers₀) (length notices₀) in
    let t = told calendar b tape (length answers₀) notices₀ in
    let same : t.ms ≡ ms =
    same_calls calendar b notices₀ t.ms ms t.says.calls t.says.handed single.made.calls single.made.lent
    (t.says.fed
    ∙ ap (λ (n : ℕ). take n (whole_records tape)) (t.says.many ∙ sym p.played ∙ sym single.many) ∙ sym single.made.fed) in
    let s : Says calendar b notices₀ (whole_records tape) x.course ms =
    subst (Says calendar b notices₀ (whole_records tape) x.course) same t.says in
    record {
      book = p.book ∙ s.book;
      sent = p.notices.count ∙ s.sent;
      answers = subst (λ (l : List ℕ). Noted l answers₀ answers₁) s.answers p.answers;
      notices = p.notices.bytes ∙ s.pieces;
      stops = λ taken fewer.
          omega (
            arith,
            s.free,
            t.stops (sym (ap stretch_number p.answer) ∙ taken) (omega (arith, s.many, fewer)),
          );
    }

-- ---- the notices as rows: those of each call's own buffer are those of the pieces that the calls left
rows_first : (n : ℕ) (bytes rest : List ℕ) → length bytes ≡ record_length * n → rows n (bytes ++ rest) ≡ rows n bytes
rows_first zero bytes rest long = refl
rows_first (suc n) bytes rest long =
    let first : take record_length (bytes ++ rest) ≡ take record_length bytes =
    take-append-le record_length bytes rest (omega (arith, long)) in
    let others : drop record_length (bytes ++ rest) ≡ drop record_length bytes ++ rest =
    drop-append-le record_length bytes rest (omega (arith, long)) in
    let left : length (drop record_length bytes) ≡ record_length * n = omega (arith, long, length-drop record_length bytes) in
    (λ i. first i ∷ rows n (others i))
    ∙ ap (λ (l : List (List ℕ)). take record_length bytes ∷ l) (rows_first n (drop record_length bytes) rest left)

rows_then : (n m : ℕ) (bytes rest : List ℕ) → length bytes ≡ record_length * n → rows (n + m) (bytes ++ rest) ≡ rows n bytes ++ rows m rest
rows_then zero m [] rest long = let e : 0 + m ≡ m = omega arith in ap (λ (k : ℕ). rows k rest) e
rows_then zero m (x ∷ bytes) rest long = absurd (omega (arith, long))
rows_then (suc n) m bytes rest long =
    let e : suc n + m ≡ suc (n + m) = omega arith in
    let first : take record_length (bytes ++ rest) ≡ take record_length bytes =
    take-append-le record_length bytes rest (omega (arith, long)) in
    let others : drop record_length (bytes ++ rest) ≡ drop record_length bytes ++ rest =
    drop-append-le record_length bytes rest (omega (arith, long)) in
    let left : length (drop record_length bytes) ≡ record_length * n = omega (arith, long, length-drop record_length bytes) in
    ap (λ (k : ℕ). rows k (bytes ++ rest)) e ∙ (λ i. first i ∷ rows (n + m) (others i))
    ∙ ap (λ (l : List (List ℕ)). take record_length bytes ∷ l) (rows_then n m (drop record_length bytes) rest left)

pub notice_rows_lem : (calendar : List ℕ) (b : Book) (lent : List ℕ) (ms : List Made) → Played calendar b ms → EachLentRest lent ms
    → notice_rows ms ≡ rows (sent_by ms) (pieces_left lent ms)
notice_rows_lem calendar b lent [] p h = refl
notice_rows_lem calendar b lent (m ∷ ms) p h =
    let n = m.reply.sent in
    let own = take (record_length * n) m.after in
    let bytes = p.0.notices.bytes in
    let long : length own ≡ record_length * n =
    omega (
      arith,
      length-take (record_length * n) m.after,
      ap length bytes ∙ length-append (encode_all (call calendar b m.bytes m.lent).notices) _,
      length-encode_all (call calendar b m.bytes m.lent).notices,
      p.0.notices.count,
    ) in
    ap₂ (λ (l r : List (List ℕ)). l ++ r)
    (ap (rows n) (sym (take-append-drop (record_length * n) m.after)) ∙ rows_first n own (behind_own m) long)
    (notice_rows_lem calendar m.reply.book (behind_own m) ms p.1 h.2)
    ∙ sym (rows_then n (sent_by ms) own (pieces_left (behind_own m) ms) long)
