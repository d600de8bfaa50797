-- Demand 3 of stretches: their single calls, one list after the other, are calls of which it speaks. Assumes nothing.
use Prim.Native.Nat.{ℕ, zero, suc, ◌≤◌}
use mathlib.Core.Path.{◌≡◌, refl, sym, ap, ap₂, subst, subst⁻¹, ◌∙◌}
use mathlib.Core.List.{List, [], ◌∷◌, ◌++◌, map-append, append_assoc}
use mathlib.Core.Bool.{Bool, true, false, cond}
use lib.Dec.{eqb}
use lib.ListN.{length, take, length-map}
use lib.Seq.{take_at}
use Rattle.lists.specs.Search.{Each}
use Rattle.records.specs.Layout.{Bytes, premise_field, field_of}
use Rattle.records.specs.Records.{reading}
use Rattle.records.specs.Notices.{rows}
use Rattle.premise.specs.Refusals.{number}
use Rattle.premise.specs.OnePremise.{start_state, runs, end_state}
use Rattle.book.specs.declared.Book.{Book}
use Rattle.book.specs.Book.{files_of, fresh_book, file_for}
use Rattle.book.specs.Calls.{notice_bytes}
use Rattle.book.proofs.CallsInRow.{records_bytes}
use Rattle.book.proofs.Kept.{fresh_kept}
use Rattle.demands.specs.Demand3.{Made, Played, last_book, AllAllowed, concerns, own_bytes, records, answers, with_premise, notices_for}
use Rattle.demands.specs.Demand3.{ruled_answers, ruled_notices}
use Rattle.demands.specs.Tapes.{tape_of, own_of}
use Rattle.demands.specs.CallsInRow.{notice_rows}
use Rattle.demands.proofs.Callers.{none_answered_6}
use Rattle.demands.proofs.Demand3.{demand_3}
use Rattle.demands.proofs.Tapes.{own_of_made}
use Rattle.call_row_rules.specs.CallsMade.{numbers_given}
use Rattle.stretch_rules.specs.Stretch.{whole_count, whole_records}
use Rattle.stretch_rules.specs.SingleCalls.{behind_own, EachLentRest}
use Rattle.stretch_rules.specs.Stretches.{MadeStretch, PlayedStretches, book_after, records_played, answers_given, notices_given}
use Rattle.stretch_rules.specs.Stretches.{FromFresh, own_answers, StretchesEachAlone}
use Rattle.stretch_rules.specs.Stretches.{StretchesShuffled}
use Rattle.stretch_rules.proofs.SingleCalls.{stretch_is_single_calls, single_calls_can_be_made, notice_rows_lem}

-- ---- some calls and others after them
played_both : (calendar : List ℕ) (b : Book) (ms ns : List Made) → Played calendar b ms → Played calendar (last_book b ms) ns
    → Played calendar b (ms ++ ns)
played_both calendar b [] ns p q = q
played_both calendar b (m ∷ ms) ns p q = (p.0, played_both calendar m.reply.book ms ns p.1 q)

last_both : (b : Book) (ms ns : List Made) → last_book b (ms ++ ns) ≡ last_book (last_book b ms) ns
last_both b [] ns = refl
last_both b (m ∷ ms) ns = last_both m.reply.book ms ns

rows_both : (ms ns : List Made) → notice_rows (ms ++ ns) ≡ notice_rows ms ++ notice_rows ns
rows_both [] ns = refl
rows_both (m ∷ ms) ns =
    ap (λ (l : List (List ℕ)). rows m.reply.sent m.after ++ l) (rows_both ms ns)
    ∙ sym (append_assoc (rows m.reply.sent m.after) (notice_rows ms) (notice_rows ns))

each_both : {A : Type 0} (P : A → Type 0) (xs ys : List A) → Each P xs → Each P ys → Each P (xs ++ ys)
each_both P [] ys p q = q
each_both P (x ∷ xs) ys p q = (p.0, each_both P xs ys p.1 q)

rooms : (lent : List ℕ) (ms : List Made) → EachLentRest lent ms → Each (λ (m : Made). notice_bytes ≤ length m.lent) ms
rooms lent [] h = tt
rooms lent (m ∷ ms) h = (h.1, rooms (behind_own m) ms h.2)

-- ---- the single calls of some stretches
record CallsOf (calendar : List ℕ) (b : Book) (ss : List MadeStretch) (ms : List Made) : Type 0 where
  played : Played calendar b ms
  room : Each (λ (m : Made). notice_bytes ≤ length m.lent) ms
  fed : tape_of ms ≡ records_played ss
  numbers : numbers_given ms ≡ answers_given ss
  notices : notice_rows ms ≡ notices_given ss
  book : book_after b ss ≡ last_book b ms

calls_of : (calendar : List ℕ) (b : Book) (ss : List MadeStretch) → PlayedStretches calendar b ss
    → (ms : List Made) × CallsOf calendar b ss ms
calls_of calendar b [] p = ([], record { played = tt; room = tt; fed = refl; numbers = refl; notices = refl; book = refl })
calls_of calendar b (s ∷ ss) p =
    let can = single_calls_can_be_made calendar b s.tape s.replies s.answers_lent s.answers_after s.notices_lent
    s.notices_after p.0 in
    let ms = can.0 in
    let one = can.1 in
    let is = stretch_is_single_calls calendar b s.tape s.replies s.answers_lent s.answers_after s.notices_lent
    s.notices_after ms p.0 one in
    let later = calls_of calendar s.replies.book ss p.1 in
    let ns = later.0 in
    let others = later.1 in
    let numbered : numbers_given ms ≡ take s.replies.played s.answers_after =
    sym (ap (take s.replies.played) is.answers
    ∙ take_at (numbers_given ms) _ s.replies.played
    (length-map ms (λ (m : Made). number m.reply.answer) ∙ one.many)) in (
      ms ++ ns,
      record {
        played = played_both calendar b ms ns one.made.calls (subst (λ (x : Book). Played calendar x ns) is.book others.played);
        room = each_both (λ (m : Made). notice_bytes ≤ length m.lent) ms ns (rooms s.notices_lent ms one.made.lent) others.room;
        fed = map-append (λ (m : Made). m.bytes) ms ns
            ∙ ap₂ (λ (l r : List (List ℕ)). l ++ r)
            (one.made.fed ∙ ap (λ (n : ℕ). take n (whole_records s.tape)) one.many) others.fed;
        numbers = map-append (λ (m : Made). number m.reply.answer) ms ns
            ∙ ap₂ (λ (l r : List ℕ). l ++ r) numbered others.numbers;
        notices = rows_both ms ns
            ∙ ap₂ (λ (l r : List (List ℕ)). l ++ r)
            (notice_rows_lem calendar b s.notices_lent ms one.made.calls one.made.lent
            ∙ sym (λ i. rows (is.sent i) (is.notices i)))
            others.notices;
        book = others.book ∙ ap (λ (x : Book). last_book x ns) is.book ∙ sym (last_both b ms ns);
      },
    )

-- ---- what one premise sees of calls, by their records, numbers and notices
own_numbers : (premise : ℕ) (ms : List Made) → answers premise ms ≡ own_answers premise (tape_of ms) (numbers_given ms)
own_numbers premise [] = refl
own_numbers premise (m ∷ ms) =
    ap (λ (l : List ℕ). cond (concerns premise (reading m.bytes)) (number m.reply.answer ∷ l) l) (own_numbers premise ms)

with_both : (premise : ℕ) (xs ys : List (List ℕ)) → with_premise premise (xs ++ ys) ≡ with_premise premise xs ++ with_premise premise ys
with_both premise [] ys = refl
with_both premise (x ∷ xs) ys = go (eqb (field_of premise_field x) premise) (with_both premise xs ys)
  where
    go : (own : Bool) → with_premise premise (xs ++ ys) ≡ with_premise premise xs ++ with_premise premise ys
        → cond own (x ∷ with_premise premise (xs ++ ys)) (with_premise premise (xs ++ ys))
        ≡ cond own (x ∷ with_premise premise xs) (with_premise premise xs) ++ with_premise premise ys
    go true ih = ap (λ (l : List (List ℕ)). x ∷ l) ih
    go false ih = ih

own_notices : (premise : ℕ) (ms : List Made) → notices_for premise ms ≡ with_premise premise (notice_rows ms)
own_notices premise [] = refl
own_notices premise (m ∷ ms) =
    ap (λ (l : List (List ℕ)). with_premise premise (rows m.reply.sent m.after) ++ l) (own_notices premise ms)
    ∙ sym (with_both premise (rows m.reply.sent m.after) (notice_rows ms))

-- ---- the premises of demand 3
played_bytes : (ss : List MadeStretch) → Each (λ (s : MadeStretch). Bytes s.tape) ss → Each Bytes (records_played ss)
unfolding whole_records
played_bytes [] real = tt
played_bytes (s ∷ ss) real =
    each_both Bytes (take s.replies.played (whole_records s.tape)) (records_played ss)
    (first s.replies.played (whole_records s.tape) (records_bytes (whole_count s.tape) s.tape real.0))
    (played_bytes ss real.1)
  where
    first : (n : ℕ) (xs : List (List ℕ)) → Each Bytes xs → Each Bytes (take n xs)
    first zero xs h = tt
    first (suc n) [] h = tt
    first (suc n) (x ∷ xs) h = (h.0, first n xs h.1)

of_numbers : (ms : List Made) → Each (λ (answer : ℕ). answer ≡ 6 → ⊥) (numbers_given ms)
    → Each (λ (m : Made). number m.reply.answer ≡ 6 → ⊥) ms
of_numbers [] h = tt
of_numbers (m ∷ ms) h = (h.0, of_numbers ms h.1)

module _ (calendar : List ℕ) (start : ℕ) (ss : List MadeStretch) (from : FromFresh calendar start ss) where
  abbrev ms : List Made
  ms = (calls_of calendar (fresh_book start) ss from.played).0

  calls : CallsOf calendar (fresh_book start) ss ms
  calls = (calls_of calendar (fresh_book start) ss from.played).1

  allowed : AllAllowed (fresh_book start) ms
  allowed =
      none_answered_6 calendar (fresh_book start) ms (fresh_kept start) calls.played
      (subst⁻¹ (Each Bytes) calls.fed (played_bytes ss from.real)) calls.room
      (of_numbers ms (subst⁻¹ (Each (λ (answer : ℕ). answer ≡ 6 → ⊥)) calls.numbers from.places))

  own_bytes_lem : (premise : ℕ) → own_bytes premise ms ≡ own_of premise (records_played ss)
  own_bytes_lem premise = own_of_made premise ms ∙ ap (own_of premise) calls.fed

  answers_are : (premise : ℕ) → own_answers premise (records_played ss) (answers_given ss) ≡ answers premise ms
  answers_are premise = sym (own_numbers premise ms ∙ ap₂ (own_answers premise) calls.fed calls.numbers)

  notices_are : (premise : ℕ) → with_premise premise (notices_given ss) ≡ notices_for premise ms
  notices_are premise = sym (own_notices premise ms ∙ ap (with_premise premise) calls.notices)

pub stretches_each_alone : StretchesEachAlone
stretches_each_alone calendar start ss from premise i =
    let x = demand_3.alone calendar start (ms calendar start ss from) (calls calendar start ss from).played
    (allowed calendar start ss from) premise i in
    let own = own_bytes_lem calendar start ss from premise in
    let book = (calls calendar start ss from).book in
    record {
      file = ap (λ (b : Book). file_for premise (files_of b)) book ∙ x.file
          ∙ ap (λ (l : List (List ℕ)). (end_state calendar (start_state start) (records l)).file) own;
      today = ap (λ (b : Book). b.today) book ∙ x.today
          ∙ ap (λ (l : List (List ℕ)). (end_state calendar (start_state start) (records l)).today) own;
      answered = answers_are calendar start ss from premise ∙ x.answered
          ∙ ap (λ (l : List (List ℕ)). ruled_answers (runs calendar (start_state start) (records l))) own;
      notices = notices_are calendar start ss from premise ∙ x.notices
          ∙ ap (λ (l : List (List ℕ)). ruled_notices (runs calendar (start_state start) (records l))) own;
    }

pub stretches_shuffled : StretchesShuffled
stretches_shuffled calendar start one other p q agree =
    let same = demand_3.shuffled calendar start (ms calendar start one p) (ms calendar start other q)
    (calls calendar start one p).played (allowed calendar start one p)
    (calls calendar start other q).played
    (allowed calendar start other q)
    (λ premise i. own_bytes_lem calendar start one p premise ∙ agree premise i ∙ sym (own_bytes_lem calendar start other q premise)) in
    let first = (calls calendar start one p).book in
    let second = (calls calendar start other q).book in
    record {
      each = λ premise i.
          let x = same.each premise i in
          record {
            file = ap (λ (b : Book). file_for premise (files_of b)) first ∙ x.file
                ∙ sym (ap (λ (b : Book). file_for premise (files_of b)) second);
            answered = answers_are calendar start one p premise ∙ x.answered ∙ sym (answers_are calendar start other q premise);
            notices = notices_are calendar start one p premise ∙ x.notices ∙ sym (notices_are calendar start other q premise);
          };
      book = first ∙ same.book ∙ sym second;
    }
