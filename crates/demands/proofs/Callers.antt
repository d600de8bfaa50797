-- What someone who makes record calls can count on, from the promise and the demands alone. Assumes nothing.
use Prim.Native.Nat.{ℕ, suc, ◌+◌, ◌≤◌, min}
use mathlib.Core.Path.{◌≡◌, refl, ap, ap₂, sym, ◌∙◌}
use mathlib.Core.Logic.{◌↔◌}
use mathlib.Core.List.{List, [], ◌∷◌, map}
use Rattle.std.specs.Prelude.{Option, Some, None}
use mathlib.Core.Bool.{Bool, true, false, cond, not, ◌&&◌, ◌||◌, and-false, false≢true}
use native.Mathlib.Omega.{arith}
use lib.Dec.{ltb}
use lib.ListN.{length, length-map}
use borrow.Author.Tests.{ltb-false, le-ltb, not-false, eq-eqb, ne_eqb}
use Rattle.lists.specs.Search.{Each, any_of}
use Rattle.lists.proofs.TestLaws.{or_left, or_right}
use Rattle.days.specs.Days.{last_day}
use Rattle.records.specs.declared.Record.{Record}
use Rattle.records.specs.Layout.{Bytes}
use Rattle.records.specs.Records.{reading, kind_create, kind_day_mark}
use Rattle.records.proofs.Emits.{emits_rest, emits_length}
use Rattle.premise.specs.declared.File.{File}
use Rattle.premise.specs.Steps.{is}
use Rattle.premise.specs.Refusals.{number, is_held}
use Rattle.premise.specs.OnePremise.{marked, step}
use Rattle.premise.proofs.Answers.{holds}
use Rattle.book.specs.declared.Book.{Book}
use Rattle.book.specs.Book.{most_files, files_of, book_of, book_kept, fresh_book, file_for, with_file}
use Rattle.book.specs.Calls.{notice_bytes, record_rows, premise_state, marked_files, call, meets_row6, call_rows_by}
use Rattle.book.proofs.FilesPut.{put_length}
use Rattle.book.proofs.FilesTaken.{taken-length}
use Rattle.book.proofs.Kept.{holds_its_files, fresh_kept}
use Rattle.book.proofs.Keeps.{by_call, call_keeps}
use Rattle.book.proofs.Few.{call_few}
use Rattle.book.proofs.Row6.{answered_full}
use Rattle.demands.specs.Demand3.{Made, Played, AllAllowed, Premise, concerns, answers}
use Rattle.demands.specs.Tapes.{tape_of}
use Rattle.demands.specs.Callers.{InOrder, AcceptedInOrder, EachBufferKept, AtMost64Calls, NoneAnswered6}
use Rattle.demands.specs.Callers.{BuffersDontCount}
use Rattle.demands.proofs.Demand1.{zero_where_no_row}
use Rattle.demands.proofs.Demand2.{demand_2}
use Rattle.demands.proofs.OnWay.{SoundIn, sound}
use Rattle.demands.proofs.Rearranged.{nobody_sees}

-- ---- one call
pub accepted_in_order : AcceptedInOrder
unfolding call_rows_by
accepted_in_order calendar b bytes before reply after p = (tells, follows)
  where
    short : Bool
    short = ltb (length before) notice_bytes

    damaged : Bool
    damaged = not (book_kept b)

    rest : Bool
    rest = any_of holds (record_rows calendar b (reading bytes))

    exactly : (number reply.answer ≡ 0) ↔ ((short || (damaged || rest)) ≡ false)
    exactly = zero_where_no_row calendar b bytes before reply after p

    tells : number reply.answer ≡ 0 → InOrder calendar b bytes before
    tells zero =
        let t = exactly.0 zero in
        let u = or_right short (damaged || rest) t in
        record {
          room = ltb-false (length before) notice_bytes (or_left short (damaged || rest) t);
          kept = not-false (book_kept b) (or_left damaged rest u);
          no_row = or_right damaged rest u;
        }

    follows : InOrder calendar b bytes before → number reply.answer ≡ 0
    follows i = exactly.1 (rw (le-ltb (length before) notice_bytes i.room, i.kept) i.no_row)

pub each_buffer_kept : EachBufferKept
each_buffer_kept calendar b bytes before reply after p = record {
  rest = emits_rest p.notices;
  long = emits_length p.notices (call_few calendar b bytes before);
}

-- ---- at most 64 calls
-- a call brings one file at most
one_more : (calendar : List ℕ) (b : Book) (bytes lent : List ℕ)
    → length (files_of (call calendar b bytes lent).book) ≤ suc (length (files_of b))
one_more calendar b bytes lent =
    by_call (λ x. length (files_of x.book) ≤ suc (length (files_of b))) calendar b bytes lent
    (omega arith)
    (λ r p w t. omega (
      arith,
      ap length (holds_its_files r.day (marked_files calendar r.day (files_of b))),
      length-map (files_of b) (λ (f : File). (marked calendar r.day f).file),
    ))
    (λ r p w t full. put r (step calendar (premise_state b r.premise) r).state.file)
  where
    put : (r : Record) (file : Option File)
        → length (files_of (book_of b.today (with_file r.premise file (files_of b)))) ≤ suc (length (files_of b))
    put r None = omega (
      arith,
      ap length (holds_its_files b.today (with_file r.premise None (files_of b))),
      taken-length r.premise (files_of b),
    )
    put r (Some f) = omega (
      arith,
      ap length (holds_its_files b.today (with_file r.premise (Some f) (files_of b))),
      put_length f (files_of b),
    )

-- with a place left nothing meets row 6
place_left : (b : Book) (d : Option Record) → suc (length (files_of b)) ≤ most_files → meets_row6 b d ≡ false
place_left b None h = refl
place_left b (Some r) h =
    ap (λ (full : Bool). is kind_create r && not (is_held (file_for r.premise (files_of b))) && full)
    (ne_eqb (length (files_of b)) most_files (λ e. omega (arith, e, h)))
    ∙ and-false (is kind_create r && not (is_held (file_for r.premise (files_of b))))

few_calls : (calendar : List ℕ) (b : Book) (ms : List Made) → Played calendar b ms
    → Each (λ (m : Made). Bytes m.bytes) ms → Each (λ (m : Made). notice_bytes ≤ length m.lent) ms
    → length (files_of b) + length ms ≤ most_files → AllAllowed b ms
few_calls calendar b [] p real room h = tt
few_calls calendar b (m ∷ ms) p real room h = (
  record { real = real.0; room = room.0; places = place_left b (reading m.bytes) (omega (arith, h)) },
  few_calls calendar m.reply.book ms p.1 real.1 room.1
      (omega (arith, h, one_more calendar b m.bytes m.lent, ap (λ (x : Book). length (files_of x)) p.0.book)),
)

pub at_most_64_calls : AtMost64Calls
at_most_64_calls calendar start ms p real room few =
    few_calls calendar (fresh_book start) ms p real room (omega (arith, few, ap length (holds_its_files (min start last_day) [])))

-- ---- two lists of calls made of one tape
module _ {X : Type 0} (x y : X) (xs ys : List X) where
  first_same : (c : Bool) → c ≡ true → cond c (x ∷ xs) xs ≡ cond c (y ∷ ys) ys → x ≡ y
  first_same true t e = let z : x ≡ y = cc in z
  first_same false t e = absurd (false≢true t)

  rest_same : (c : Bool) → cond c (x ∷ xs) xs ≡ cond c (y ∷ ys) ys → xs ≡ ys
  rest_same true e = let z : xs ≡ ys = cc in z
  rest_same false e = e

abbrev MalformedGot3 : Made → Type 0
MalformedGot3 m = reading m.bytes ≡ None → number m.reply.answer ≡ 3

malformed_got_3 : (calendar : List ℕ) (b : Book) (ms : List Made) → book_kept b ≡ true → Played calendar b ms → AllAllowed b ms
    → Each MalformedGot3 ms
malformed_got_3 calendar b [] k p a = tt
malformed_got_3 calendar b (m ∷ ms) k p a = (
  demand_2.malformed calendar b m.bytes m.lent m.reply m.after p.0 (record { room = a.0.room; kept = k }),
  malformed_got_3 calendar m.reply.book ms (rw p.0.book (call_keeps calendar b m.bytes m.lent k)) p.1 a.1,
)

abbrev number_of : Made → ℕ
number_of m = number m.reply.answer

-- a record's answer is among those of its premise, a day mark's among those of any
record Concerned (d : Option Record) : Type 0 where
  premise : ℕ
  ranged : Premise premise
  concerned : concerns premise d ≡ true

concerned : (r : Record) → SoundIn (Some r) → Concerned (Some r)
concerned r s = go (is kind_day_mark r) refl
  where
    go : (mark : Bool) → is kind_day_mark r ≡ mark → Concerned (Some r)
    go true t = record { premise = 1; ranged = record { above = omega arith; below = omega arith }; concerned = rw t refl }
    go false t = record {
      premise = r.premise;
      ranged = s.ranged t;
      concerned = rw (t, eq-eqb r.premise r.premise refl) refl;
    }

-- the first answer of each, by what the record says
same_number : (m n : Made) (ms ns : List Made) → Bytes m.bytes → reading m.bytes ≡ reading n.bytes
    → MalformedGot3 m → MalformedGot3 n
    → ((premise : ℕ) → Premise premise → answers premise (m ∷ ms) ≡ answers premise (n ∷ ns)) → number_of m ≡ number_of n
same_number m n ms ns real e three three₂ same = go (reading m.bytes) refl (sound m.bytes real)
  where
    go : (d : Option Record) → reading m.bytes ≡ d → SoundIn d → number_of m ≡ number_of n
    go None t s = three t ∙ sym (three₂ (sym e ∙ t))
    go (Some r) t s =
        let o = concerned r s in
        let both : cond (concerns o.premise (Some r)) (number_of m ∷ answers o.premise ms) (answers o.premise ms)
        ≡ cond (concerns o.premise (Some r)) (number_of n ∷ answers o.premise ns) (answers o.premise ns) =
        rw (t, sym e ∙ t) at (same o.premise o.ranged) in
        first_same (number_of m) (number_of n) (answers o.premise ms) (answers o.premise ns)
        (concerns o.premise (Some r)) o.concerned both

same_numbers : (ms ns : List Made) → tape_of ms ≡ tape_of ns → Each (λ (m : Made). Bytes m.bytes) ms
    → Each MalformedGot3 ms → Each MalformedGot3 ns → ((premise : ℕ) → Premise premise → answers premise ms ≡ answers premise ns)
    → map number_of ms ≡ map number_of ns
same_numbers [] [] e real three three₂ same = refl
same_numbers [] (n ∷ ns) e real three three₂ same = let z : ◌≡◌ {A = ℕ} 0 1 = cc in absurd (omega arith)
same_numbers (m ∷ ms) [] e real three three₂ same = let z : ◌≡◌ {A = ℕ} 0 1 = cc in absurd (omega arith)
same_numbers (m ∷ ms) (n ∷ ns) e real three three₂ same =
    let bytes : m.bytes ≡ n.bytes = cc in
    let tape : tape_of ms ≡ tape_of ns = cc in
    let d : reading m.bytes ≡ reading n.bytes = ap reading bytes in
    ap₂ (λ (x : ℕ) (xs : List ℕ). x ∷ xs)
    (same_number m n ms ns real.0 d three.0 three₂.0 same)
    (same_numbers ms ns tape real.1 three.1 three₂.1 (λ premise i.
    rest_same (number_of m) (number_of n) (answers premise ms) (answers premise ns) (concerns premise (reading m.bytes))
    (same premise i ∙ ap (λ x. cond (concerns premise x) (number_of n ∷ answers premise ns) (answers premise ns)) (sym d))))

all_bytes : (b : Book) (ms : List Made) → AllAllowed b ms → Each (λ (m : Made). Bytes m.bytes) ms
all_bytes b [] a = tt
all_bytes b (m ∷ ms) a = (a.0.real, all_bytes m.reply.book ms a.1)

pub buffers_dont_count : BuffersDontCount
buffers_dont_count calendar start tape ms ns p q =
    same_numbers ms ns (p.fed ∙ sym q.fed) (all_bytes (fresh_book start) ms p.allowed)
    (malformed_got_3 calendar (fresh_book start) ms (fresh_kept start) p.played p.allowed)
    (malformed_got_3 calendar (fresh_book start) ns (fresh_kept start) q.played q.allowed)
    (nobody_sees calendar start tape tape ms ns p q (λ premise. refl)).answered

-- ---- none is answered 6
-- "answered 6" is to meet row 6, since every book on the way is well kept
not_full : (calendar : List ℕ) (b : Book) (bytes lent : List ℕ) (answered : ℕ) → book_kept b ≡ true → notice_bytes ≤ length lent
    → answered ≡ number (call calendar b bytes lent).answer → (answered ≡ 6 → ⊥) → meets_row6 b (reading bytes) ≡ false
not_full calendar b bytes lent answered kept room is not6 = go (meets_row6 b (reading bytes)) refl
  where
    go : (full : Bool) → meets_row6 b (reading bytes) ≡ full → full ≡ false
    go true e = absurd (not6 (is ∙ (answered_full calendar b bytes lent kept room).1 e))
    go false e = refl

pub none_answered_6 : NoneAnswered6
none_answered_6 calendar b [] kept p real room not6 = tt
none_answered_6 calendar b (m ∷ ms) kept p real room not6 = (
  record {
    real = real.0;
    room = room.0;
    places =
        not_full calendar b m.bytes m.lent (number m.reply.answer) kept room.0 (ap number p.0.answer) not6.0;
  },
  none_answered_6 calendar m.reply.book ms (ap book_kept p.0.book ∙ call_keeps calendar b m.bytes m.lent kept) p.1
      real.1 room.1 not6.1,
)
