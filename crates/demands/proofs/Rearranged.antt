-- A tape put together in another way: two neighbours of different premises change places, a premise is left out, a refused call is left
-- out. From demands 1 and 3 alone. Assumes nothing.
use Prim.Native.Nat.{ℕ}
use mathlib.Core.Path.{◌≡◌, refl, ap, sym, subst, ◌∙◌}
use mathlib.Core.List.{List, [], ◌∷◌, ◌++◌}
use mathlib.Core.Bool.{Bool, true, false, cond, not, ◌&&◌, false≢true}
use native.Mathlib.Omega.{arith}
use lib.Dec.{eqb}
use borrow.Author.Tests.{eqb-true, eqb-false, ne_eqb, not-true}
use Rattle.lists.specs.Search.{Each}
use Rattle.lists.proofs.TestLaws.{and_left, and_right}
use Rattle.std.specs.Prelude.{Option, Some, None}
use Rattle.records.specs.declared.Record.{Record}
use Rattle.records.specs.Records.{reading, kind_day_mark}
use Rattle.records.specs.Notices.{rows}
use Rattle.premise.specs.Steps.{is}
use Rattle.premise.specs.Refusals.{number}
use Rattle.book.specs.declared.Book.{Book}
use Rattle.book.specs.Book.{files_of, fresh_book, file_for}
use Rattle.demands.specs.Demand1.{Unchanged}
use Rattle.demands.specs.Demand3.{Made, Played, last_book, AllAllowed, Premise, concerns, records, with_premise, notices_for}
use Rattle.demands.specs.Tapes.{tape_of, Plays, own_of, of_premise, without}
use Rattle.demands.specs.Fleet.{Silent, SameAtHome}
use Rattle.demands.specs.Rearranged.{NobodySees, NeighboursSwap, PremiseLeftOut, RefusedLeftOut}
use Rattle.demands.proofs.Demand1.{refusal_changes_nothing}
use Rattle.demands.proofs.Demand3.{demand_3}
use Rattle.demands.proofs.Tapes.{own_of_made, own_append, Mark, plays_ruled, same_ruled, silent}

-- Calls made of two tapes that agree on every premise.
pub nobody_sees : (calendar : List ℕ) (start : ℕ) (tape tape₂ : List (List ℕ)) (ms ns : List Made)
    → Plays calendar start tape ms → Plays calendar start tape₂ ns
    → ((premise : ℕ) → own_of premise tape ≡ own_of premise tape₂) → NobodySees start ms ns
nobody_sees calendar start tape tape₂ ms ns p q agree =
    let same = demand_3.shuffled calendar start ms ns p.played p.allowed q.played q.allowed
    (λ premise i. own_of_made premise ms ∙ ap (own_of premise) p.fed ∙ agree premise
    ∙ sym (own_of_made premise ns ∙ ap (own_of premise) q.fed)) in
    record {
      file = λ premise i. (same.each premise i).file;
      answered = λ premise i. (same.each premise i).answered;
      notices = λ premise i. (same.each premise i).notices;
      book = same.book;
    }

-- a premise's record concerns no other premise
concerns_one : (here premise : ℕ) (d : Option Record) → of_premise here d ≡ true → concerns premise d ≡ eqb here premise
concerns_one here premise None e = absurd (false≢true e)
concerns_one here premise (Some r) e =
    let other : is kind_day_mark r ≡ false = not-true (is kind_day_mark r) (and_left (not (is kind_day_mark r)) (eqb r.premise here) e) in
    let own : r.premise ≡ here = eqb-true r.premise here (and_right (not (is kind_day_mark r)) (eqb r.premise here) e) in
    ap (λ c. cond c true (eqb r.premise premise)) other ∙ ap (λ n. eqb n premise) own

-- ---- two neighbours change places
module _ (premise here there : ℕ) (one two : List ℕ) (apart : here ≡ there → ⊥) where
  either_way : (rest : List (List ℕ)) (a b : Bool) → eqb here premise ≡ a → eqb there premise ≡ b
      → cond a (one ∷ cond b (two ∷ rest) rest) (cond b (two ∷ rest) rest)
      ≡ cond b (two ∷ cond a (one ∷ rest) rest) (cond a (one ∷ rest) rest)
  either_way rest true true a b = absurd (apart (eqb-true here premise a ∙ sym (eqb-true there premise b)))
  either_way rest true false a b = refl
  either_way rest false true a b = refl
  either_way rest false false a b = refl

  own_swapped : (after : List (List ℕ)) → of_premise here (reading one) ≡ true → of_premise there (reading two) ≡ true
      → own_of premise (one ∷ two ∷ after) ≡ own_of premise (two ∷ one ∷ after)
  own_swapped after e f =
      rw (concerns_one here premise (reading one) e, concerns_one there premise (reading two) f)
      (either_way (own_of premise after) (eqb here premise) (eqb there premise) refl refl)

pub neighbours_swap : NeighboursSwap
neighbours_swap calendar start here there before one two after ms ns e f apart p q =
    nobody_sees calendar start (before ++ one ∷ two ∷ after) (before ++ two ∷ one ∷ after) ms ns p q (λ premise.
    own_append premise before (one ∷ two ∷ after)
    ∙ ap (λ (l : List (List ℕ)). own_of premise before ++ l) (own_swapped premise here there one two apart after e f)
    ∙ sym (own_append premise before (two ∷ one ∷ after)))

-- ---- a premise is left out
module _ (gone premise : ℕ) (apart : gone ≡ premise → ⊥) where
  others_fed : (tape : List (List ℕ)) → own_of premise (without gone tape) ≡ own_of premise tape
  others_fed [] = refl
  others_fed (bytes ∷ tape) = go (of_premise gone (reading bytes)) refl (others_fed tape)
    where
      go : (out : Bool) → of_premise gone (reading bytes) ≡ out → own_of premise (without gone tape) ≡ own_of premise tape
          → own_of premise (cond out (without gone tape) (bytes ∷ without gone tape)) ≡ own_of premise (bytes ∷ tape)
      go true e ih = rw (concerns_one gone premise (reading bytes) e, ne_eqb gone premise apart) ih
      go false e ih = ap (λ l. cond (concerns premise (reading bytes)) (bytes ∷ l) l) ih

only_marks : (gone : ℕ) (tape : List (List ℕ)) → Each Mark (records (own_of gone (without gone tape)))
only_marks gone [] = tt
only_marks gone (bytes ∷ tape) = go (reading bytes) refl (only_marks gone tape)
  where
    go : (d : Option Record) → reading bytes ≡ d → Each Mark (records (own_of gone (without gone tape)))
        → Each Mark (records (own_of gone (cond (of_premise gone d) (without gone tape) (bytes ∷ without gone tape))))
    go None e ih = rw e ih
    go (Some r) e ih = by (is kind_day_mark r) (eqb r.premise gone) refl refl
      where
        by : (mark own : Bool) → is kind_day_mark r ≡ mark → eqb r.premise gone ≡ own
            → Each Mark (records (own_of gone (cond (not mark && own) (without gone tape) (bytes ∷ without gone tape))))
        by true own t o = rw (e, t) (rw e (t, ih))
        by false true t o = ih
        by false false t o = rw (e, t, o) ih

pub premise_left_out : PremiseLeftOut
premise_left_out calendar start gone tape ms ns g p q =
    record {
      file = λ premise i n. (same premise i n).file;
      answered = λ premise i n. (same premise i n).answered;
      notices = λ premise i n. (same premise i n).notices;
      today = day;
      no_file = quiet.file;
      no_notice = quiet.notices;
    }
  where
    same : (premise : ℕ) → Premise premise → (gone ≡ premise → ⊥) → SameAtHome start premise ms ns
    same premise i n =
        same_ruled calendar start premise tape ms ns (plays_ruled calendar start premise tape tape ms p refl i)
        (plays_ruled calendar start premise (without gone tape) tape ns q (others_fed gone premise n tape) i)

    -- T is that of any other premise: there are two at least
    day : (last_book (fresh_book start) ms).today ≡ (last_book (fresh_book start) ns).today
    day = go (eqb gone 1) refl
      where
        go : (one : Bool) → eqb gone 1 ≡ one → (last_book (fresh_book start) ms).today ≡ (last_book (fresh_book start) ns).today
        go true e =
            let i : Premise 2 = record { above = omega arith; below = omega arith } in
            (same 2 i (λ z. omega (arith, z, eqb-true gone 1 e))).today
        go false e =
            let i : Premise 1 = record { above = omega arith; below = omega arith } in
            (same 1 i (eqb-false gone 1 e)).today

    quiet : Silent start gone ns
    quiet = silent calendar start gone (without gone tape) ns (only_marks gone tape)
        (plays_ruled calendar start gone (without gone tape) (without gone tape) ns q refl g)

-- ---- a refused call is left out
module _ (calendar : List ℕ) (m : Made) (refused : number m.reply.answer ≡ 0 → ⊥) (rest : List Made) where
  -- the same calls without it: each still keeps the promise on the book that it got
  record Left (b : Book) (first : List Made) : Type 0 where
    played : Played calendar b (first ++ rest)
    allowed : AllAllowed b (first ++ rest)
    book : last_book b (first ++ m ∷ rest) ≡ last_book b (first ++ rest)
    notices : (premise : ℕ) → notices_for premise (first ++ m ∷ rest) ≡ notices_for premise (first ++ rest)
    buffer : m.after ≡ m.lent

  left : (b : Book) (first : List Made) → Played calendar b (first ++ m ∷ rest) → AllAllowed b (first ++ m ∷ rest) → Left b first
  left b [] p a =
      let u : Unchanged b m.lent m.reply m.after =
      refusal_changes_nothing calendar b m.bytes m.lent m.reply m.after p.0 refused in
      record {
        played = subst (λ x. Played calendar x rest) u.book p.1;
        allowed = subst (λ x. AllAllowed x rest) u.book a.1;
        book = ap (λ x. last_book x rest) u.book;
        notices = λ premise. ap (λ n. with_premise premise (rows n m.after) ++ notices_for premise rest) u.none;
        buffer = u.bytes;
      }
  left b (x ∷ first) p a =
      let l = left x.reply.book first p.1 a.1 in
      record {
        played = (p.0, l.played);
        allowed = (a.0, l.allowed);
        book = l.book;
        notices = λ premise. ap (λ (ns : List (List ℕ)). with_premise premise (rows x.reply.sent x.after) ++ ns) (l.notices premise);
        buffer = l.buffer;
      }

pub refused_left_out : RefusedLeftOut
refused_left_out calendar start first m rest ns p a refused q =
    let l = left calendar m refused rest (fresh_book start) first p a in
    let same = nobody_sees calendar start (tape_of (first ++ rest)) (tape_of (first ++ rest)) (first ++ rest) ns
    (record { fed = refl; played = l.played; allowed = l.allowed }) q (λ premise. refl) in
    record {
      buffer = l.buffer;
      file = λ premise i. ap (λ b. file_for premise (files_of b)) l.book ∙ same.file premise i;
      answered = same.answered;
      notices = λ premise i. l.notices premise ∙ same.notices premise i;
      book = l.book ∙ same.book;
    }
