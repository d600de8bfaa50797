-- Demand 3: from a fresh book every premise has what the one-premise rules give from its own records and the day marks; so the order of
-- records between premises does not matter. Assumes nothing.
use Prim.Native.Nat.{ℕ, min}
use mathlib.Core.Path.{◌≡◌, ap, ap₂, sym, subst, ◌∙◌}
use mathlib.Core.List.{[]}
use native.Mathlib.Omega.{arith}
use Rattle.days.specs.Days.{last_day}
use Rattle.premise.specs.OnePremise.{State, start_state, runs, end_state}
use Rattle.book.specs.declared.Book.{Book}
use Rattle.book.specs.Book.{files_of, book_of, fresh_book, file_for}
use Rattle.book.specs.Calls.{premise_state}
use Rattle.demands.specs.Demand3.{last_book, Premise, records, ruled_answers, ruled_notices, AsRuled, EachPremiseAlone, SameFor}
use Rattle.demands.specs.Demand3.{ShuffleProof, Demand3}
use Rattle.book.proofs.Files.{rises_rising}
use Rattle.book.proofs.SameFiles.{same_files}
use Rattle.book.proofs.Kept.{book_kept_means, fresh_kept, holds_its_files}
use Rattle.book.proofs.OnPremise.{state_of}
use Rattle.demands.proofs.OnWay.{OnWay}
use Rattle.demands.proofs.Alone.{Alone, alone, last_on_way}

-- ---- from a fresh book
fresh_on_way : (start : ℕ) → OnWay (fresh_book start)
fresh_on_way start = record {
  kept = (book_kept_means (fresh_book start)).0 (fresh_kept start);
  ranged = rw (holds_its_files (min start last_day) []) tt;
}

fresh_state : (start premise : ℕ) → premise_state (fresh_book start) premise ≡ start_state start
unfolding file_for
fresh_state start premise = state_of (min start last_day) premise []

pub each_premise_alone : EachPremiseAlone
each_premise_alone calendar start ms p a premise i =
    let x = subst (λ s. Alone calendar premise (fresh_book start) s ms) (fresh_state start premise)
    (alone calendar premise (fresh_book start) ms (fresh_on_way start) p a) in
    record {
      file = ap (λ (s : State). s.file) x.state;
      today = ap (λ (s : State). s.today) x.state;
      answered = x.answered;
      notices = x.notices;
    }

-- a book is its day and its files
same_book : (b c : Book) → OnWay b → OnWay c → b.today ≡ c.today
    → ((premise : ℕ) → Premise premise → file_for premise (files_of b) ≡ file_for premise (files_of c)) → b ≡ c
same_book b c k l day same =
    let files : files_of b ≡ files_of c =
    same_files Premise 0 0 (files_of b) (files_of c) (rises_rising 0 (files_of b) k.kept.rising)
    (rises_rising 0 (files_of c) l.kept.rising) k.ranged l.ranged same in
    k.kept.tidy.whole ∙ ap₂ book_of day files ∙ sym l.kept.tidy.whole

pub shuffle_proof : ShuffleProof
shuffle_proof calendar start ms ns p a q c agree =
    record {
      each = each;
      book =
          same_book (last_book (fresh_book start) ms) (last_book (fresh_book start) ns)
          (last_on_way calendar (fresh_book start) ms (fresh_on_way start) p a)
          (last_on_way calendar (fresh_book start) ns (fresh_on_way start) q c) day (λ premise i. (each premise i).file);
    }
  where
    one : (premise : ℕ) → Premise premise → AsRuled calendar start premise ms
    one = each_premise_alone calendar start ms p a

    other : (premise : ℕ) → Premise premise → AsRuled calendar start premise ns
    other = each_premise_alone calendar start ns q c

    each : (premise : ℕ) → Premise premise → SameFor start premise ms ns
    each premise i =
        record {
          file = (one premise i).file ∙ ap (λ l. (end_state calendar (start_state start) (records l)).file) (agree premise i)
              ∙ sym (other premise i).file;
          answered = (one premise i).answered ∙ ap (λ l. ruled_answers (runs calendar (start_state start) (records l))) (agree premise i)
              ∙ sym (other premise i).answered;
          notices = (one premise i).notices ∙ ap (λ l. ruled_notices (runs calendar (start_state start) (records l))) (agree premise i)
              ∙ sym (other premise i).notices;
        }

    -- T is that of any premise
    day : (last_book (fresh_book start) ms).today ≡ (last_book (fresh_book start) ns).today
    day =
        let i : Premise 1 = record { above = omega arith; below = omega arith } in
        (one 1 i).today ∙ ap (λ l. (end_state calendar (start_state start) (records l)).today) (agree 1 i) ∙ sym (other 1 i).today

pub demand_3 : Demand3
demand_3 = record { alone = each_premise_alone; shuffled = shuffle_proof }
