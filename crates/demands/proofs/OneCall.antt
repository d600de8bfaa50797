-- One call, as one premise sees it: its own records and the day marks do what the one-premise rules say, and other records nothing.
-- Assumes nothing.
use Prim.Native.Nat.{ℕ, ◌+◌}
use mathlib.Core.Path.{◌≡◌, refl, ap, sym, subst, ◌∙◌}
use mathlib.Core.List.{List, [], ◌∷◌, map, append-nil}
use mathlib.Core.Bool.{Bool, true, false, cond}
use lib.Dec.{eqb}
use borrow.Author.Tests.{eqb-true, eqb-false}
use Rattle.records.specs.declared.Record.{Record}
use Rattle.std.specs.Prelude.{Option, Some, None}
use Rattle.records.specs.Records.{kind_day_mark}
use Rattle.records.specs.Notices.{encode}
use Rattle.std.specs.Prelude.{Err}
use Rattle.premise.specs.declared.Refusal.TheVariants.{NotNextDay}
use Rattle.premise.specs.Steps.{is}
use Rattle.premise.specs.Refusals.{number}
use Rattle.premise.specs.OnePremise.{Given, refused, step, runs, end_state}
use Rattle.premise.specs.Laws.{marked_or}
use Rattle.premise.proofs.Answers.{only_marks_move, mark_step}
use Rattle.premise_laws.proofs.Notices.{step_notices}
use Rattle.book.specs.declared.Book.{Book}
use Rattle.book.specs.Book.{files_of, file_for, with_file}
use Rattle.book.specs.Calls.{premise_state, marked_files, Result, refusal, on_day_mark, as_one, marked_book}
use Rattle.demands.specs.Demand3.{concerns, said, with_premise, ruled_answers, ruled_notices}
use Rattle.book.proofs.Files.{Rising, rises_rising}
use Rattle.book.proofs.SameFiles.{Numbered, with_found, with_others}
use Rattle.book.proofs.Marks.{marked_state}
use Rattle.book.proofs.Keeps.{numbers, found_kept, step_kept_file}
use Rattle.book.proofs.OnPremise.{state_of}
use Rattle.demands.proofs.Picks.{pick_own, pick_other, pick_marked}
use Rattle.book.proofs.Acts.{acted, marked_accepted}
use Rattle.demands.proofs.OnWay.{OnWay, Sound, SoundIn}

-- a call that concerns the premise gives it what the one-premise rules give
record AsGiven (premise : ℕ) (x : Result) (g : Given) : Type 0 where
  state : premise_state x.book premise ≡ g.state
  answered : number x.answer ≡ number g.answer
  notices : with_premise premise (map encode x.notices) ≡ map encode g.notices

-- any other gives it nothing
record Unseen (premise : ℕ) (b : Book) (x : Result) : Type 0 where
  state : premise_state x.book premise ≡ premise_state b premise
  notices : with_premise premise (map encode x.notices) ≡ []

-- The records that concern the premise in a call: one or none.
abbrev pub mine : ℕ → Option Record → List Record
mine premise d = cond (concerns premise d) (said d) []

-- a call: what the one-premise rules give, fed the records that concern the premise
pub record Agrees (calendar : List ℕ) (premise : ℕ) (b : Book) (d : Option Record) (x : Result) : Type 0 where
  pub state : premise_state x.book premise ≡ end_state calendar (premise_state b premise) (mine premise d)
  pub answered : cond (concerns premise d) (number x.answer ∷ []) []
      ≡ ruled_answers (runs calendar (premise_state b premise) (mine premise d))
  pub notices : with_premise premise (map encode x.notices) ≡ ruled_notices (runs calendar (premise_state b premise) (mine premise d))

module _ (calendar : List ℕ) (b : Book) (k : OnWay b) where
  rising : Rising 0 (files_of b)
  rising = rises_rising 0 (files_of b) k.kept.rising

  -- ---- a day mark
  given_mark : (premise : ℕ) (r : Record) → is kind_day_mark r ≡ true
      → AsGiven premise (on_day_mark calendar b r) (step calendar (premise_state b premise) r)
  given_mark premise r t = rw (mark_step calendar (premise_state b premise) r t) (go (eqb r.day (b.today + 1)))
    where
      go : (next : Bool)
          → AsGiven premise (cond next (marked_book calendar b r.day) (refusal (Err NotNextDay) b))
          (cond next (marked_or calendar r.day (file_for premise (files_of b))) (refused (Err NotNextDay) (premise_state b premise)))
      go true = record {
        state = state_of r.day premise (marked_files calendar r.day (files_of b))
            ∙ marked_state calendar r.day premise (files_of b) k.kept.files;
        answered = ap number (sym (marked_accepted calendar r.day (file_for premise (files_of b))));
        notices = pick_marked calendar r.day premise 0 (files_of b) rising k.ranged;
      }
      go false = record { state = refl; answered = refl; notices = refl }

  -- ---- a record of one premise
  module _ (r : Record) (s : Sound r) (t : is kind_day_mark r ≡ false) where
    after : Numbered r.premise (step calendar (premise_state b r.premise) r).state.file
    after = numbers r.premise (step calendar (premise_state b r.premise) r).state.file
        (step_kept_file b k.kept calendar r s.formed)

    before : Numbered r.premise (file_for r.premise (files_of b))
    before = numbers r.premise (file_for r.premise (files_of b)) (found_kept b k.kept r.premise)

    given_own : AsGiven r.premise (as_one calendar b r) (step calendar (premise_state b r.premise) r)
    given_own =
        let given : Given = step calendar (premise_state b r.premise) r in
        let day = only_marks_move calendar (premise_state b r.premise) r t in
        let found = with_found r.premise 0 given.state.file (files_of b) rising after in
        record {
          state = state_of b.today r.premise (with_file r.premise given.state.file (files_of b))
              ∙ (λ i. record { today = sym day i; file = found i });
          answered = refl;
          notices = pick_own r.premise given.notices (s.ranged t)
              (step_notices calendar (premise_state b r.premise) r r.premise before);
        }

    unseen : (premise : ℕ) → (r.premise ≡ premise → ⊥) → Unseen premise b (as_one calendar b r)
    unseen premise n =
        let given : Given = step calendar (premise_state b r.premise) r in
        let found = with_others premise r.premise given.state.file (files_of b) n after in
        record {
          state = state_of b.today premise (with_file r.premise given.state.file (files_of b))
              ∙ (λ i. record { today = b.today; file = found i });
          notices = pick_other premise r.premise given.notices n (s.ranged t)
              (step_notices calendar (premise_state b r.premise) r r.premise before);
        }

  -- ---- a call
  pub agrees : (premise : ℕ) (d : Option Record) → SoundIn d → Agrees calendar premise b d (acted calendar b d)
  agrees premise None s = record { state = refl; answered = refl; notices = refl }
  agrees premise (Some r) s = go (is kind_day_mark r) (eqb r.premise premise) refl refl
    where
      go : (mark own : Bool) → is kind_day_mark r ≡ mark → eqb r.premise premise ≡ own
          → Agrees calendar premise b (Some r) (acted calendar b (Some r))
      go true own t e =
          let g = given_mark premise r t in
          record {
            state = rw t g.state;
            answered = rw t (ap (λ n. n ∷ []) g.answered);
            notices = rw t (g.notices ∙ sym (append-nil (map encode (step calendar (premise_state b premise) r).notices)));
          }
      go false true t e =
          let g = subst (λ p. AsGiven p (as_one calendar b r) (step calendar (premise_state b p) r)) (eqb-true r.premise premise e)
          (given_own r s t) in
          record {
            state = rw (t, e) g.state;
            answered = rw (t, e) (ap (λ n. n ∷ []) g.answered);
            notices = rw (t, e) (g.notices ∙ sym (append-nil (map encode (step calendar (premise_state b premise) r).notices)));
          }
      go false false t e =
          let g = unseen r s t premise (eqb-false r.premise premise e) in
          record { state = rw (t, e) g.state; answered = rw (t, e); notices = rw (t, e) g.notices }
