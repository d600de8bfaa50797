-- What a premise has of a tape: what concerns it, and what the rules give of that. Assumes nothing.
use Prim.Native.Nat.{ℕ, ◌+◌, min}
use mathlib.Core.Path.{◌≡◌, refl, ap, sym, subst, ◌∙◌}
use mathlib.Core.List.{List, [], ◌∷◌, ◌++◌, map}
use Rattle.std.specs.Prelude.{None}
use mathlib.Core.Bool.{Bool, true, false, cond}
use lib.Dec.{eqb}
use Rattle.lists.specs.Search.{Each}
use Rattle.days.specs.Days.{last_day}
use Rattle.records.specs.declared.Record.{Record}
use Rattle.records.specs.Records.{reading, kind_day_mark}
use Rattle.records.specs.Notices.{encode}
use Rattle.std.specs.Prelude.{Err}
use Rattle.premise.specs.declared.Refusal.TheVariants.{NotNextDay}
use Rattle.premise.specs.Steps.{is}
use Rattle.premise.specs.OnePremise.{Given, refused, start_state, runs, end_state}
use Rattle.premise.specs.Laws.{marked_or}
use Rattle.premise.proofs.Answers.{mark_step}
use Rattle.demands.specs.Demand3.{Made, Premise, concerns, own_bytes, records, ruled_answers, ruled_notices, AsRuled}
use Rattle.demands.specs.Tapes.{tape_of, Plays, own_of}
use Rattle.demands.specs.Fleet.{HomeAsRuled, Silent, SameAtHome}
use Rattle.demands.proofs.Demand3.{demand_3}

-- what concerns a premise of some calls goes by their records alone
pub own_of_made : (premise : ℕ) (ms : List Made) → own_bytes premise ms ≡ own_of premise (tape_of ms)
own_of_made premise [] = refl
own_of_made premise (m ∷ ms) = ap (λ l. cond (concerns premise (reading m.bytes)) (m.bytes ∷ l) l) (own_of_made premise ms)

pub own_append : (premise : ℕ) (xs ys : List (List ℕ)) → own_of premise (xs ++ ys) ≡ own_of premise xs ++ own_of premise ys
own_append premise [] ys = refl
own_append premise (x ∷ xs) ys = go (concerns premise (reading x)) (own_append premise xs ys)
  where
    go : (c : Bool) → own_of premise (xs ++ ys) ≡ own_of premise xs ++ own_of premise ys
        → cond c (x ∷ own_of premise (xs ++ ys)) (own_of premise (xs ++ ys))
        ≡ cond c (x ∷ own_of premise xs) (own_of premise xs) ++ own_of premise ys
    go true ih = ap (λ (l : List (List ℕ)). x ∷ l) ih
    go false ih = ih

-- what concerns a premise, by a mark for each record of a tape whether it does
abbrev pub Marked : ℕ → List (List ℕ) → List Bool → Type 0
Marked premise [] marks = Unit {0}
Marked premise (bytes ∷ tape) [] = ⊥
Marked premise (bytes ∷ tape) (c ∷ marks) = (concerns premise (reading bytes) ≡ c) × Marked premise tape marks

abbrev pub kept_of : List Bool → List (List ℕ) → List (List ℕ)
kept_of marks [] = []
kept_of [] (bytes ∷ tape) = []
kept_of (c ∷ marks) (bytes ∷ tape) = cond c (bytes ∷ kept_of marks tape) (kept_of marks tape)

pub own_marked : (premise : ℕ) (tape : List (List ℕ)) (marks : List Bool) → Marked premise tape marks
    → own_of premise tape ≡ kept_of marks tape
own_marked premise [] marks m = refl
own_marked premise (bytes ∷ tape) [] m = absurd m
own_marked premise (bytes ∷ tape) (c ∷ marks) m =
    ap (λ (d : Bool). cond d (bytes ∷ own_of premise tape) (own_of premise tape)) m.0
    ∙ ap (λ (l : List (List ℕ)). cond c (bytes ∷ l) l) (own_marked premise tape marks m.1)

module _ (calendar : List ℕ) (start premise : ℕ) where
  -- from the records that calls were made on to a tape that agrees with them on the premise
  pub ruled_of : (tape : List (List ℕ)) (ms : List Made) → own_bytes premise ms ≡ own_of premise tape → AsRuled calendar start premise ms
      → HomeAsRuled calendar start premise tape ms
  ruled_of tape ms own x =
      record {
        file = x.file ∙ ap (λ l. (end_state calendar (start_state start) (records l)).file) own;
        today = x.today ∙ ap (λ l. (end_state calendar (start_state start) (records l)).today) own;
        answered = x.answered ∙ ap (λ l. ruled_answers (runs calendar (start_state start) (records l))) own;
        notices = x.notices ∙ ap (λ l. ruled_notices (runs calendar (start_state start) (records l))) own;
      }

  -- Calls made of one tape give a premise what the rules give of another that agrees with it on the premise.
  pub plays_ruled : (fed tape : List (List ℕ)) (ms : List Made) → Plays calendar start fed ms → own_of premise fed ≡ own_of premise tape
      → Premise premise → HomeAsRuled calendar start premise tape ms
  plays_ruled fed tape ms p agree i =
      ruled_of tape ms (own_of_made premise ms ∙ ap (own_of premise) p.fed ∙ agree)
      (demand_3.alone calendar start ms p.played p.allowed premise i)

  pub same_ruled : (tape : List (List ℕ)) (ms ns : List Made) → HomeAsRuled calendar start premise tape ms
      → HomeAsRuled calendar start premise tape ns → SameAtHome start premise ms ns
  same_ruled tape ms ns x y =
      record {
        file = x.file ∙ sym y.file;
        today = x.today ∙ sym y.today;
        answered = x.answered ∙ sym y.answered;
        notices = x.notices ∙ sym y.notices;
      }

-- ---- a premise that is fed nothing but day marks has no file and no notice
abbrev pub Mark : Record → Type 0
Mark r = is kind_day_mark r ≡ true

module _ (calendar : List ℕ) where
  record Still (today : ℕ) (rs : List Record) : Type 0 where
    file : (end_state calendar (record { today = today; file = None }) rs).file ≡ None
    notices : ruled_notices (runs calendar (record { today = today; file = None }) rs) ≡ []

  abbrev given : ℕ → Record → Bool → Given
  given today r next = cond next (marked_or calendar r.day None) (refused (Err NotNextDay) (record { today = today; file = None }))

  record Goes (today : ℕ) (r : Record) (rs : List Record) (g : Given) : Type 0 where
    file : (end_state calendar g.state rs).file ≡ None
    notices : map encode g.notices ++ ruled_notices (runs calendar g.state rs) ≡ []

  goes : (today : ℕ) (r : Record) (rs : List Record) → ((t : ℕ) → Still t rs) → (next : Bool) → Goes today r rs (given today r next)
  goes today r rs ih true = record { file = (ih r.day).file; notices = (ih r.day).notices }
  goes today r rs ih false = record { file = (ih today).file; notices = (ih today).notices }

  still_more : (today : ℕ) (r : Record) (rs : List Record) → Mark r → ((t : ℕ) → Still t rs) → Still today (r ∷ rs)
  still_more today r rs m ih =
      let g = subst (Goes today r rs) (sym (mark_step calendar (record { today = today; file = None }) r m))
      (goes today r rs ih (eqb r.day (today + 1))) in
      record { file = g.file; notices = g.notices }

  still : (rs : List Record) → Each Mark rs → (today : ℕ) → Still today rs
  still [] m today = record { file = refl; notices = refl }
  still (r ∷ rs) m today = still_more today r rs m.0 (still rs m.1)

  pub silent : (start premise : ℕ) (tape : List (List ℕ)) (ms : List Made) → Each Mark (records (own_of premise tape))
      → HomeAsRuled calendar start premise tape ms → Silent start premise ms
  silent start premise tape ms m x =
      let s = still (records (own_of premise tape)) m (min start last_day) in
      record { file = x.file ∙ s.file; notices = x.notices ∙ s.notices }
