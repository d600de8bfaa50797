-- What concerns a premise, the day marks, and the premises that are named, of some records. Assumes nothing.
use Prim.Native.Nat.{ℕ}
use mathlib.Core.Path.{◌≡◌, refl, ap, sym, ◌∙◌}
use mathlib.Core.List.{List, [], ◌∷◌, ◌++◌}
use mathlib.Core.Bool.{Bool, true, false, cond}
use lib.Dec.{eqb}
use borrow.Author.Tests.{ne_eqb, not-true, not-false}
use Rattle.lists.specs.Search.{Each}
use Rattle.lists.proofs.SearchLaws.{each_append}
use Rattle.std.specs.Prelude.{Option, Some, None}
use Rattle.records.specs.declared.Record.{Record}
use Rattle.records.specs.Layout.{Bytes}
use Rattle.records.specs.Records.{reading, kind_day_mark}
use Rattle.premise.specs.Steps.{is}
use Rattle.demands.specs.Demand3.{Premise, concerns}
use Rattle.demands.specs.Tapes.{own_of}
use Rattle.demands.proofs.OnWay.{SoundIn, sound}
use Rattle.tape_agreement_rules.specs.Agreement.{is_mark, marks_of, named, premises_of, same_records, differ_at}
use Rattle.tape_agreement_rules.proofs.Lists.{records_same, records_differ, each_left, each_right, among, of_each, none_is}

-- ---- a premise that is not named has the day marks alone
abbrev Other : ℕ → ℕ → Type 0
Other premise n = n ≡ premise → ⊥

pub own_unnamed : (premise : ℕ) (rs : List (List ℕ)) → Each (Other premise) (premises_of rs) → own_of premise rs ≡ marks_of rs
own_unnamed premise [] h = refl
own_unnamed premise (bytes ∷ rs) h = go (reading bytes) h (own_unnamed premise rs)
  where
    by_mark : (mark : Bool) (n : ℕ) → Each (Other premise) (cond mark [] (n ∷ []) ++ premises_of rs)
        → (Each (Other premise) (premises_of rs) → own_of premise rs ≡ marks_of rs)
        → cond (cond mark true (eqb n premise)) (bytes ∷ own_of premise rs) (own_of premise rs) ≡ cond mark (bytes ∷ marks_of rs) (marks_of rs)
    by_mark true n u ih = ap (λ (l : List (List ℕ)). bytes ∷ l) (ih u)
    by_mark false n u ih = rw (ne_eqb n premise u.0) (ih u.1)

    go : (d : Option Record) → Each (Other premise) (named d ++ premises_of rs)
        → (Each (Other premise) (premises_of rs) → own_of premise rs ≡ marks_of rs)
        → cond (concerns premise d) (bytes ∷ own_of premise rs) (own_of premise rs) ≡ cond (is_mark d) (bytes ∷ marks_of rs) (marks_of rs)
    go None u ih = ih u
    go (Some r) u ih = by_mark (is kind_day_mark r) r.premise u ih

-- ---- the day marks are among what concerns any premise
pub marks_of_own : (premise : ℕ) (rs : List (List ℕ)) → marks_of (own_of premise rs) ≡ marks_of rs
marks_of_own premise [] = refl
marks_of_own premise (bytes ∷ rs) = go (reading bytes) refl (marks_of_own premise rs)
  where
    kept : (d : Option Record) → reading bytes ≡ d → marks_of (own_of premise rs) ≡ marks_of rs
        → marks_of (bytes ∷ own_of premise rs) ≡ cond (is_mark d) (bytes ∷ marks_of rs) (marks_of rs)
    kept d e ih =
        ap (λ (x : Option Record). cond (is_mark x) (bytes ∷ marks_of (own_of premise rs)) (marks_of (own_of premise rs))) e
        ∙ ap (λ (l : List (List ℕ)). cond (is_mark d) (bytes ∷ l) l) ih

    by_own : (d : Option Record) → reading bytes ≡ d → marks_of (own_of premise rs) ≡ marks_of rs → (own : Bool)
        → (own ≡ false → is_mark d ≡ false)
        → marks_of (cond own (bytes ∷ own_of premise rs) (own_of premise rs)) ≡ cond (is_mark d) (bytes ∷ marks_of rs) (marks_of rs)
    by_own d e ih true unmarked = kept d e ih
    by_own d e ih false unmarked = rw (unmarked refl) ih

    by_mark : (mark other : Bool) → cond mark true other ≡ false → mark ≡ false
    by_mark true other e = e
    by_mark false other e = refl

    go : (d : Option Record) → reading bytes ≡ d → marks_of (own_of premise rs) ≡ marks_of rs
        → marks_of (cond (concerns premise d) (bytes ∷ own_of premise rs) (own_of premise rs))
        ≡ cond (is_mark d) (bytes ∷ marks_of rs) (marks_of rs)
    go None e ih = by_own None e ih false (λ z. refl)
    go (Some r) e ih =
        by_own (Some r) e ih (concerns premise (Some r)) (by_mark (is kind_day_mark r) (eqb r.premise premise))

-- who agrees at a premise agrees on the marks
pub marks_too : (premise : ℕ) (us them : List (List ℕ)) → own_of premise us ≡ own_of premise them → marks_of us ≡ marks_of them
marks_too premise us them e = sym (marks_of_own premise us) ∙ ap marks_of e ∙ marks_of_own premise them

-- ---- every premise that is named is one
pub named_ranged : (rs : List (List ℕ)) → Each Bytes rs → Each Premise (premises_of rs)
named_ranged [] u = tt
named_ranged (bytes ∷ rs) u =
    each_append Premise (named (reading bytes)) (premises_of rs) (go (reading bytes) (sound bytes u.0)) (named_ranged rs u.1)
  where
    go : (d : Option Record) → SoundIn d → Each Premise (named d)
    go None s = tt
    go (Some r) s = by_mark (is kind_day_mark r) s.ranged
      where
        by_mark : (mark : Bool) → (mark ≡ false → Premise r.premise) → Each Premise (cond mark [] (r.premise ∷ []))
        by_mark true p = tt
        by_mark false p = (p refl, tt)

-- ---- two tapes at a premise
pub agree_of : (us them : List (List ℕ)) (premise : ℕ) → differ_at us them premise ≡ false → own_of premise us ≡ own_of premise them
agree_of us them premise e =
    records_same (own_of premise us) (own_of premise them) (not-false (same_records (own_of premise us) (own_of premise them)) e)

pub differ_of : (us them : List (List ℕ)) (premise : ℕ) → differ_at us them premise ≡ true → own_of premise us ≡ own_of premise them → ⊥
differ_of us them premise e =
    records_differ (own_of premise us) (own_of premise them) (not-true (same_records (own_of premise us) (own_of premise them)) e)

-- With the same marks they agree at a premise if they do so wherever one of them names it.
pub by_names : (us them : List (List ℕ)) (premise : ℕ) → marks_of us ≡ marks_of them
    → Each (λ (n : ℕ). n ≡ premise → own_of n us ≡ own_of n them) (premises_of us ++ premises_of them)
    → own_of premise us ≡ own_of premise them
by_names us them premise marks named = go (among premise (premises_of us ++ premises_of them)) refl
  where
    go : (b : Bool) → among premise (premises_of us ++ premises_of them) ≡ b → own_of premise us ≡ own_of premise them
    go true e = of_each (λ (n : ℕ). n ≡ premise → own_of n us ≡ own_of n them) premise (premises_of us ++ premises_of them) e named refl
    go false e =
        let others = none_is premise (premises_of us ++ premises_of them) e in
        own_unnamed premise us (each_left (Other premise) (premises_of us) (premises_of them) others) ∙ marks
        ∙ sym (own_unnamed premise them (each_right (Other premise) (premises_of us) (premises_of them) others))
