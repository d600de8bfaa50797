-- What an answer tells of two tapes: what comparing gives holds of them, and of no two answers both; so every line of the theorems.
-- Assumes nothing.
use Prim.Native.Nat.{ℕ, ◌<◌, ◌≤◌}
use mathlib.Core.Path.{◌≡◌, refl, ap, sym, subst, ◌∙◌}
use mathlib.Core.List.{List, ◌++◌}
use Rattle.std.specs.Prelude.{Option, Some, None}
use mathlib.Core.Bool.{Bool, true, false, cond, false≢true}
use native.Mathlib.Omega.{arith}
use lib.Dec.{ltb}
use borrow.Author.Tests.{ltb-true, ltb-false}
use Rattle.lists.specs.Search.{Each}
use Rattle.lists.proofs.SearchLaws.{each_map, each_append}
use Rattle.records.specs.Layout.{Bytes}
use Rattle.demands.specs.Demand3.{Premise}
use Rattle.demands.specs.Tapes.{own_of}
use Rattle.tape_agreement_rules.specs.declared.Agreement.{Agreement}
use Rattle.tape_agreement_rules.specs.declared.Agreement.TheVariants.{Same, MarksDiffer, Differ}
use Rattle.tape_agreement_rules.specs.Agreement.{says_yes, number_given, records_in, marks_of, premises_of, same_records, differ_at}
use Rattle.tape_agreement_rules.specs.Agreement.{smallest_of, answer_of, agreement, Compared}
use Rattle.tape_agreement_rules.specs.Theorems.{AgreeAt, MarksAgree, YesExactly, YesIncludesMarks, SaysNo, NoGivesZero}
use Rattle.tape_agreement_rules.specs.Theorems.{SmallestDiffers}
use Rattle.tape_agreement_rules.specs.Theorems.{NoGivesPremise}
use Rattle.tape_agreement_rules.proofs.Cuts.{cut_bytes}
use Rattle.tape_agreement_rules.proofs.Lists.{records_same, records_differ, of_each, Smallest, smallest}
use Rattle.tape_agreement_rules.proofs.Own.{marks_too, named_ranged, agree_of, differ_of, by_names}

-- what each answer tells of two tapes
abbrev pub Tells : List ℕ → List ℕ → Agreement → Type 0
Tells ours theirs Same = (premise : ℕ) → Premise premise → AgreeAt ours theirs premise
Tells ours theirs MarksDiffer = MarksAgree ours theirs → ⊥
Tells ours theirs (Differ premise) = SmallestDiffers ours theirs premise

first_premise : Premise 1
first_premise = record { above = omega arith; below = omega arith }

-- ---- what comparing gives is told of the tapes
module _ (ours theirs : List ℕ) (real : Bytes ours) (real₂ : Bytes theirs) where
  abbrev us : List (List ℕ)
  us = records_in ours

  abbrev them : List (List ℕ)
  them = records_in theirs

  abbrev both : List ℕ
  both = premises_of us ++ premises_of them

  abbrev Agreed : ℕ → Type 0
  Agreed n = own_of n us ≡ own_of n them

  ranged : Each Premise both
  ranged =
      each_append Premise (premises_of us) (premises_of them) (named_ranged us (cut_bytes ours real))
      (named_ranged them (cut_bytes theirs real₂))

  found : MarksAgree ours theirs → (o : Option ℕ) → Smallest (differ_at us them) both o → Tells ours theirs (answer_of o)
  found marks None s =
      λ premise p.
      by_names us them premise marks
      (each_map (λ (n : ℕ). differ_at us them n ≡ false) (λ (n : ℕ). n ≡ premise → Agreed n) (λ n e is. agree_of us them n e) both s)
  found marks (Some m) s =
      record {
        marks = marks;
        ranged = of_each Premise m both s.stands ranged;
        differ = differ_of us them m s.passes;
        below = λ other p l.
            by_names us them other marks
            (each_map (λ (n : ℕ). n < m → differ_at us them n ≡ false) (λ (n : ℕ). n ≡ other → Agreed n)
            (λ n e is. agree_of us them n (e (omega (arith, l, is)))) both s.below);
      }

  pub told : Tells ours theirs (agreement ours theirs)
  unfolding agreement
  told = go (same_records (marks_of us) (marks_of them)) refl
    where
      go : (b : Bool) → same_records (marks_of us) (marks_of them) ≡ b
          → Tells ours theirs (cond b (answer_of (smallest_of (differ_at us them) both)) MarksDiffer)
      go true e = found (records_same (marks_of us) (marks_of them) e) (smallest_of (differ_at us them) both) (smallest (differ_at us them) both)
      go false e = records_differ (marks_of us) (marks_of them) e

-- ---- of no two answers both
module _ (ours theirs : List ℕ) where
  marks_of_all : ((premise : ℕ) → Premise premise → AgreeAt ours theirs premise) → MarksAgree ours theirs
  marks_of_all all = marks_too 1 (records_in ours) (records_in theirs) (all 1 first_premise)

  the_smallest : (m n : ℕ) → SmallestDiffers ours theirs m → SmallestDiffers ours theirs n → n ≤ m
  the_smallest m n s t = go (ltb m n) refl
    where
      go : (b : Bool) → ltb m n ≡ b → n ≤ m
      go true e = absurd (s.differ (t.below m s.ranged (ltb-true m n e)))
      go false e = ltb-false m n e

  pub only_one : (one other : Agreement) → Tells ours theirs one → Tells ours theirs other → one ≡ other
  only_one Same Same s t = refl
  only_one Same MarksDiffer s t = absurd (t (marks_of_all s))
  only_one Same (Differ n) s t = absurd (t.differ (s n t.ranged))
  only_one MarksDiffer Same s t = absurd (s (marks_of_all t))
  only_one MarksDiffer MarksDiffer s t = refl
  only_one MarksDiffer (Differ n) s t = absurd (s t.marks)
  only_one (Differ m) Same s t = absurd (s.differ (t m s.ranged))
  only_one (Differ m) MarksDiffer s t = absurd (t s.marks)
  only_one (Differ m) (Differ n) s t =
      let le = the_smallest m n s t in
      let ge = the_smallest n m t s in
      let e : m ≡ n = omega (arith, le, ge) in
      ap Differ e

-- An answer of which that is told is the one that is promised.
pub is_promised : (ours theirs : List ℕ) (answer : Agreement) → Bytes ours → Bytes theirs → Tells ours theirs answer
    → Compared ours theirs answer
is_promised ours theirs answer u v t = only_one ours theirs answer (agreement ours theirs) t (told ours theirs u v)

promised_tells : (ours theirs : List ℕ) (answer : Agreement) → Bytes ours → Bytes theirs → Compared ours theirs answer
    → Tells ours theirs answer
promised_tells ours theirs answer u v e = subst (Tells ours theirs) (sym e) (told ours theirs u v)

-- ---- the theorems
pub yes_exactly : YesExactly
unfolding says_yes
yes_exactly ours theirs answer u v e = (says answer (promised_tells ours theirs answer u v e), agrees)
  where
    says : (a : Agreement) → Tells ours theirs a → says_yes a ≡ true → (premise : ℕ) → Premise premise → AgreeAt ours theirs premise
    says Same t y = t
    says MarksDiffer t y = absurd (false≢true y)
    says (Differ n) t y = absurd (false≢true y)

    agrees : ((premise : ℕ) → Premise premise → AgreeAt ours theirs premise) → says_yes answer ≡ true
    agrees all = ap says_yes (e ∙ sym (is_promised ours theirs Same u v all))

pub yes_includes_marks : YesIncludesMarks
unfolding says_yes number_given
yes_includes_marks ours theirs answer u v e y = record {
  marks_too = marks_of_all ours theirs ((yes_exactly ours theirs answer u v e).0 y);
  gives = zero answer y;
}
  where
    zero : (a : Agreement) → says_yes a ≡ true → number_given a ≡ 0
    zero Same y = refl
    zero MarksDiffer y = refl
    zero (Differ n) y = absurd (false≢true y)

pub no_gives_zero : NoGivesZero
unfolding says_yes number_given
no_gives_zero ours theirs answer u v e = (differ answer (promised_tells ours theirs answer u v e), zero)
  where
    differ : (a : Agreement) → Tells ours theirs a → SaysNo a 0 → MarksAgree ours theirs → ⊥
    differ Same t n = absurd (false≢true (sym n.no))
    differ MarksDiffer t n = t
    differ (Differ m) t n = absurd (omega (arith, n.gives, t.ranged.above))

    zero : (MarksAgree ours theirs → ⊥) → SaysNo answer 0
    zero apart =
        subst (λ (a : Agreement). SaysNo a 0) (is_promised ours theirs MarksDiffer u v apart ∙ sym e) (record { no = refl; gives = refl })

pub no_gives_premise : NoGivesPremise
unfolding says_yes number_given
no_gives_premise ours theirs answer u v e premise above = (smallest_at answer (promised_tells ours theirs answer u v e), says)
  where
    smallest_at : (a : Agreement) → Tells ours theirs a → SaysNo a premise → SmallestDiffers ours theirs premise
    smallest_at Same t n = absurd (false≢true (sym n.no))
    smallest_at MarksDiffer t n = absurd (omega (arith, n.gives, above))
    smallest_at (Differ m) t n = subst (SmallestDiffers ours theirs) n.gives t

    says : SmallestDiffers ours theirs premise → SaysNo answer premise
    says s =
        subst (λ (a : Agreement). SaysNo a premise) (is_promised ours theirs (Differ premise) u v s ∙ sym e)
        (record { no = refl; gives = refl })
