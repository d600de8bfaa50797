-- Every premise up to one agrees: at first none is asked, and after the last there is every one has been. Assumes nothing.
use Prim.Native.Nat.{ℕ, ◌<◌, ◌≤◌}
use mathlib.Core.Path.{◌≡◌, refl, sym, subst, ◌∙◌}
use mathlib.Core.List.{List, ◌++◌}
use mathlib.Core.Bool.{Bool, true, false}
use native.Mathlib.Omega.{arith}
use lib.Dec.{ltb, eqb}
use borrow.Author.Tests.{ltb-true, ltb-false, eqb-true, eqb-false}
use Rattle.lists.specs.Search.{Each}
use Rattle.lists.proofs.SearchLaws.{each_map}
use Rattle.records.specs.Layout.{Bytes}
use Rattle.demands.specs.Demand3.{Premise}
use Rattle.demands.specs.Tapes.{own_of}
use Rattle.tape_agreement_rules.specs.declared.Agreement.TheVariants.{Same, MarksDiffer, Differ}
use Rattle.tape_agreement_rules.specs.Agreement.{records_in, marks_of, premises_of, same_records, Compared}
use Rattle.tape_agreement_rules.specs.Theorems.{AgreeAt, MarksAgree}
use Rattle.tape_agreement_rules.proofs.Lists.{records_same, records_differ}
use Rattle.tape_agreement_rules.proofs.Own.{own_unnamed, marks_too, named_ranged, by_names}
use Rattle.tape_agreement_rules.proofs.Cuts.{cut_bytes}
use Rattle.tape_agreement_rules.proofs.Answers.{is_promised}
use Rattle.tape_agreement.specs.Walks.{last_premise, next_named}
use Rattle.tape_agreement.proofs.Nearest.{Next, next_is}

pub record UpTo (ours theirs : List ℕ) (last : ℕ) : Type 0 where
  pub marks : MarksAgree ours theirs
  pub agree : (premise : ℕ) → Premise premise → premise ≤ last → AgreeAt ours theirs premise

module _ (ours theirs : List ℕ) where
  abbrev us : List (List ℕ)
  us = records_in ours

  abbrev them : List (List ℕ)
  them = records_in theirs

  abbrev pub same_at : ℕ → Bool
  same_at premise = same_records (own_of premise us) (own_of premise them)

  -- ---- the marks: what concerns premise 0
  pub none_asked : same_at 0 ≡ true → UpTo ours theirs 0
  none_asked e =
      record {
        marks = marks_too 0 us them (records_same (own_of 0 us) (own_of 0 them) e);
        agree = λ premise p l. absurd (omega (arith, p.above, l));
      }

  own_0 : (rs : List (List ℕ)) → Each Bytes rs → marks_of rs ≡ own_of 0 rs
  own_0 rs u =
      sym (own_unnamed 0 rs
      (each_map Premise (λ (n : ℕ). n ≡ 0 → ⊥) (λ n p e. omega (arith, p.above, e)) (premises_of rs) (named_ranged rs u)))

  pub marks_differ : Bytes ours → Bytes theirs → same_at 0 ≡ false → Compared ours theirs MarksDiffer
  marks_differ u v e =
      is_promised ours theirs MarksDiffer u v
      (λ marks. records_differ (own_of 0 us) (own_of 0 them) e (sym (own_0 us (cut_bytes ours u)) ∙ marks ∙ own_0 them (cut_bytes theirs v)))

  -- ---- the next premise
  module _ (last : ℕ) (h : last < last_premise) (a : UpTo ours theirs last) where
    abbrev next : ℕ
    next = next_named last us them

    is_next : Next last last_premise next (premises_of us ++ premises_of them)
    is_next = next_is last last_premise us them

    pub next_above : last < next
    next_above = is_next.above h

    pub next_most : next ≤ last_premise
    next_most = is_next.most

    -- those before it agree: up to the last one they do, and those between neither tape names
    before_next : (premise : ℕ) → Premise premise → premise < next → AgreeAt ours theirs premise
    before_next premise p l = go (ltb last premise) refl
      where
        go : (b : Bool) → ltb last premise ≡ b → AgreeAt ours theirs premise
        go true e =
            let above = ltb-true last premise e in
            by_names us them premise a.marks
            (each_map (λ (n : ℕ). last < n → next ≤ n) (λ (n : ℕ). n ≡ premise → own_of n us ≡ own_of n them)
            (λ n least is. let le = least (omega (arith, above, is)) in absurd (omega (arith, le, l, is)))
            (premises_of us ++ premises_of them) is_next.between)
        go false e = a.agree premise p (ltb-false last premise e)

    pub next_differs : Bytes ours → Bytes theirs → same_at next ≡ false → Compared ours theirs (Differ next)
    next_differs u v e =
        is_promised ours theirs (Differ next) u v
        (record {
          marks = a.marks;
          ranged = record { above = omega (arith, next_above); below = omega (arith, next_most) };
          differ = records_differ (own_of next us) (own_of next them) e;
          below = before_next;
        })

    pub next_agrees : same_at next ≡ true → UpTo ours theirs next
    next_agrees e = record { marks = a.marks; agree = λ premise p l. go premise p l (eqb next premise) refl }
      where
        go : (premise : ℕ) → Premise premise → premise ≤ next → (b : Bool) → eqb next premise ≡ b → AgreeAt ours theirs premise
        go premise p l true t =
            subst (AgreeAt ours theirs) (eqb-true next premise t) (records_same (own_of next us) (own_of next them) e)
        go premise p l false t =
            let other = eqb-false next premise t in
            before_next premise p (omega (arith, l, other))

  -- ---- all of them
  pub all_agree : (last : ℕ) → last_premise ≤ last → UpTo ours theirs last → Bytes ours → Bytes theirs → Compared ours theirs Same
  all_agree last h a u v = is_promised ours theirs Same u v (λ premise p. a.agree premise p (omega (arith, p.below, h)))
