-- The notices of one premise among those in a buffer: they are found by the number in their bytes. Assumes nothing.
use Prim.Native.Nat.{ℕ}
use mathlib.Core.Path.{◌≡◌, refl, ap, ap₂, sym, ◌∙◌}
use mathlib.Core.List.{List, [], ◌∷◌, ◌++◌, map, map-append, append-nil}
use mathlib.Core.Bool.{Bool, true, false, cond}
use native.Mathlib.Omega.{arith}
use lib.Dec.{eqb}
use borrow.Author.Tests.{eqb-true, eqb-false, eq-eqb, ne_eqb}
use Rattle.lists.specs.Search.{Each}
use Rattle.records.specs.declared.Notice.{Notice}
use Rattle.records.specs.Layout.{premise_field, field_of}
use Rattle.records.specs.Notices.{encode}
use Rattle.records.proofs.Notices.{premise_back}
use Rattle.premise.specs.declared.File.{File}
use Rattle.premise.specs.OnePremise.{marked}
use Rattle.premise.specs.Laws.{marked_or}
use Rattle.premise_laws.specs.Laws.{Of}
use Rattle.premise_laws.proofs.Notices.{mark_notices}
use Rattle.book.specs.Book.{file_for}
use Rattle.book.specs.Calls.{marked_notices}
use Rattle.demands.specs.Demand3.{Premise, with_premise}
use Rattle.book.proofs.Files.{Rising, found_below, found_head, found_tail}

-- ---- picked by number
pub pick_append : (premise : ℕ) (a b : List (List ℕ)) → with_premise premise (a ++ b) ≡ with_premise premise a ++ with_premise premise b
pick_append premise [] b = refl
pick_append premise (x ∷ a) b = go (eqb (field_of premise_field x) premise) (pick_append premise a b)
  where
    go : (t : Bool) → with_premise premise (a ++ b) ≡ with_premise premise a ++ with_premise premise b
        → cond t (x ∷ with_premise premise (a ++ b)) (with_premise premise (a ++ b))
        ≡ cond t (x ∷ with_premise premise a) (with_premise premise a) ++ with_premise premise b
    go true ih = ap (λ (l : List (List ℕ)). x ∷ l) ih
    go false ih = ih

-- the number in the bytes of a notice of a premise in range
number_in : (premise : ℕ) (n : Notice) → Premise premise → Of premise n → field_of premise_field (encode n) ≡ premise
number_in premise n i o = premise_back n (omega (arith, i.below)) ∙ o

pub pick_own : (premise : ℕ) (ns : List Notice) → Premise premise → Each (Of premise) ns
    → with_premise premise (map encode ns) ≡ map encode ns
pick_own premise [] i u = refl
pick_own premise (n ∷ ns) i u =
    rw (eq-eqb (field_of premise_field (encode n)) premise (number_in premise n i u.0), pick_own premise ns i u.1)

pub pick_other : (premise other : ℕ) (ns : List Notice) → (other ≡ premise → ⊥) → Premise other → Each (Of other) ns
    → with_premise premise (map encode ns) ≡ []
pick_other premise other [] d i u = refl
pick_other premise other (n ∷ ns) d i u =
    rw (
      ne_eqb (field_of premise_field (encode n)) premise (λ e. d (sym (number_in other n i u.0) ∙ e)),
      pick_other premise other ns d i
          u.1,
    )

-- of all the notices of a day mark, those of a premise are those of its file
module _ (calendar : List ℕ) (day : ℕ) where
  first_and_rest : (premise : ℕ) (f : File) (fs : List File)
      → with_premise premise (map encode (marked_notices calendar day (f ∷ fs)))
      ≡ with_premise premise (map encode (marked calendar day f).notices)
      ++ with_premise premise (map encode (marked_notices calendar day fs))
  first_and_rest premise f fs =
      ap (with_premise premise) (map-append encode (marked calendar day f).notices (marked_notices calendar day fs))
      ∙ pick_append premise (map encode (marked calendar day f).notices) (map encode (marked_notices calendar day fs))

  pub pick_marked : (premise n : ℕ) (fs : List File) → Rising n fs → Each (λ f. Premise f.premise) fs
      → with_premise premise (map encode (marked_notices calendar day fs)) ≡ map encode (marked_or calendar day (file_for premise fs)).notices
  unfolding file_for
  pick_marked premise n [] r u = refl
  pick_marked premise n (f ∷ fs) r u =
      first_and_rest premise f fs ∙ go (eqb f.premise premise) refl (pick_marked premise f.premise fs r.1 u.1)
    where
      go : (a : Bool) → eqb f.premise premise ≡ a
          → with_premise premise (map encode (marked_notices calendar day fs))
          ≡ map encode (marked_or calendar day (file_for premise fs)).notices
          → with_premise premise (map encode (marked calendar day f).notices)
          ++ with_premise premise (map encode (marked_notices calendar day fs))
          ≡ map encode (marked_or calendar day (file_for premise (f ∷ fs))).notices
      go true t ih =
          let e = eqb-true f.premise premise t in
          let none : with_premise premise (map encode (marked_notices calendar day fs)) ≡ [] =
          ih ∙ ap (λ o. map encode (marked_or calendar day o).notices) (found_below premise f.premise fs (omega arith) r.1) in
          let mine : with_premise premise (map encode (marked calendar day f).notices) ≡ map encode (marked calendar day f).notices =
          ap (λ p. with_premise p (map encode (marked calendar day f).notices)) (sym e)
          ∙ pick_own f.premise (marked calendar day f).notices u.0 (mark_notices calendar day f) in
          ap₂ (λ (x y : List (List ℕ)). x ++ y) mine none ∙ append-nil (map encode (marked calendar day f).notices)
          ∙ ap (λ o. map encode (marked_or calendar day o).notices) (sym (found_head premise f fs e))
      go false t ih =
          let e = eqb-false f.premise premise t in
          let none = pick_other premise f.premise (marked calendar day f).notices e u.0 (mark_notices calendar day f) in
          ap (λ (x : List (List ℕ)). x ++ with_premise premise (map encode (marked_notices calendar day fs))) none ∙ ih
          ∙ ap (λ o. map encode (marked_or calendar day o).notices) (sym (found_tail premise f fs e))
