-- The records of a premise from a place of a tape on, and those of two tapes at once. Assumes nothing.
use Prim.Native.Nat.{ℕ, ◌+◌, ◌-◌, ◌<◌, ◌≤◌}
use mathlib.Core.Path.{◌≡◌, refl, ap, ap₂, sym, subst, ◌∙◌}
use mathlib.Core.List.{List, [], ◌∷◌}
use mathlib.Core.Bool.{Bool, true, false, cond, ◌&&◌}
use native.Mathlib.Omega.{arith}
use lib.Dec.{ltb}
use lib.ListN.{length, take, drop, length-take, length-drop}
use borrow.Author.Tests.{ltb-true, ltb-false}
use Rattle.lists.proofs.Find.{drop-none}
use Rattle.std.specs.Prelude.{None}
use Rattle.records.specs.Layout.{record_length}
use Rattle.records.specs.Records.{reading}
use Rattle.records.proofs.Readings.{reading-length}
use Rattle.demands.specs.Demand3.{concerns}
use Rattle.demands.specs.Tapes.{own_of}
use Rattle.tape_agreement_rules.specs.Agreement.{records_in, same_bytes, same_records}
use Rattle.tape_agreement_rules.proofs.Cuts.{cut_at}
use Rattle.tape_agreement.specs.Walks.{record_at, Reaches}

-- fewer than 24 bytes are no record, or one that is malformed
pub short_cut : (P : List (List ℕ) → Type 0) (tape : List ℕ) → length tape < record_length → P []
    → ((bytes : List ℕ) → reading bytes ≡ None → P (bytes ∷ []))
    → P (records_in tape)
short_cut P [] h none one = none
short_cut P (byte ∷ tape) h none one =
    let bytes = take record_length (byte ∷ tape) in
    let e : records_in (byte ∷ tape) ≡ bytes ∷ [] =
    cut_at (byte ∷ tape) 0 (omega arith)
    ∙ ap (λ (rest : List ℕ). bytes ∷ records_in rest) (drop-none (byte ∷ tape) record_length (omega arith)) in
    subst P (sym e) (one bytes (reading-length bytes (λ l. omega (arith, l, length-take record_length (byte ∷ tape)))))

-- ---- one tape
abbrev pub own_from : ℕ → List ℕ → ℕ → List (List ℕ)
own_from premise tape at = own_of premise (records_in (drop at tape))

-- a place of a walk from another: nothing that concerns the premise stands between
pub record On (premise : ℕ) (tape : List ℕ) (from at : ℕ) : Type 0 where
  pub onward : from ≤ at
  pub within : at ≤ length tape
  pub rest : own_from premise tape at ≡ own_from premise tape from

module _ (premise : ℕ) (tape : List ℕ) where
  own_at : (at : ℕ) → at + record_length ≤ length tape → (b : Bool) → concerns premise (reading (record_at tape at)) ≡ b
      → own_from premise tape at
      ≡ cond b (record_at tape at ∷ own_from premise tape (at + record_length)) (own_from premise tape (at + record_length))
  own_at at h b e =
      let rest = own_from premise tape (at + record_length) in
      ap (own_of premise) (cut_at tape at (omega arith)) ∙ ap (λ (c : Bool). cond c (record_at tape at ∷ rest) rest) e

  own_end : (at : ℕ) → length tape - at < record_length → own_from premise tape at ≡ []
  own_end at h =
      short_cut (λ (rs : List (List ℕ)). own_of premise rs ≡ []) (drop at tape) (omega (arith, length-drop at tape)) refl (λ bytes e. rw e)

  pub passed : (from at : ℕ) → On premise tape from at → at + record_length ≤ length tape
      → concerns premise (reading (record_at tape at)) ≡ false → On premise tape from (at + record_length)
  passed from at o h e = record { onward = omega (arith, o.onward); within = h; rest = sym (own_at at h false e) ∙ o.rest }

  pub found : (from at : ℕ) → On premise tape from at → concerns premise (reading (record_at tape at)) ≡ true → Reaches premise tape from at
  found from at o e = record { onward = o.onward; within = o.within; rest = o.rest; stands = λ h. e }

  pub ended : (from at : ℕ) → On premise tape from at → length tape - at < record_length → Reaches premise tape from at
  ended from at o h = record { onward = o.onward; within = o.within; rest = o.rest; stands = λ k. absurd (omega (arith, h, k)) }

  own_here : (from at : ℕ) → Reaches premise tape from at → record_length ≤ length tape - at
      → own_from premise tape at ≡ record_at tape at ∷ own_from premise tape (at + record_length)
  own_here from at r h = own_at at (omega (arith, h, r.within)) true (r.stands h)

-- ---- two tapes: the wholes are the same exactly if the rests are
pub record Both (premise : ℕ) (ours theirs : List ℕ) (here there : ℕ) : Type 0 where
  pub here_in : here ≤ length ours
  pub there_in : there ≤ length theirs
  pub same : same_records (own_from premise ours here) (own_from premise theirs there)
      ≡ same_records (own_of premise (records_in ours)) (own_of premise (records_in theirs))

module _ {premise : ℕ} {ours theirs : List ℕ} {from from₂ here there : ℕ} (b : Both premise ours theirs from from₂)
    (r : Reaches premise ours from here) (s : Reaches premise theirs from₂ there) where
  abbrev whole : Bool
  whole = same_records (own_of premise (records_in ours)) (own_of premise (records_in theirs))

  -- by what is left of the two
  by_rests : (xs ys : List (List ℕ)) → own_from premise ours here ≡ xs → own_from premise theirs there ≡ ys → whole ≡ same_records xs ys
  by_rests xs ys e f = sym b.same ∙ ap₂ same_records (sym r.rest ∙ e) (sym s.rest ∙ f)

  pub ours_ended : length ours - here < record_length → whole ≡ ltb (length theirs - there) record_length
  ours_ended h = go (ltb (length theirs - there) record_length) refl
    where
      go : (t : Bool) → ltb (length theirs - there) record_length ≡ t → whole ≡ t
      go true e =
          by_rests [] [] (own_end premise ours here h)
          (own_end premise theirs there (ltb-true (length theirs - there) record_length e))
      go false e =
          by_rests [] (record_at theirs there ∷ own_from premise theirs (there + record_length)) (own_end premise ours here h)
          (own_here premise theirs from₂ there s (ltb-false (length theirs - there) record_length e))

  module _ (h : record_length ≤ length ours - here) where
    pub theirs_ended : length theirs - there < record_length → whole ≡ false
    theirs_ended k =
        by_rests (record_at ours here ∷ own_from premise ours (here + record_length)) [] (own_here premise ours from here r h)
        (own_end premise theirs there k)

    module _ (k : record_length ≤ length theirs - there) where
      both_left : whole
          ≡ (same_bytes (record_at ours here) (record_at theirs there)
          && same_records (own_from premise ours (here + record_length)) (own_from premise theirs (there + record_length)))
      both_left =
          by_rests (record_at ours here ∷ own_from premise ours (here + record_length))
          (record_at theirs there ∷ own_from premise theirs (there + record_length)) (own_here premise ours from here r h)
          (own_here premise theirs from₂ there s k)

      pub records_apart : same_bytes (record_at ours here) (record_at theirs there) ≡ false → whole ≡ false
      records_apart e = rw e at both_left

      pub records_alike : same_bytes (record_at ours here) (record_at theirs there) ≡ true
          → Both premise ours theirs (here + record_length) (there + record_length)
      records_alike e =
          record {
            here_in = omega (arith, h, r.within);
            there_in = omega (arith, k, s.within);
            same = sym (rw e at both_left);
          }
