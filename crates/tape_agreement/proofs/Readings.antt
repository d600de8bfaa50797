-- What two fields of a record decide before it is read whole: whether it concerns a premise, and whether it names one that is nearer.
-- Assumes nothing.
use Prim.Native.Nat.{ℕ, ◌+◌, ◌-◌, ◌<◌}
use mathlib.Core.Path.{◌≡◌, refl, ap, sym, ◌∙◌}
use mathlib.Core.List.{List, ◌∷◌, []}
use mathlib.Core.Bool.{Bool, true, false, cond, ◌&&◌, false≢true}
use native.Mathlib.Omega.{arith}
use lib.Dec.{eqb, ltb}
use lib.ListN.{length, take, drop, get_or}
use lib.Seq.{drop-cons}
use borrow.Author.Tests.{eq-eqb, ne_eqb}
use Rattle.records.specs.declared.Record.{Record}
use Rattle.std.specs.Prelude.{Option, Some, None}
use Rattle.records.specs.Layout.{record_length, kind_field, premise_field, number, field_of}
use Rattle.records.specs.Records.{reading, kind_day_mark}
use Rattle.records.proofs.Decode.{field_at}
use Rattle.records.proofs.Readings.{says}
use Rattle.premise.specs.Steps.{is}
use Rattle.demands.specs.Demand3.{concerns}
use Rattle.tape_agreement.specs.Walks.{record_at, is_said, nearer}

-- ---- the two fields
pub kind_of : (bytes : List ℕ) → 0 < length bytes → field_of kind_field bytes ≡ get_or bytes 0 0
unfolding field_of
kind_of [] h = absurd (omega arith)
kind_of (b ∷ bytes) h = omega arith

pub premise_of : (bytes : List ℕ) → field_of premise_field bytes ≡ number (take 8 (drop 8 bytes))
unfolding field_of
premise_of bytes = refl

-- ---- the two fields of the record from a place on
pub kind_at : (tape : List ℕ) (at : ℕ) → at < length tape → field_of kind_field (record_at tape at) ≡ get_or tape at 0
kind_at tape at h =
    let e : at + 0 ≡ at = omega arith in
    let first : number (take 1 (drop at tape)) ≡ get_or tape at 0 = rw (drop-cons tape at 0 h) (omega arith) in
    field_at kind_field tape at (omega arith) ∙ ap (λ (from : ℕ). number (take 1 (drop from tape))) e ∙ first

pub premise_at : (tape : List ℕ) (at : ℕ) → field_of premise_field (record_at tape at) ≡ number (take 8 (drop (at + 8) tape))
premise_at tape at = field_at premise_field tape at (omega arith)

-- ---- the record as it is lent to be read
pub lent_said : (tape : List ℕ) (at : ℕ) (d : Option Record) → reading (take (at + record_length - at) (drop at tape)) ≡ d
    → is_said d ≡ is_said (reading (record_at tape at))
lent_said tape at d e =
    let long : at + record_length - at ≡ record_length = omega arith in
    ap is_said (sym e ∙ ap (λ (n : ℕ). reading (take n (drop at tape))) long)

-- ---- by what a record's bytes say
-- a record that bytes say has their kind and their premise
record Fields (bytes : List ℕ) (r : Record) : Type 0 where
  kind : r.kind ≡ field_of kind_field bytes
  premise : r.premise ≡ field_of premise_field bytes

by_reading : (P : Option Record → Type 0) (bytes : List ℕ) → P None → ((r : Record) → Fields bytes r → P (Some r)) → P (reading bytes)
by_reading P bytes malformed said = go (reading bytes) refl
  where
    go : (d : Option Record) → reading bytes ≡ d → P d
    go None e = malformed
    go (Some r) e =
        let s = says bytes r e in
        said r (record { kind = ap (λ (x : Record). x.kind) s.fields; premise = ap (λ (x : Record). x.premise) s.fields })

module _ (bytes : List ℕ) (premise : ℕ) where
  -- a day mark concerns everyone, if it is well formed
  pub concerns_mark : field_of kind_field bytes ≡ kind_day_mark → concerns premise (reading bytes) ≡ is_said (reading bytes)
  concerns_mark mark =
      by_reading (λ (d : Option Record). concerns premise d ≡ is_said d) bytes refl (λ r f. rw (eq-eqb r.kind kind_day_mark (f.kind ∙ mark)))

  -- a record of the premise too
  pub concerns_own : field_of premise_field bytes ≡ premise → concerns premise (reading bytes) ≡ is_said (reading bytes)
  concerns_own own =
      by_reading (λ (d : Option Record). concerns premise d ≡ is_said d) bytes refl
      (λ r f. ap (cond (is kind_day_mark r) true) (eq-eqb r.premise premise (f.premise ∙ own)) ∙ either (is kind_day_mark r))
    where
      either : (b : Bool) → cond b true true ≡ true
      either true = refl
      either false = refl

  -- and no other
  pub concerns_no_other : (field_of kind_field bytes ≡ kind_day_mark → ⊥) → (field_of premise_field bytes ≡ premise → ⊥)
      → concerns premise (reading bytes) ≡ false
  concerns_no_other mark own =
      by_reading (λ (d : Option Record). concerns premise d ≡ false) bytes refl
      (λ r f. rw (
        ne_eqb r.kind kind_day_mark (λ e. mark (sym f.kind ∙ e)),
        ne_eqb r.premise premise (λ e. own (sym f.premise ∙ e)),
      ))

module _ (bytes : List ℕ) (last so_far : ℕ) where
  -- the premise field does not lie between
  stays : (b : Bool) (premise : ℕ) → (ltb last premise && ltb premise so_far) ≡ false
      → cond b so_far (cond (ltb last premise && ltb premise so_far) premise so_far) ≡ so_far
  stays true premise e = refl
  stays false premise e = rw e

  abbrev pub lies_between : ℕ → Bool
  lies_between premise = ltb last premise && ltb premise so_far

  pub nearer_apart : lies_between (field_of premise_field bytes) ≡ false → nearer last so_far (reading bytes) ≡ so_far
  nearer_apart apart =
      by_reading (λ (d : Option Record). nearer last so_far d ≡ so_far) bytes refl
      (λ r f. stays (eqb r.kind kind_day_mark) r.premise (ap lies_between f.premise ∙ apart))

  pub nearer_mark : field_of kind_field bytes ≡ kind_day_mark → nearer last so_far (reading bytes) ≡ so_far
  nearer_mark mark =
      by_reading (λ (d : Option Record). nearer last so_far d ≡ so_far) bytes refl (λ r f. rw (eq-eqb r.kind kind_day_mark (f.kind ∙ mark)))

  pub nearer_malformed : is_said (reading bytes) ≡ false → nearer last so_far (reading bytes) ≡ so_far
  nearer_malformed =
      by_reading (λ (d : Option Record). is_said d ≡ false → nearer last so_far d ≡ so_far) bytes (λ e. refl)
      (λ r f e. absurd (false≢true (sym e)))

  -- it does, and the record is well formed and no day mark
  pub nearer_named : lies_between (field_of premise_field bytes) ≡ true → (field_of kind_field bytes ≡ kind_day_mark → ⊥)
      → is_said (reading bytes) ≡ true → nearer last so_far (reading bytes) ≡ field_of premise_field bytes
  nearer_named between mark =
      by_reading (λ (d : Option Record). is_said d ≡ true → nearer last so_far d ≡ field_of premise_field bytes) bytes (λ e. absurd (false≢true e))
      (λ r f e. rw (ne_eqb r.kind kind_day_mark (λ m. mark (sym f.kind ∙ m)), ap lies_between f.premise ∙ between) f.premise)
