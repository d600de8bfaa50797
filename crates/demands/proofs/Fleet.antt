-- A fleet of books, from demand 3 alone. Assumes nothing.
use Prim.Native.Nat.{ℕ}
use mathlib.Core.Path.{◌≡◌, refl, ap, sym, ◌∙◌}
use mathlib.Core.List.{List, [], ◌∷◌}
use mathlib.Core.Bool.{Bool, true, false, cond}
use lib.Dec.{eqb}
use borrow.Author.Tests.{eqb-true, eq-eqb, ne_eqb}
use Rattle.lists.specs.Search.{Each}
use Rattle.records.specs.declared.Record.{Record}
use Rattle.std.specs.Prelude.{Option, Some, None}
use Rattle.records.specs.Records.{reading, kind_day_mark}
use Rattle.premise.specs.Steps.{is}
use Rattle.demands.specs.Demand3.{concerns, records}
use Rattle.demands.specs.Tapes.{own_of}
use Rattle.demands.specs.Fleet.{goes_to, share, FleetAsRuled, OthersSilent, AnySplit, AsOneBook}
use Rattle.demands.proofs.Tapes.{Mark, plays_ruled, same_ruled, silent}

-- ---- a premise's home is fed all that concerns it
module _ (home : ℕ → ℕ) (stray : List ℕ → ℕ → Bool) (premise : ℕ) where
  -- one record: where the rest is fed, so is the rest with it
  one_fed : (bytes : List ℕ) (rest tape : List (List ℕ)) → own_of premise rest ≡ own_of premise tape → (d : Option Record) → reading bytes ≡ d
      → own_of premise (cond (goes_to home stray (home premise) bytes d) (bytes ∷ rest) rest)
      ≡ cond (concerns premise d) (bytes ∷ own_of premise tape) (own_of premise tape)
  one_fed bytes rest tape ih d e = go d e
    where
      passed : (d : Option Record) → reading bytes ≡ d → concerns premise d ≡ false → (goes : Bool)
          → own_of premise (cond goes (bytes ∷ rest) rest) ≡ own_of premise tape
      passed d e n true = rw (e, n) ih
      passed d e n false = ih

      taken : (d : Option Record) → reading bytes ≡ d → concerns premise d ≡ true → own_of premise (bytes ∷ rest) ≡ bytes ∷ own_of premise tape
      taken d e y = rw (e, y) (ap (λ l. bytes ∷ l) ih)

      by : (r : Record) → reading bytes ≡ Some r → (mark own : Bool) → is kind_day_mark r ≡ mark → eqb r.premise premise ≡ own
          → own_of premise (cond (cond mark true (eqb (home r.premise) (home premise))) (bytes ∷ rest) rest)
          ≡ cond (cond mark true own) (bytes ∷ own_of premise tape) (own_of premise tape)
      by r e true own t o = taken (Some r) e (rw t refl)
      by r e false true t o = rw (eq-eqb (home r.premise) (home premise) (ap home (eqb-true r.premise premise o)))
          (taken (Some r) e (rw (t, o) refl))
      by r e false false t o = passed (Some r) e (rw (t, o) refl) (eqb (home r.premise) (home premise))

      go : (d : Option Record) → reading bytes ≡ d
          → own_of premise (cond (goes_to home stray (home premise) bytes d) (bytes ∷ rest) rest)
          ≡ cond (concerns premise d) (bytes ∷ own_of premise tape) (own_of premise tape)
      go None e = passed None e refl (stray bytes (home premise))
      go (Some r) e = by r e (is kind_day_mark r) (eqb r.premise premise) refl refl

  home_fed : (tape : List (List ℕ)) → own_of premise (share home stray (home premise) tape) ≡ own_of premise tape
  home_fed [] = refl
  home_fed (bytes ∷ tape) = one_fed bytes (share home stray (home premise) tape) tape (home_fed tape) (reading bytes) refl

pub fleet_as_ruled : FleetAsRuled
fleet_as_ruled calendar start size home stray tape made f premise i =
    plays_ruled calendar start premise (share home stray (home premise) tape) tape (made (home premise))
    (f.plays (home premise) (f.homes premise i)) (home_fed home stray premise tape) i

pub any_split : AnySplit
any_split calendar start size size₂ home home₂ stray stray₂ tape tape₂ made made₂ f g agree premise i =
    same_ruled calendar start premise tape₂ (made (home premise)) (made₂ (home₂ premise))
    (plays_ruled calendar start premise (share home stray (home premise) tape) tape₂ (made (home premise))
    (f.plays (home premise) (f.homes premise i)) (home_fed home stray premise tape ∙ agree premise i) i)
    (fleet_as_ruled calendar start size₂ home₂ stray₂ tape₂ made₂ g premise i)

pub as_one_book : AsOneBook
as_one_book calendar start size home stray tape made ms f p premise i =
    same_ruled calendar start premise tape (made (home premise)) ms (fleet_as_ruled calendar start size home stray tape made f premise i)
    (plays_ruled calendar start premise tape tape ms p refl i)

-- ---- any other book is fed nothing but day marks, as far as the premise goes
module _ (home : ℕ → ℕ) (stray : List ℕ → ℕ → Bool) (premise k : ℕ) (away : home premise ≡ k → ⊥) where
  one_mark : (bytes : List ℕ) (rest : List (List ℕ)) → Each Mark (records (own_of premise rest)) → (d : Option Record) → reading bytes ≡ d
      → Each Mark (records (own_of premise (cond (goes_to home stray k bytes d) (bytes ∷ rest) rest)))
  one_mark bytes rest ih d e = go d e
    where
      passed : (d : Option Record) → reading bytes ≡ d → concerns premise d ≡ false → (goes : Bool)
          → Each Mark (records (own_of premise (cond goes (bytes ∷ rest) rest)))
      passed d e n true = rw (e, n) ih
      passed d e n false = ih

      by : (r : Record) → reading bytes ≡ Some r → (mark own : Bool) → is kind_day_mark r ≡ mark → eqb r.premise premise ≡ own
          → Each Mark (records (own_of premise (cond (cond mark true (eqb (home r.premise) k)) (bytes ∷ rest) rest)))
      by r e true own t o = rw (e, t) (rw e (t, ih))
      by r e false true t o = rw (ne_eqb (home r.premise) k (λ h. away (ap home (sym (eqb-true r.premise premise o)) ∙ h))) ih
      by r e false false t o = passed (Some r) e (rw (t, o) refl) (eqb (home r.premise) k)

      go : (d : Option Record) → reading bytes ≡ d
          → Each Mark (records (own_of premise (cond (goes_to home stray k bytes d) (bytes ∷ rest) rest)))
      go None e = passed None e refl (stray bytes k)
      go (Some r) e = by r e (is kind_day_mark r) (eqb r.premise premise) refl refl

  only_marks : (tape : List (List ℕ)) → Each Mark (records (own_of premise (share home stray k tape)))
  only_marks [] = tt
  only_marks (bytes ∷ tape) = one_mark bytes (share home stray k tape) (only_marks tape) (reading bytes) refl

pub others_silent : OthersSilent
others_silent calendar start size home stray tape made f premise k i h away =
    silent calendar start premise (share home stray k tape) (made k) (only_marks home stray premise k away tape)
    (plays_ruled calendar start premise (share home stray k tape) (share home stray k tape) (made k) (f.plays k h) refl i)
