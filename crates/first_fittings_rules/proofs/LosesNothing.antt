-- Change 9's two ways undo each other, so that nothing is lost either way. Assumes nothing.
use Prim.Native.Nat.{ℕ, ◌≤◌}
use mathlib.Core.Path.{◌≡◌, refl, sym, ap, ap₂, ◌∙◌}
use mathlib.Core.List.{List, [], ◌∷◌, ◌++◌, append-nil}
use mathlib.Core.Bool.{false, not}
use native.Mathlib.Omega.{arith}
use lib.Dec.{eqb}
use lib.ListN.{length, take, drop, replicate, length-drop, take-append-drop}
use lib.Seq.{length-take-le, take_at, drop_at, take_all}
use borrow.Author.Tests.{eqb-true, not-false}
use Rattle.lists.specs.Search.{any_of}
use Rattle.lists.proofs.TestLaws.{or_left, or_right}
use Rattle.first_fittings_rules.specs.Layout.{old_length, widths, turned, turned_record}
use Rattle.first_fittings_rules.specs.Conversions.{to24, to20}
use Rattle.first_fittings_rules.specs.ThereAndBack.{ThereAndBack, LosesNothing}
use Rattle.first_fittings_rules.proofs.Turned.{turned_twice, length_record}
use Rattle.first_fittings_rules.proofs.Ways.{into_ours, into_old}
use Rattle.first_fittings_rules.proofs.ThereAndBack.{Undoes, there_and_back, keeps_apart}

-- bytes 0 to 19 turned twice, whatever stands behind them
record_twice : (bytes behind : List ℕ) → old_length ≤ length bytes → turned_record (turned_record bytes ++ behind) ≡ take old_length bytes
unfolding turned_record
record_twice bytes behind h =
    ap (turned widths) (take_at (turned_record bytes) behind old_length (length_record bytes h))
    ∙ turned_twice widths (take old_length bytes) (length-take-le old_length bytes h)

-- bytes of which none is not zero
all_zero : (bytes : List ℕ) → any_of (λ (byte : ℕ). not (eqb byte 0)) bytes ≡ false → bytes ≡ replicate (length bytes) 0
all_zero [] e = refl
all_zero (byte ∷ bytes) e =
    ap₂ (λ (a : ℕ) (b : List ℕ). a ∷ b)
    (eqb-true byte 0 (not-false (eqb byte 0) (or_left (not (eqb byte 0)) (any_of (λ (b : ℕ). not (eqb b 0)) bytes) e)))
    (all_zero bytes (or_right (not (eqb byte 0)) (any_of (λ (b : ℕ). not (eqb b 0)) bytes) e))

undoes_old : Undoes to24 to20
undoes_old =
    record {
      some = omega arith;
      into = into_ours;
      fine =
          λ bytes e.
          ap (any_of (λ (byte : ℕ). not (eqb byte 0)))
          (drop_at (turned_record bytes) (replicate 4 0) old_length (length_record bytes (omega (arith, e))));
      undone = λ bytes e h. record_twice bytes (replicate 4 0) (omega (arith, e)) ∙ take_all old_length bytes (omega (arith, e));
    }

undoes_ours : Undoes to20 to24
undoes_ours =
    record {
      some = omega arith;
      into = into_old;
      fine = λ bytes e. refl;
      undone =
          λ bytes e h.
          let four : length (drop old_length bytes) ≡ 4 = length-drop old_length bytes ∙ omega (arith, e) in
          let zeros : replicate 4 0 ≡ drop old_length bytes = sym (all_zero (drop old_length bytes) h ∙ ap (λ (n : ℕ). replicate n 0) four) in
          ap₂ (λ (a b : List ℕ). a ++ b)
          (ap turned_record (sym (append-nil (turned_record bytes))) ∙ record_twice bytes [] (omega (arith, e)))
          zeros
          ∙ take-append-drop old_length bytes;
    }

old : ThereAndBack to24 to20
old = there_and_back to24 to20 undoes_old

ours : ThereAndBack to20 to24
ours = there_and_back to20 to24 undoes_ours

pub loses_nothing : LosesNothing
loses_nothing = record { old = old; ours = ours; old_apart = keeps_apart to24 to20 old; ours_apart = keeps_apart to20 to24 ours }
