-- `last_days` meets its contract: each call goes on where the one before ended.
use Prim.Native.Nat.{ℕ}
use mathlib.Core.Path.{refl}
use mathlib.Core.List.{List, [], ◌∷◌}
use native.Mathlib.Omega.{arith}
use Rattle.days.proofs.LastInWindow.{last_is_day, widths_go_on}
use Rattle.days.proofs.searches.last_days.Goals as goal

pub overflow_add-one : goal.overflow_add-one
overflow_add-one c = omega (arith, last_is_day _ _ _ _ c.last_in_window-one.ensures)

pub overflow_add-two : goal.overflow_add-two
overflow_add-two c = omega (arith, last_is_day _ _ _ _ c.last_in_window-two.ensures)

pub overflow_add-three : goal.overflow_add-three
overflow_add-three c = omega (arith, last_is_day _ _ _ _ c.last_in_window-three.ensures)

pub overflow_add-four : goal.overflow_add-four
overflow_add-four c = omega (arith, last_is_day _ _ _ _ c.last_in_window-four.ensures)

pub returns : goal.returns
returns c =
    let later : List ℕ =
    c.last_in_window-two.result ∷ c.last_in_window-three.result ∷ c.last_in_window-four.result ∷ c.last_in_window-five.result ∷ [] in
    record {
      many = refl;
      each = widths_go_on _ 1 _ _ later c.last_in_window-one.ensures (
        c.last_in_window-two.ensures,
        (c.last_in_window-three.ensures, (c.last_in_window-four.ensures, (c.last_in_window-five.ensures, tt))),
      );
    }
