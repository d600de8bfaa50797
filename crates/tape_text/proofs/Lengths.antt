-- How long a line of numbers can be. Assumes nothing.
use Prim.Native.Nat.{ℕ, ◌+◌, ◌*◌, ◌≤◌}
use mathlib.Core.Path.{◌≡◌}
use mathlib.Core.List.{List, [], ◌∷◌}
use native.Mathlib.Omega.{arith}
use lib.ListN.{length, length-append}
use Rattle.tape_text.specs.Numbers.{decimal, spaced, AnyLettered}
use Rattle.tape_text.proofs.Digits.{decimal_within}

-- one number more in a line
pub spaced_more : (n : ℕ) (ns : List ℕ) → length (spaced (n ∷ ns)) ≡ length (decimal n) + length (spaced ns) + 1
spaced_more n ns = omega (arith, length-append (decimal n) (spaced ns))

-- at most 20 digits and a space for each number of a line
any_spaced : (ns : List ℕ) → length (spaced ns) ≤ 1 + 21 * length ns
any_spaced [] = omega arith
any_spaced (n ∷ ns) = omega (arith, spaced_more n ns, decimal_within n, any_spaced ns)

pub any_lettered : AnyLettered
any_lettered letter ns = omega (arith, any_spaced ns)
