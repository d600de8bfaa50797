-- Every step leaves a sound reader, one record on. Assumes nothing.
use Prim.Native.Nat.{ℕ, ◌+◌}
use mathlib.Core.Path.{◌≡◌, refl}
use mathlib.Core.Bool.{Bool, true, false}
use native.Mathlib.Omega.{arith}
use lib.Dec.{eqb}
use Rattle.tape_reader.specs.declared.Reader.{Reader}
use Rattle.tape_reader.specs.Counts.{counted, Sound, CountedSound}

pub counted_sound : CountedSound
unfolding counted
counted_sound r answer sound = go (eqb answer 0) refl
  where
    go : (a : Bool) → eqb answer 0 ≡ a → Sound (counted r answer)
    go true e = rw e (omega (arith, sound))
    go false e = rw e (omega (arith, sound))

pub counted_place : (r : Reader) (answer : ℕ) → (counted r answer).place ≡ r.place + 1
unfolding counted
counted_place r answer = go (eqb answer 0) refl
  where
    go : (a : Bool) → eqb answer 0 ≡ a → (counted r answer).place ≡ r.place + 1
    go true e = rw e
    go false e = rw e
