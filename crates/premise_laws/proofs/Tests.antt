-- Laws of tests that are made of others: what is known of one where the whole passes or fails. Assumes nothing.
use mathlib.Core.Path.{◌≡◌, refl, sym, ◌∙◌}
use mathlib.Core.Bool.{Bool, true, false, ◌||◌}

-- where a test passes that would fail without another, the other passes
pub must : (other test : Bool) → (other ≡ false → test ≡ false) → test ≡ true → other ≡ true
must true test h e = refl
must false test h e = sym (h refl) ∙ e

-- one of two tests passes
pub by_either : {X : Type 0} (a b : Bool) → (a || b) ≡ true → (a ≡ true → X) → (b ≡ true → X) → X
by_either true b e h k = h refl
by_either false b e h k = k e
