-- What a call leaves in the buffer that it is lent, from what the layer below leaves there. Assumes nothing.
use Prim.Native.Nat.{ℕ, ◌+◌, ◌*◌}
use mathlib.Core.Path.{◌≡◌, ap, ◌∙◌}
use mathlib.Core.List.{List, ◌++◌}
use native.Mathlib.Omega.{arith}
use lib.ListN.{length, drop}
use Rattle.records.specs.declared.Notice.{Notice}
use Rattle.records.specs.Layout.{record_length}
use Rattle.records.specs.Notices.{encode_all, Emits}
use Rattle.premise.specs.Promises.{Writes}

-- notices behind none are notices from the buffer's start
pub writes_emits : (before after : List ℕ) (n : ℕ) (xs : List Notice) → Writes 0 before after n xs → Emits before after n xs
writes_emits before after n xs w =
    let e : record_length * (0 + length xs) ≡ record_length * length xs = omega arith in
    record { count = omega (arith, w.count); bytes = w.bytes ∙ ap (λ (i : ℕ). encode_all xs ++ drop i before) e }
