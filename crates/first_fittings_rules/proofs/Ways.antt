-- What is known of each way: how long what a record becomes is, and with it the whole converted tape. Assumes nothing.
use Prim.Native.Nat.{ℕ, ◌*◌, ◌/◌, ◌≤◌}
use mathlib.Core.Path.{◌≡◌, ap, ◌∙◌}
use mathlib.Core.List.{List, [], ◌∷◌, map}
use native.Mathlib.Nat.{mul-div-le}
use native.Mathlib.Omega.{arith}
use lib.ListN.{length, length-append, length-map}
use Rattle.first_fittings_rules.specs.Layout.{old_length, our_length, turned_record, cut, joined}
use Rattle.first_fittings_rules.specs.Conversions.{Way, to24, to20, converted}
use Rattle.first_fittings_rules.proofs.Turned.{length_record}
use Rattle.first_fittings_rules.proofs.Tapes.{Sized, cut_sized, cut-length, joined_length}

-- a record that comes in becomes one of so many bytes
abbrev pub Into : Way → ℕ → Type 0
Into way size = (bytes : List ℕ) → length bytes ≡ way.size → length (way.becomes bytes) ≡ size

pub into_ours : Into to24 our_length
into_ours bytes e = length-append (turned_record bytes) _ ∙ omega (arith, length_record bytes (omega (arith, e)))

pub into_old : Into to20 old_length
into_old bytes e = length_record bytes (omega (arith, e))

module _ (way : Way) (into : ℕ) (long : Into way into) where
  pub becomes_sized : (rs : List (List ℕ)) → Sized way.size rs → Sized into (map way.becomes rs)
  becomes_sized [] h = tt
  becomes_sized (r ∷ rs) h = (long r h.0, becomes_sized rs h.1)

  -- of so many records from a tape's start on
  pub part_length : (n : ℕ) (tape : List ℕ) → way.size * n ≤ length tape
      → length (joined (map way.becomes (cut way.size n tape))) ≡ into * n
  part_length n tape h =
      let rs = cut way.size n tape in
      joined_length into (map way.becomes rs) (becomes_sized rs (cut_sized way.size n tape h))
      ∙ ap (λ (k : ℕ). into * k) (length-map rs way.becomes ∙ cut-length way.size n tape)

  pub converted-length : (tape : List ℕ) → length (converted way tape) ≡ into * (length tape / way.size)
  unfolding converted
  converted-length tape = part_length (length tape / way.size) tape (mul-div-le (length tape) way.size)
