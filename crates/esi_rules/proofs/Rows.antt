-- The records of a directory as std cuts them, and what every record of bytes is. Assumes nothing.
use Prim.Native.Nat.{ℕ, zero, suc, ◌*◌, ◌/◌, ◌≤◌}
use mathlib.Core.Path.{◌≡◌, refl, ap}
use mathlib.Core.List.{List, [], ◌∷◌}
use native.Mathlib.Omega.{arith}
use lib.ListN.{length, take, drop, length-drop}
use lib.Seq.{length-take-le}
use Rattle.std.specs.Simd.{first_chunks}
use Rattle.lists.specs.Search.{Each}
use Rattle.records.specs.Layout.{Bytes, record_length}
use Rattle.records.specs.Notices.{rows}
use Rattle.records.proofs.Fields.{bytes_drop, bytes_take}
use Rattle.esi_rules.specs.Directory.{records}

-- std cuts a directory into the same records
pub chunked : (n : ℕ) (bytes : List ℕ) → first_chunks record_length n bytes ≡ rows n bytes
chunked zero bytes = refl
chunked (suc n) bytes = ap (λ (rs : List (List ℕ)). take record_length bytes ∷ rs) (chunked n (drop record_length bytes))

-- ---- every record
-- two facts of each element, as one
pub each_both : {A : Type 0} (P Q R : A → Type 0) → ((x : A) → P x → Q x → R x) → (xs : List A) → Each P xs → Each Q xs → Each R xs
each_both P Q R f [] h k = tt
each_both P Q R f (x ∷ xs) h k = (f x h.0 k.0, each_both P Q R f xs h.1 k.1)

abbrev pub Long : List ℕ → Type 0
Long row = length row ≡ record_length

pub record Shaped (row : List ℕ) : Type 0 where
  pub long : Long row
  pub bytes : Bytes row

long_rows : (n : ℕ) (bytes : List ℕ) → record_length * n ≤ length bytes → Each Long (rows n bytes)
long_rows zero bytes h = tt
long_rows (suc n) bytes h =
    (length-take-le record_length bytes (omega arith), long_rows n (drop record_length bytes) (omega (arith, length-drop record_length bytes)))

byte_rows : (n : ℕ) (bytes : List ℕ) → Bytes bytes → Each Bytes (rows n bytes)
byte_rows zero bytes b = tt
byte_rows (suc n) bytes b = (bytes_take record_length bytes b, byte_rows n (drop record_length bytes) (bytes_drop record_length bytes b))

pub long : (bytes : List ℕ) → Each Long (records bytes)
long bytes = long_rows (length bytes / record_length) bytes (omega arith)

pub shaped : (bytes : List ℕ) → Bytes bytes → Each Shaped (records bytes)
shaped bytes b =
    each_both Long Bytes Shaped (λ row l k. record { long = l; bytes = k }) (records bytes) (long bytes)
    (byte_rows (length bytes / record_length) bytes b)
