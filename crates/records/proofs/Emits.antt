-- What `Emits` says of a buffer: its first rows are the notices' bytes, and the rest stays. Assumes nothing.
use Prim.Native.Nat.{ℕ, ◌*◌, ◌≤◌}
use mathlib.Core.Path.{◌≡◌, refl, sym, ap, ap₂, ◌∙◌}
use mathlib.Core.List.{List, [], ◌∷◌, ◌++◌, map, append_assoc}
use native.Mathlib.Omega.{arith}
use lib.ListN.{length, drop, length-append, length-drop}
use lib.Seq.{take_at, drop_at}
use Rattle.records.specs.declared.Notice.{Notice}
use Rattle.records.specs.Layout.{record_length}
use Rattle.records.specs.Notices.{encode, encode_all, rows, Emits}
use Rattle.records.proofs.Notices.{length-encode, length-encode_all}

rows_back : (ns : List Notice) (rest : List ℕ) → rows (length ns) (encode_all ns ++ rest) ≡ map encode ns
rows_back [] rest = refl
rows_back (n ∷ ns) rest =
    let long = length-encode n in
    rw (
      append_assoc (encode n) (encode_all ns) rest,
      take_at (encode n) (encode_all ns ++ rest) record_length long,
      drop_at (encode n)
          (encode_all ns ++ rest) record_length long,
      rows_back ns rest,
    )

-- the same notices by another name
pub emits_as : {before after : List ℕ} {n : ℕ} {xs ys : List Notice} → xs ≡ ys → Emits before after n xs → Emits before after n ys
emits_as e s = rw e at s

module _ {before after : List ℕ} {n : ℕ} {xs : List Notice} (s : Emits before after n xs) where
  -- the notices are read back from the buffer
  pub emits_rows : rows n after ≡ map encode xs
  emits_rows = ap₂ rows s.count s.bytes ∙ rows_back xs _

  -- the bytes behind them are those that were there
  pub emits_rest : drop (record_length * n) after ≡ drop (record_length * n) before
  emits_rest =
      let all : record_length * n ≡ record_length * length xs = ap (λ (k : ℕ). record_length * k) s.count in
      ap₂ drop all s.bytes ∙ drop_at (encode_all xs) _ (record_length * length xs) (length-encode_all xs)
      ∙ sym (ap (λ (k : ℕ). drop k before) all)

  -- Where there was room, the buffer keeps its length.
  pub emits_length : record_length * length xs ≤ length before → length after ≡ length before
  emits_length room =
      omega (
        arith,
        ap length s.bytes ∙ length-append (encode_all xs) (drop (record_length * length xs) before),
        length-encode_all xs,
        length-drop (record_length * length xs) before,
      )
