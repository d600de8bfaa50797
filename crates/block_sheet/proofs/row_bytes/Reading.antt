-- The rows of a sheet read one after the other into an array of spare ones. Assumes nothing.
use Prim.Native.Nat.{ℕ, zero, suc, ◌+◌, ◌-◌, ◌*◌, ◌/◌, ◌≤◌, ◌<◌}
use mathlib.Core.Path.{◌≡◌, refl, sym, ap, ap₂, ◌∙◌}
use mathlib.Core.List.{List, ◌++◌}
use native.Mathlib.Omega.{arith}
use lib.ListN.{length, take, drop, get_or, set, replicate, length-append, length-replicate}
use lib.Seq.{drop-drop, drop_at}
use Rattle.lists.proofs.Over.{over, over_start, over_end, over_set}
use Rattle.records.specs.Layout.{number, field_of}
use Rattle.records.proofs.Decode.{field_of_first}
use Rattle.sheet_rules.specs.declared.BlockRow.{BlockRow}
use Rattle.sheet_rules.specs.Theorems.{spare}
use Rattle.block_sheet.specs.RowBytes.{row_length, most_rows, row_of, rows_of, padded}

-- ---- the rows
-- a row is read from the 28 bytes that it has
pub row_cut : (bytes : List ℕ) → row_of (take row_length bytes) ≡ row_of bytes
unfolding field_of row_of
row_cut bytes =
    let part : (width from : ℕ) → from + width ≤ row_length
    → number (take width (drop from (take row_length bytes))) ≡ number (take width (drop from bytes)) =
    λ width from h. field_of_first (record { start = from; width = width }) row_length bytes h in
    let block = part 4 0 (omega arith) in
    let first = part 8 4 (omega arith) in
    let last = part 8 12 (omega arith) in
    let files = part 4 20 (omega arith) in
    let dark = part 4 24 (omega arith) in
    λ i. record { block = block i; first = first i; last = last i; files = files i; dark = dark i }

pub rows-length : (n : ℕ) (bytes : List ℕ) → length (rows_of n bytes) ≡ n
rows-length zero bytes = refl
rows-length (suc n) bytes = ap suc (rows-length n (drop row_length bytes))

rows_at : (n i : ℕ) (bytes : List ℕ) (others : List BlockRow) → i < n
    → get_or (rows_of n bytes ++ others) i spare ≡ row_of (drop (row_length * i) bytes)
rows_at zero i bytes others h = absurd (omega arith)
rows_at (suc n) zero bytes others h = refl
rows_at (suc n) (suc i) bytes others h =
    let e : row_length + row_length * i ≡ row_length * suc i = omega arith in
    rows_at n i (drop row_length bytes) others (omega arith)
    ∙ ap row_of (drop-drop (row_length * i) row_length bytes ∙ ap (λ (m : ℕ). drop m bytes) e)

drop-spare : (n m : ℕ) → drop n (replicate m spare) ≡ replicate (m - n) spare
drop-spare zero m = let e : m - 0 ≡ m = omega arith in ap (λ (k : ℕ). replicate k spare) (sym e)
drop-spare (suc n) zero = let e : 0 - suc n ≡ 0 = omega arith in ap (λ (k : ℕ). replicate k spare) (sym e)
drop-spare (suc n) (suc m) = let e : suc m - suc n ≡ m - n = omega arith in drop-spare n m ∙ ap (λ (k : ℕ). replicate k spare) (sym e)

-- ---- the loop: the first rows are read
abbrev all_rows : List ℕ → List BlockRow
all_rows bytes = padded (rows_of (length bytes / row_length) bytes)

pub record Reading (bytes : List ℕ) (rows : List BlockRow) (i : ℕ) : Type 0 where
  pub within : i ≤ length bytes / row_length
  pub few : length bytes / row_length ≤ most_rows
  pub sofar : rows ≡ over i (all_rows bytes) (replicate most_rows spare)

pub reading_none : (bytes : List ℕ) → length bytes ≤ row_length * most_rows → Reading bytes (replicate most_rows spare) 0
reading_none bytes h =
    record {
      within = omega arith;
      few = omega (arith, h);
      sofar = sym (over_start spare (all_rows bytes) (replicate most_rows spare) 0 refl);
    }

module _ {bytes : List ℕ} {rows : List BlockRow} {i : ℕ} (r : Reading bytes rows i) where
  pub reading_more : (x : BlockRow) → i < length bytes / row_length → x ≡ row_of (drop (row_length * i) bytes) → Reading bytes (set rows i x) (i + 1)
  reading_more x h e =
      let n = length bytes / row_length in
      let long : length (all_rows bytes) ≡ most_rows =
      length-append (rows_of n bytes) (replicate (most_rows - length (rows_of n bytes)) spare)
      ∙ (rw (length-replicate {A = BlockRow} (most_rows - length (rows_of n bytes)) spare, rows-length n bytes) (omega (arith, r.few))) in
      record {
        within = omega (arith, h);
        few = r.few;
        sofar =
            ap₂ (λ (l : List BlockRow) (y : BlockRow). set l i y) r.sofar
            (e ∙ sym (rows_at n i bytes (replicate (most_rows - length (rows_of n bytes)) spare) h))
            ∙ over_set spare (all_rows bytes) (replicate most_rows spare) i
            (omega (arith, h, r.few, length-replicate {A = BlockRow} most_rows spare)) (omega (arith, h, r.few, long));
      }

  pub reading_all : length bytes / row_length ≤ i → rows ≡ all_rows bytes
  reading_all h =
      let n = length bytes / row_length in
      let e : i ≡ n = omega (arith, h, r.within) in
      r.sofar
      ∙ ap (λ (m : ℕ). over m (all_rows bytes) (replicate most_rows spare)) e
      ∙ over_end spare (all_rows bytes) (replicate most_rows spare) n
      (drop_at (rows_of n bytes) (replicate (most_rows - length (rows_of n bytes)) spare) n (rows-length n bytes)
      ∙ ap (λ (m : ℕ). replicate (most_rows - m) spare) (rows-length n bytes)
      ∙ sym (drop-spare n most_rows))
