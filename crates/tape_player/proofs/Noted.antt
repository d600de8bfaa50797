-- The text of calls in a row is that of what was noted of them. Assumes nothing.
use Prim.Native.Nat.{ℕ, ◌+◌, ◌*◌}
use mathlib.Core.Path.{◌≡◌, refl, sym, ap, ap₂, ◌∙◌}
use mathlib.Core.List.{List, [], ◌∷◌, ◌++◌, map, append_assoc}
use native.Mathlib.Omega.{arith}
use lib.ListN.{length, drop, length-append}
use lib.Seq.{drop_at}
use Rattle.records.specs.declared.Notice.{Notice}
use Rattle.records.specs.Layout.{record_length}
use Rattle.records.specs.Notices.{encode, encode_all, rows, Emits}
use Rattle.records.proofs.Notices.{length-encode_all, encode_all-append}
use Rattle.records.proofs.Emits.{emits_rows}
use Rattle.premise.specs.Refusals.{number}
use Rattle.book.specs.Calls.{Result}
use Rattle.book.specs.CallsInRow.{answers_of, counts_of, notices_of}
use Rattle.tape_text.specs.Text.{record_line}
use Rattle.tape_output.specs.Output.{row_lines, result_text}
use Rattle.tape_output.specs.Stretches.{results_text}
use Rattle.tape_player.specs.Noted.{noted_text, noted_texts, sum}

pub sum_counts : (results : List Result) → sum (counts_of results) ≡ length (notices_of results)
sum_counts [] = refl
sum_counts (x ∷ xs) = omega (arith, sum_counts xs, length-append x.notices (notices_of xs))

-- notices at the front of a buffer: their bytes, and those behind them
module _ (ns : List Notice) (rest : List ℕ) where
  behind : drop (record_length * length ns) (encode_all ns ++ rest) ≡ rest
  behind = drop_at (encode_all ns) rest (record_length * length ns) (length-encode_all ns)

  front : rows (length ns) (encode_all ns ++ rest) ≡ map encode ns
  front = emits_rows e
    where
      e : Emits (encode_all ns ++ rest) (encode_all ns ++ rest) (length ns) ns
      e = record { count = refl; bytes = ap (λ (l : List ℕ). encode_all ns ++ l) (sym behind) }

pub noted_results : (place : ℕ) (results : List Result) (rest : List ℕ)
    → noted_texts place (answers_of results) (counts_of results) (encode_all (notices_of results) ++ rest) ≡ results_text place results
noted_results place [] rest = refl
noted_results place (x ∷ xs) rest =
    let later = encode_all (notices_of xs) ++ rest in
    let bytes : encode_all (notices_of (x ∷ xs)) ++ rest ≡ encode_all x.notices ++ later =
    ap (λ (l : List ℕ). l ++ rest) (encode_all-append x.notices (notices_of xs))
    ∙ append_assoc (encode_all x.notices) (encode_all (notices_of xs)) rest in
    let answer = number x.answer in
    let n = length x.notices in
    let others = noted_texts (place + 1) (answers_of xs) (counts_of xs) in
    ap (λ (l : List ℕ). noted_text (place + 1) answer n l ++ others (drop (record_length * n) l)) bytes
    ∙ ap₂ (λ (ls : List (List ℕ)) (l : List ℕ). record_line (place + 1) answer n ++ row_lines ls ++ others l)
    (front x.notices later) (behind x.notices later)
    ∙ ap (λ (l : List ℕ). result_text (place + 1) x ++ l) (noted_results (place + 1) xs rest)
