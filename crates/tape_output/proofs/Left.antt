-- The records of a tape that a reader has not played: none, or one and others; the first of them, and those behind. Assumes nothing.
use Prim.Native.Nat.{ℕ, zero, suc, ◌+◌, ◌*◌, ◌-◌, ◌≤◌, ◌<◌}
use mathlib.Core.Path.{◌≡◌, refl, ap, ap₂, ◌∙◌}
use mathlib.Core.List.{List, [], ◌∷◌}
use native.Mathlib.Omega.{arith}
use lib.ListN.{length, take, drop, length-drop}
use lib.Seq.{drop-drop}
use Rattle.records.specs.Layout.{record_length}
use Rattle.book.specs.CallsInRow.{records_of}
use Rattle.book.proofs.CallsInRow.{records_few, records_over, records_next, records_after}
use Rattle.tape_reader.specs.Counts.{most_records}
use Rattle.tape_output.specs.declared.Playing.{Playing}
use Rattle.tape_output.specs.Output.{tape_most}
use Rattle.tape_output.specs.Stretches.{left}

-- the first records of bytes that have no more than so many
records_part : (many most : ℕ) (tape : List ℕ) → length tape ≤ record_length * most → take many (records_of most tape) ≡ records_of many tape
records_part zero most tape h = refl
records_part (suc many) zero [] h = refl
records_part (suc many) zero (byte ∷ tape) h = absurd (omega arith)
records_part (suc many) (suc most) [] h = refl
records_part (suc many) (suc most) (byte ∷ tape) h =
    ap (λ (l : List (List ℕ)). take record_length (byte ∷ tape) ∷ l)
    (records_part many most (drop record_length (byte ∷ tape)) (omega (arith, length-drop record_length (byte ∷ tape))))

module _ (p : Playing) (tape : List ℕ) where
  abbrev from : ℕ
  from = record_length * p.reader.place

  abbrev most : ℕ
  most = most_records - p.reader.place

  pub left_few : length (left p tape) ≤ most
  left_few = records_few most (drop from tape)

  pub left_none : length tape ≤ from → left p tape ≡ []
  left_none h = records_over most from tape h

  pub left_some : length tape ≤ tape_most → from < length tape
      → left p tape ≡ take record_length (drop from tape) ∷ records_of (most - 1) (drop record_length (drop from tape))
  left_some short h = records_next most (drop from tape) (omega arith) (omega (arith, length-drop from tape))

  pub left_first : (many : ℕ) → length tape ≤ tape_most → take many (left p tape) ≡ records_of many (drop from tape)
  left_first many short = records_part many most (drop from tape) (omega (arith, length-drop from tape))

  -- so many records on
  pub left_after : (q : Playing) (n : ℕ) → q.reader.place ≡ p.reader.place + n → drop n (left p tape) ≡ left q tape
  left_after q n e =
      let fewer : most - n ≡ most_records - q.reader.place = omega (arith, e) in
      let on : from + record_length * n ≡ record_length * q.reader.place = omega (arith, e) in
      records_after n most (drop from tape)
      ∙ ap₂ records_of fewer (drop-drop (record_length * n) from tape ∙ ap (λ (m : ℕ). drop m tape) on)
