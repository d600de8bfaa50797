-- The whole records of a stretch, and that the promise leaves nothing free. Assumes nothing.
use Prim.Native.Nat.{ℕ, zero, suc, ◌+◌, ◌*◌, ◌-◌, ◌%◌, ◌≤◌, ◌<◌}
use mathlib.Core.Path.{◌≡◌, refl, sym, ap, ◌∙◌}
use mathlib.Core.List.{List, [], ◌∷◌, ◌++◌}
use native.Mathlib.Nat.{div-add-mod, mod-lt}
use native.Mathlib.Omega.{arith}
use lib.ListN.{length, take, drop, length-take, length-drop}
use lib.Seq.{take-nil, take-add}
use Rattle.lists.specs.Search.{Each}
use Rattle.records.specs.Layout.{record_length}
use Rattle.book.specs.CallsInRow.{records_of}
use Rattle.book.proofs.CallsInRow.{records_many}
use Rattle.stretch_rules.specs.Stretch.{whole_count, whole_records, joined, RecordsAreWhole, NothingFree}

-- ---- how many there are
module _ (tape : List ℕ) where
  divided : record_length * whole_count tape + length tape % record_length ≡ length tape
  divided = div-add-mod (length tape) record_length

  pub whole_within : record_length * whole_count tape ≤ length tape
  whole_within = omega (arith, divided)

  whole_rest : length tape - record_length * whole_count tape < record_length
  whole_rest = let some : 0 < record_length = omega arith in omega (arith, divided, mod-lt (length tape) some)

  pub whole_many : length (whole_records tape) ≡ whole_count tape
  unfolding whole_records
  whole_many = records_many (whole_count tape) tape whole_within

-- ---- each of them is 24 bytes, and together they are the stretch's start
each_whole : (n : ℕ) (tape : List ℕ) → record_length * n ≤ length tape
    → Each (λ (bytes : List ℕ). length bytes ≡ record_length) (records_of n tape)
each_whole zero tape h = tt
each_whole (suc n) [] h = absurd (omega arith)
each_whole (suc n) (byte ∷ tape) h = (
  omega (arith, length-take record_length (byte ∷ tape)),
  each_whole n (drop record_length (byte ∷ tape)) (omega (arith, length-drop record_length (byte ∷ tape))),
)

start : (n : ℕ) (tape : List ℕ) → joined (records_of n tape) ≡ take (record_length * n) tape
start zero tape = refl
start (suc n) [] = sym (take-nil {A = ℕ} (record_length * suc n))
start (suc n) (byte ∷ tape) =
    let all : record_length + record_length * n ≡ record_length * suc n = omega arith in
    ap (λ (l : List ℕ). take record_length (byte ∷ tape) ++ l) (start n (drop record_length (byte ∷ tape)))
    ∙ sym (take-add record_length (record_length * n) (byte ∷ tape)) ∙ ap (λ (m : ℕ). take m (byte ∷ tape)) all

pub records_are_whole : RecordsAreWhole
unfolding whole_records
records_are_whole tape = record {
  many = whole_many tape;
  each = each_whole (whole_count tape) tape (whole_within tape);
  start = start (whole_count tape) tape;
  rest = whole_rest tape;
}

-- ---- nothing is free
pub nothing_free : NothingFree
nothing_free calendar b tape r s answers₀ answers₁ answers₂ notices₀ notices₁ notices₂ p q =
    record {
      replies = λ i. record {
        answer = (p.answer ∙ sym q.answer) i;
        played = (p.played ∙ sym q.played) i;
        sent = (p.notices.count ∙ sym q.notices.count) i;
        book = (p.book ∙ sym q.book) i;
      };
      answers = p.answers ∙ sym q.answers;
      notices = p.notices.bytes ∙ sym q.notices.bytes;
    }
