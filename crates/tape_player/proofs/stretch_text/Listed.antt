-- The loop that puts the lines of a buffer's first n notices: what is left of their bytes has the lines that are left. Assumes nothing.
use Prim.Native.Nat.{ℕ, zero, suc, ◌+◌, ◌*◌, ◌-◌, ◌≤◌, ◌<◌}
use mathlib.Core.Path.{◌≡◌, refl, sym, ap, ap₂, ◌∙◌}
use mathlib.Core.List.{List, ◌∷◌, ◌++◌}
use native.Mathlib.Omega.{arith}
use lib.ListN.{length, take, drop, length-append, length-take}
use lib.Seq.{take-take, take_at, drop_at}
use Rattle.std.proofs.lemmas.List.{drop-take}
use Rattle.records.specs.Layout.{record_length}
use Rattle.records.specs.Notices.{decode, rows}
use Rattle.tape_text.specs.Numbers.{Puts}
use Rattle.tape_text.specs.Text.{notice_line}
use Rattle.tape_output.specs.Output.{row_lines}
use Rattle.tape_text.proofs.Putting.{Putting, putting_none, putting_length, putting_room, putting_more, putting_all}

-- the first n notices go by the first 24 × n bytes
rows_front : (n : ℕ) (l : List ℕ) → rows n (take (record_length * n) l) ≡ rows n l
rows_front zero l = refl
rows_front (suc n) l =
    let more : record_length * suc n ≡ record_length + record_length * n = omega arith in
    ap (λ (m : ℕ). rows (suc n) (take m l)) more
    ∙ ap₂ (λ (row rest : List ℕ). row ∷ rows n rest) (take-take record_length (record_length + record_length * n) l (omega arith))
    (drop-take record_length (record_length * n) l)
    ∙ ap (λ (ls : List (List ℕ)). take record_length l ∷ ls) (rows_front n (drop record_length l))

pub record Listed (notices : List ℕ) (n start : ℕ) (before after : List ℕ) (at : ℕ) (rest : List ℕ) : Type 0 where
  pub many : ℕ
  pub exact : length rest ≡ record_length * many
  pub room : start + length (row_lines (rows n notices)) ≤ length before
  pub put : Putting (row_lines (rows n notices)) (row_lines (rows many rest)) start before after at

pub listed_none : (notices : List ℕ) (n start : ℕ) (b rest : List ℕ) → record_length * n ≤ length notices
    → start + length (row_lines (rows n notices)) ≤ length b → rest ≡ take (record_length * n) notices
    → Listed notices n start b b start rest
listed_none notices n start b rest held room e =
    let same : rows n rest ≡ rows n notices = ap (rows n) e ∙ rows_front n notices in
    record {
      many = n;
      exact = omega (arith, ap length e, length-take (record_length * n) notices);
      room = room;
      put = rw same (putting_none (row_lines (rows n notices)) start b);
    }

module _ {notices : List ℕ} {n start : ℕ} {b c : List ℕ} {at : ℕ} {rest : List ℕ} (l : Listed notices n start b c at rest) where
  pub listed_length : length c ≡ length b
  listed_length = putting_length l.put l.room

  -- one notice more
  module _ (row others : List ℕ) (e : rest ≡ row ++ others) (wide : length row ≡ record_length) where
    rest_length : record_length * l.many ≡ record_length + length others
    rest_length = omega (arith, l.exact, ap length e, length-append row others, wide)

    fewer : (many : ℕ) → record_length * many ≡ record_length + length others
        → rows many rest ≡ row ∷ rows (many - 1) others
    fewer zero h = absurd (omega (arith, h))
    fewer (suc many) h =
        let one : suc many - 1 ≡ many = omega arith in
        ap (rows (suc many)) e
        ∙ ap₂ (λ (x y : List ℕ). x ∷ rows many y) (take_at row others record_length wide) (drop_at row others record_length wide)
        ∙ ap (λ (m : ℕ). row ∷ rows m others) (sym one)

    next : row_lines (rows l.many rest) ≡ notice_line (decode row) ++ row_lines (rows (l.many - 1) others)
    next = ap row_lines (fewer l.many rest_length)

    pub listed_room : at + length (notice_line (decode row)) ≤ length c
    listed_room = putting_room l.put l.room (notice_line (decode row)) _ next

    pub listed_more : {d : List ℕ} {to : ℕ} → Puts at c d to (notice_line (decode row)) → Listed notices n start b d to others
    listed_more p =
        record {
          many = l.many - 1;
          exact = omega (arith, rest_length);
          room = l.room;
          put = putting_more l.put l.room (notice_line (decode row)) _ next p;
        }

  -- all of them
  pub listed_all : length rest < record_length → Puts start b c at (row_lines (rows n notices))
  listed_all h =
      let none : l.many ≡ 0 = omega (arith, l.exact) in
      putting_all l.put l.room (ap (λ (m : ℕ). row_lines (rows m rest)) none)
