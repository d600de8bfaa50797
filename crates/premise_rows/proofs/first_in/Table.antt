-- Laws of table 11.1: what it says within its rows and columns, and outside. Assumes nothing.
use Prim.Native.Nat.{ℕ, zero, suc, ◌-◌, ◌<◌, ◌≤◌}
use mathlib.Core.Path.{◌≡◌, refl, sym, ap, ◌∙◌}
use mathlib.Core.List.{List, [], ◌∷◌}
use mathlib.Core.Bool.{Bool, true, false, not, ◌&&◌, and-false, false≢true}
use native.Mathlib.Omega.{arith}
use lib.Dec.{eqb, leb}
use lib.ListN.{length, get_or, get_or-eq_default}
use borrow.Author.Tests.{leb-true, leb-false, not-true, not-false}
use Rattle.lists.specs.Search.{Each}
use Rattle.lists.proofs.TestLaws.{pass_each, each_pass}
use Rattle.premise.specs.FirstIn.{table, refuses}

-- outside a list of rows that are none longer than j, what stands at j is 0
past : (j : ℕ) (rows : List (List ℕ)) → Each (λ (row : List ℕ). length row ≤ j) rows → (i : ℕ) → get_or (get_or rows i []) j 0 ≡ 0
past j [] short i = refl
past j (row ∷ rows) (h, short) zero = get_or-eq_default row 0 h
past j (row ∷ rows) (h, short) (suc i) = past j rows short i

module _ (held new : ℕ) where
  -- within the rows and the columns
  abbrev inside : Bool
  inside = leb 1 held && leb held 5 && leb 1 new && leb new 4

  entry : ℕ
  entry = get_or (get_or table (held - 1) []) (new - 1) 0

  empty : entry ≡ 0 → false ≡ refuses held new
  unfolding refuses entry
  empty e = sym (ap (λ (n : ℕ). leb 1 held && leb 1 new && eqb n 1) e ∙ and-false (leb 1 held && leb 1 new))

  no_row : leb 1 held ≡ false → false ≡ refuses held new
  unfolding refuses
  no_row e = rw e

  no_column : leb 1 new ≡ false → false ≡ refuses held new
  unfolding refuses
  no_column e = rw (e, and-false (leb 1 held))

  past_rows : 5 < held → false ≡ refuses held new
  unfolding entry
  past_rows h = empty (ap (λ (row : List ℕ). get_or row (new - 1) 0) (get_or-eq_default table [] {n = held - 1} (omega arith)))

  past_columns : 4 < new → false ≡ refuses held new
  unfolding entry
  past_columns h =
      let four : 4 ≤ new - 1 = omega arith in
      empty (past (new - 1) table (four, (four, (four, (four, (four, tt))))) (held - 1))

  pub outside : not inside ≡ true → false ≡ refuses held new
  outside h = go (leb 1 held) refl (leb held 5) refl (leb 1 new) refl (leb new 4) refl
    where
      go : (a : Bool) → leb 1 held ≡ a → (b : Bool) → leb held 5 ≡ b → (c : Bool) → leb 1 new ≡ c → (d : Bool) → leb new 4 ≡ d
          → false ≡ refuses held new
      go false p b q c r d s = no_row p
      go true p false q c r d s = past_rows (leb-false held 5 q)
      go true p true q false r d s = no_column r
      go true p true q true r false s = past_columns (leb-false new 4 s)
      go true p true q true r true s =
          absurd (false≢true (sym (not-true inside h)
          ∙ each_pass (leb 1 held) (leb held 5 ∷ leb 1 new ∷ leb new 4 ∷ []) (p, (q, (r, (s, tt))))))

  module _ (h : not inside ≡ false) where
    pub within : (1 ≤ held) × (held ≤ 5) × (1 ≤ new) × (new ≤ 4)
    within =
        let k = pass_each (leb 1 held) (leb held 5 ∷ leb 1 new ∷ leb new 4 ∷ []) (not-false inside h) in
        (leb-true 1 held k.0, leb-true held 5 k.1.0, leb-true 1 new k.1.1.0, leb-true new 4 k.1.1.1.0)

    pub in_table : eqb (get_or (get_or table (held - 1) []) (new - 1) 0) 1 ≡ refuses held new
    unfolding refuses
    in_table =
        let k = pass_each (leb 1 held) (leb held 5 ∷ leb 1 new ∷ leb new 4 ∷ []) (not-false inside h) in
        rw (k.0, k.1.1.0)
