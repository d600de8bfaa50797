-- A record's rules and a directory's, test by test. Assumes nothing.
use Prim.Native.Nat.{ℕ, ◌%◌}
use mathlib.Core.Path.{◌≡◌}
use mathlib.Core.List.{List}
use mathlib.Core.Bool.{true, false, and-false}
use lib.Dec.{eqb}
use lib.ListN.{length, take}
use borrow.Author.Tests.{eq-eqb, ne_eqb}
use Rattle.lists.specs.Search.{all_of}
use Rattle.records.specs.Layout.{record_length, field_of}
use Rattle.esi_rules.specs.Directory.{id_width, zero_field, records, digit_count, premise_of, is_count, halves_kept, record_kept, none_twice}
use Rattle.esi_rules.specs.Directory.{sound}

-- ---- a record's
module _ (row : List ℕ) where
  pub record_count : is_count (digit_count row) ≡ false → record_kept row ≡ false
  unfolding record_kept
  record_count h = rw h

  pub record_halves : halves_kept (digit_count row) (take id_width row) ≡ false → record_kept row ≡ false
  unfolding record_kept
  record_halves h = simp (h, and-false)

  pub record_premise : premise_of row ≡ 0 → record_kept row ≡ false
  unfolding record_kept
  record_premise h = simp (eq-eqb (premise_of row) 0 h, and-false)

  pub record_rest : is_count (digit_count row) ≡ true → halves_kept (digit_count row) (take id_width row) ≡ true → (premise_of row ≡ 0 → ⊥)
      → record_kept row ≡ eqb (field_of zero_field row) 0
  unfolding record_kept
  record_rest c h p = simp (c, h, ne_eqb (premise_of row) 0 p)

-- ---- a directory's
module _ (directory : List ℕ) where
  pub sound-length : (length directory % record_length ≡ 0 → ⊥) → sound directory ≡ false
  unfolding sound
  sound-length h = rw (ne_eqb (length directory % record_length) 0 h)

  pub sound_records : all_of record_kept (records directory) ≡ false → sound directory ≡ false
  unfolding sound
  sound_records h = simp (h, and-false)

  pub sound_rest : length directory % record_length ≡ 0 → all_of record_kept (records directory) ≡ true
      → sound directory ≡ none_twice (records directory)
  unfolding sound
  sound_rest l h = simp (eq-eqb (length directory % record_length) 0 l, h)
