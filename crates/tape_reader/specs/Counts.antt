-- Document 01, "The tape program": its tape reader (place, accepted, refused).
use Rattle.std.specs.Prelude.{ℕ, ◌+◌, ◌<◌, ◌≡◌, cond, eqb}
use Rattle.tape_reader.specs.declared.Reader.{Reader}

-- the first 65,520 bytes of a tape hold at most so many records
abbrev pub most_records : ℕ
most_records = 2730

-- one record on, counted by its answer
unfoldable pub counted : Reader → ℕ → Reader
counted r answer =
    cond (eqb answer 0)
    (record { place = r.place + 1; accepted = r.accepted + 1; refused = r.refused })
    (record { place = r.place + 1; accepted = r.accepted; refused = r.refused + 1 })

-- every record up to the place was accepted or refused
abbrev pub Sound : Reader → Type 0
Sound r = r.accepted + r.refused ≡ r.place

-- .. and a record is left to play, so that no count leaves its range
pub record Within (r : Reader) : Type 0 where
  pub sound : Sound r
  pub left : r.place < most_records

-- Every step leaves a sound reader; proofs/Counts.antt proves it.
abbrev pub CountedSound : Type 0
CountedSound = (r : Reader) (answer : ℕ) → Sound r → Sound (counted r answer)
