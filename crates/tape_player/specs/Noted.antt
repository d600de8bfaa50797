-- The text of records in a row from what was noted of them: their answers, how many notices each gave, and the bytes of these.
use Rattle.std.specs.Prelude.{ℕ, ◌+◌, ◌*◌, ◌≤◌, List, [], ◌∷◌, ◌++◌, length, take, drop}
use Rattle.records.specs.Layout.{record_length}
use Rattle.records.specs.Notices.{rows}
use Rattle.tape_text.specs.Text.{record_line}
use Rattle.tape_reader.specs.declared.Reader.{Reader}
use Rattle.tape_reader.specs.Counts.{most_records, Sound}
use Rattle.tape_output.specs.Output.{row_lines}

-- a record's line, and those of the first n notices
abbrev pub noted_text : ℕ → ℕ → ℕ → List ℕ → List ℕ
noted_text place answer n notices = record_line place answer n ++ row_lines (rows n notices)

-- one record after another, behind a place of the tape; each has its notices behind those of the one before
abbrev pub noted_texts : ℕ → List ℕ → List ℕ → List ℕ → List ℕ
noted_texts place [] counts notices = []
noted_texts place (answer ∷ answers) [] notices = []
noted_texts place (answer ∷ answers) (n ∷ counts) notices =
    noted_text (place + 1) answer n notices ++ noted_texts (place + 1) answers counts (drop (record_length * n) notices)

abbrev pub sum : List ℕ → ℕ
sum [] = 0
sum (n ∷ ns) = n + sum ns

-- ---- what is asked where the text of some records is put: that they are noted, that the reader has so many left, and room
pub record Printable (reader : Reader) (played : ℕ) (answers₀ counts₀ notices₀ out : List ℕ) : Type 0 where
  pub sound : Sound reader
  pub within : reader.place + played ≤ most_records
  pub answers : played ≤ length answers₀
  pub counts : played ≤ length counts₀
  pub notices : record_length * sum (take played counts₀) ≤ length notices₀
  pub text : length (noted_texts reader.place (take played answers₀) (take played counts₀) notices₀) ≤ length out
