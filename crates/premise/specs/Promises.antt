-- What the functions of this layer promise of the buffer that they are lent, and what they ask of a record.
use Rattle.std.specs.Prelude.{ℕ, ◌+◌, ◌*◌, ◌≤◌, ◌≡◌, List, ◌++◌, true, false, length, take, drop}
use Rattle.records.specs.declared.Record.{Record}
use Rattle.records.specs.declared.Notice.{Notice}
use Rattle.records.specs.Layout.{record_length}
use Rattle.records.specs.Notices.{encode_all}
use Rattle.records.specs.Records.{kind_retire}
use Rattle.premise.specs.Steps.{is}
use Rattle.premise.specs.Refusals.{needs_premise}

-- room for some notices behind those that stand in the buffer already
abbrev pub Room : ℕ → List Notice → List ℕ → Type 0
Room standing notices buffer = record_length * (standing + length notices) ≤ length buffer

-- Each notice goes behind those that stand in the buffer: these stay, the new ones follow, and the rest stays.
pub record Writes (standing : ℕ) (before after : List ℕ) (n : ℕ) (notices : List Notice) : Type 0 where
  pub count : n ≡ standing + length notices
  pub bytes : after ≡ take (record_length * standing) before ++ encode_all notices ++ drop (record_length * (standing + length notices)) before

-- a record of a premise that is held, which leaves its file in the book: every kind that needs a premise but the retire
pub record StaysHeld (r : Record) : Type 0 where
  pub needs : needs_premise r ≡ true
  pub stays : is kind_retire r ≡ false
