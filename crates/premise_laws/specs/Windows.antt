-- Document 02, change 2, "A window per premise": which width a file has after a step, and that on files of one width the rules by the kept
-- width are those with that width throughout; proofs/Windows.antt proves each.
use Rattle.std.specs.Prelude.{ℕ, ◌≡◌, List}
use Rattle.std.specs.Prelude.{Option, Some, None}
use Rattle.records.specs.declared.Record.{Record}
use Rattle.premise.specs.declared.File.{File}
use Rattle.premise.specs.Orders.{kept_width, always}
use Rattle.premise.specs.Steps.{width_for}
use Rattle.premise.specs.Refusals.{file_rows_with}
use Rattle.premise.specs.OnePremise.{State, marked_with, step_with}
use Rattle.premise_laws.specs.Laws.{Held}

-- a file keeps a width
abbrev pub OfWidth : ℕ → File → Type 0
OfWidth n f = f.window ≡ n

-- ---- the width afterwards, whatever the width that the rules go by
-- A record leaves the width of its premise's file: it can't be changed but by a retire and a create ..
abbrev pub StepLeavesWidth : Type 0
StepLeavesWidth =
    (width : File → ℕ) (calendar : List ℕ) (today : ℕ) (f : File) (r : Record)
    → Held (OfWidth f.window) (step_with width calendar (record { today = today; file = Some f }) r).state.file

-- .. and the file that it makes where there was none has its detail, 2 for 0.
abbrev pub CreateGivesWidth : Type 0
CreateGivesWidth =
    (width : File → ℕ) (calendar : List ℕ) (today : ℕ) (r : Record)
    → Held (OfWidth (width_for r.detail)) (step_with width calendar (record { today = today; file = None }) r).state.file

abbrev pub MarkLeavesWidth : Type 0
MarkLeavesWidth =
    (width : File → ℕ) (calendar : List ℕ) (today : ℕ) (f : File) → OfWidth f.window (marked_with width calendar today f).file

-- ---- on a file of a width, and on none, the two families of rules are one
abbrev pub RowsOfWidth : Type 0
RowsOfWidth =
    (n : ℕ) (calendar : List ℕ) (today : ℕ) (file : Option File) (r : Record) → Held (OfWidth n) file
    → file_rows_with kept_width calendar today file r ≡ file_rows_with (always n) calendar today file r

abbrev pub StepOfWidth : Type 0
StepOfWidth =
    (n : ℕ) (calendar : List ℕ) (s : State) (r : Record) → Held (OfWidth n) s.file
    → step_with kept_width calendar s r ≡ step_with (always n) calendar s r

abbrev pub MarkOfWidth : Type 0
MarkOfWidth =
    (n : ℕ) (calendar : List ℕ) (today : ℕ) (f : File) → OfWidth n f
    → marked_with kept_width calendar today f ≡ marked_with (always n) calendar today f
