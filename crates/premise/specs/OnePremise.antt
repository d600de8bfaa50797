-- Document 01, "The book": the one-premise rules. The same steps over T and one file or none, fed the calendar and, in tape order, the
-- premise's own records and the day marks, nothing from the book.
use Rattle.std.specs.Prelude.{ℕ, min, List, [], ◌∷◌, ◌++◌, cond, eqb}
use Rattle.std.specs.Prelude.{Option, Some, None}
use Rattle.days.specs.Days.{last_day}
use Rattle.records.specs.declared.Record.{Record}
use Rattle.records.specs.declared.Notice.{Notice}
use Rattle.records.specs.Records.{kind_create, kind_retire, kind_new_order, kind_day_mark, kind_agreement}
use Rattle.premise.specs.declared.File.{File}
use Rattle.std.specs.Prelude.{Ok}
use Rattle.premise.specs.Refusals.{Answer}
use Rattle.premise.specs.Orders.{held, kept_width}
use Rattle.premise.specs.Passes.{Effect, on_file}
use Rattle.premise.specs.Steps.{is, new_file, ordered, named, order_at, changed, agreed}
use Rattle.premise.specs.Clock.{clock}
use Rattle.premise.specs.Evaluation.{evaluated_with}
use Rattle.premise.specs.Refusals.{number, rows_with, first_row}

-- T, and a file or none
pub record State : Type 0 where
  pub today : ℕ
  pub file : Option File

-- what a record gives: the answer, its notices, and the state afterwards
pub record Given : Type 0 where
  pub answer : Answer
  pub notices : List Notice
  pub state : State

-- They start with the start day (4,095 if it is above) and no file.
abbrev pub start_state : ℕ → State
start_state start = record { today = min start last_day; file = None }

-- something done to a file, and then another thing: the notices of both
abbrev pub followed : Effect → (File → Effect) → Effect
followed first next = record { file = (next first.file).file; notices = first.notices ++ (next first.file).notices }

-- the day mark on a file: the clock, then the evaluation, by the new T
unfoldable pub marked_with : (File → ℕ) → List ℕ → ℕ → File → Effect
marked_with width calendar today f = followed (on_file f (clock calendar today f.premise (held f))) (evaluated_with width calendar today)

abbrev pub marked : List ℕ → ℕ → File → Effect
marked = marked_with kept_width

-- kinds 4 to 9 and 11 on the order that they name; without one they would not have been accepted
abbrev pub at_place : List ℕ → ℕ → File → Record → Option ℕ → Effect
at_place calendar today f r (Some i) = changed calendar today f r i (order_at (held f) (Some i))
at_place calendar today f r None = record { file = f; notices = [] }

-- an accepted record 3 to 9, or 11, on its file: the steps of its kind, then the evaluation
unfoldable pub stepped_with : (File → ℕ) → List ℕ → ℕ → File → Record → Effect
stepped_with width calendar today f r =
    followed (cond (is kind_new_order r) (ordered calendar today f r) (at_place calendar today f r (named r (held f))))
    (evaluated_with width calendar today)

abbrev pub stepped : List ℕ → ℕ → File → Record → Effect
stepped = stepped_with kept_width

-- .. and an agreement, which runs no evaluation
abbrev pub record_done_with : (File → ℕ) → List ℕ → ℕ → File → Record → Effect
record_done_with width calendar today f r = cond (is kind_agreement r) (agreed f r) (stepped_with width calendar today f r)

abbrev pub record_done : List ℕ → ℕ → File → Record → Effect
record_done = record_done_with kept_width

-- accepted, with the notices of its kind's steps
abbrev pub accepted : List Notice → State → Given
accepted notices after = record { answer = Ok tt; notices = notices; state = after }

-- refused: it changes nothing and gives no notice
abbrev pub refused : Answer → State → Given
refused answer s = record { answer = answer; notices = []; state = s }

-- the state in which a file is left
abbrev pub leaving : ℕ → Effect → Given
leaving today e = accepted e.notices (record { today = today; file = Some e.file })

-- What a record that meets no row does. Kind 1 makes the file ..
abbrev pub effect_on_none : ℕ → Record → Given
effect_on_none today r =
    cond (is kind_create r) (accepted [] (record { today = today; file = Some (new_file r) }))
    (accepted [] (record { today = cond (is kind_day_mark r) r.day today; file = None }))

-- .. kind 2 takes it away, kinds 3 to 9 end with its evaluation, and a day mark sets T and then, if there is a file, does its clock and
-- evaluation. Document 02, of kind 11: "it ends with the file's evaluation"; of kind 12: "the record runs no evaluation".
abbrev pub effect_on_file : (File → ℕ) → List ℕ → ℕ → File → Record → Given
effect_on_file width calendar today f r =
    cond (is kind_retire r) (accepted [] (record { today = today; file = None }))
    (cond (is kind_day_mark r) (leaving r.day (marked_with width calendar r.day f))
    (leaving today (record_done_with width calendar today f r)))

abbrev pub effect_on_with : (File → ℕ) → List ℕ → ℕ → Option File → Record → Given
effect_on_with width calendar today None r = effect_on_none today r
effect_on_with width calendar today (Some f) r = effect_on_file width calendar today f r

abbrev pub effect_on : List ℕ → ℕ → Option File → Record → Given
effect_on = effect_on_with kept_width

-- A record that meets a row gets the number of the first; any other gets 0 and what its kind does.
abbrev pub decide : Answer → Given → State → Given
decide answer done s = cond (eqb (number answer) 0) done (refused answer s)

unfoldable pub step_with : (File → ℕ) → List ℕ → State → Record → Given
step_with width calendar s r =
    decide (first_row (rows_with width calendar s.today s.file r)) (effect_on_with width calendar s.today s.file r) s

-- The rules in force: by the width that the file keeps.
abbrev pub step : List ℕ → State → Record → Given
step = step_with kept_width

-- the same on T and a file or none by themselves
abbrev pub given_on : List ℕ → ℕ → Option File → Record → Given
given_on calendar today file r = step calendar (record { today = today; file = file }) r

-- The run over a list of records: what each gives, in order, and the state at the end.
abbrev pub runs : List ℕ → State → List Record → List Given
runs calendar s [] = []
runs calendar s (r ∷ rs) = step calendar s r ∷ runs calendar (step calendar s r).state rs

abbrev pub end_state : List ℕ → State → List Record → State
end_state calendar s [] = s
end_state calendar s (r ∷ rs) = end_state calendar (step calendar s r).state rs
