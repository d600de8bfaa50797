-- What is to be done with a record, by what it says, T, and where its premise stands among a book's files or would stand; and what is
-- known then.
use Rattle.std.specs.Prelude.{ℕ, ◌+◌, ◌≤◌, ◌<◌, ◌≡◌, List, [], cond, eqb, get_or}
use Rattle.lists.specs.Search.{any_of}
use Rattle.lists.specs.Shift.{inserted, removed}
use Rattle.records.specs.declared.Record.{Record}
use Rattle.std.specs.Prelude.{Option, Some, None}
use Rattle.records.specs.Records.{reading, kind_create, kind_retire}
use Rattle.premise.specs.declared.File.{File}
use Rattle.std.specs.Prelude.{Ok, Err}
use Rattle.premise.specs.declared.Refusal.{Refusal}
use Rattle.premise.specs.declared.Refusal.TheVariants.{MalformedRecord, NoSuchPremise, PremiseHeld, BookFull, OrderOpen, NotNextDay}
use Rattle.premise.specs.Orders.{is_open, held}
use Rattle.premise.specs.Steps.{is, new_file}
use Rattle.premise.specs.Refusals.{needs_premise}
use Rattle.book.specs.declared.Book.{Book}
use Rattle.book.specs.Book.{most_files, files_of, book_of}
use Rattle.book.specs.Calls.{Result, refusal, marked_book}
use Rattle.book.specs.CallsInRow.{called}
use Rattle.book.specs.Laws.{OnHeld}
use Rattle.book_player.specs.declared.dispatch.Task.{Task}
use Rattle.book_player.specs.declared.dispatch.Task.TheVariants.{Refused, Opens, Closes, OnFile, NextDay}

-- ---- what is to be done
-- the premise that a record names; 0, which is no premise's number, where it names none
abbrev pub premise_in : Option Record → ℕ
premise_in None = 0
premise_in (Some r) = r.premise

-- a create: rows 5 and 6; the premise is held exactly if the number at its place is its own
abbrev pub on_new : Record → ℕ → ℕ → ℕ → Task
on_new r count at there =
    cond (eqb there r.premise) (Refused PremiseHeld) (cond (eqb count most_files) (Refused BookFull) (Opens at r))

-- a record that needs a premise: row 4; a retire takes the file out of the book, any other leaves it there
abbrev pub on_held : Record → ℕ → ℕ → Task
on_held r at there = cond (eqb there r.premise) (cond (is kind_retire r) (Closes at) (OnFile at r)) (Refused NoSuchPremise)

-- a day mark: row 15
abbrev pub on_mark : ℕ → ℕ → Task
on_mark today day = cond (eqb day (today + 1)) (NextDay day) (Refused NotNextDay)

-- by the kind
abbrev pub task_for : ℕ → ℕ → ℕ → ℕ → Record → Task
task_for today count at there r =
    cond (is kind_create r) (on_new r count at there) (cond (needs_premise r) (on_held r at there) (on_mark today r.day))

-- row 3
abbrev pub task_of : ℕ → ℕ → ℕ → ℕ → Option Record → Task
task_of today count at there None = Refused MalformedRecord
task_of today count at there (Some r) = task_for today count at there r

-- ---- what is known then of a record on a book
-- a create: a new file stands at the place
abbrev pub opening : Book → ℕ → Record → Result
opening b at r = record { answer = Ok tt; notices = []; book = book_of b.today (inserted at (new_file r) (files_of b)) }

-- a retire of the file that stands at a place: row 7, then it leaves
abbrev pub closing : Book → ℕ → File → Result
closing b at f =
    cond (any_of is_open (held f)) (refusal (Err OrderOpen) b)
    (record { answer = Ok tt; notices = []; book = book_of b.today (removed at (files_of b)) })

-- it is refused
pub record KnownRefused (bytes : List ℕ) (b : Book) (why : Refusal) : Type 0 where
  pub result : (calendar : List ℕ) → called calendar b bytes ≡ refusal (Err why) b

-- it opens a place, and one is free
pub record KnownOpens (bytes : List ℕ) (b : Book) (at : ℕ) (r : Record) : Type 0 where
  pub within : at ≤ b.count
  pub free : b.count < most_files
  pub result : (calendar : List ℕ) → called calendar b bytes ≡ opening b at r

-- it closes a place, unless an order is open
pub record KnownCloses (bytes : List ℕ) (b : Book) (past : File) (at : ℕ) : Type 0 where
  pub within : at < b.count
  pub result : (calendar : List ℕ) → called calendar b bytes ≡ closing b at (get_or b.files at past)

-- its premise is held at a place
pub record KnownHeld (bytes : List ℕ) (b : Book) (past : File) (at : ℕ) (r : Record) : Type 0 where
  pub says : reading bytes ≡ Some r
  pub held : OnHeld b at past r

-- it marks the next day: every file of the book is marked
pub record KnownMark (bytes : List ℕ) (b : Book) (day : ℕ) : Type 0 where
  pub result : (calendar : List ℕ) → called calendar b bytes ≡ marked_book calendar b day

-- `past` is what a read past the last place would give, of which none comes
abbrev pub Known : List ℕ → Book → File → Task → Type 0
Known bytes b past (Refused why) = KnownRefused bytes b why
Known bytes b past (Opens at r) = KnownOpens bytes b at r
Known bytes b past (Closes at) = KnownCloses bytes b past at
Known bytes b past (OnFile at r) = KnownHeld bytes b past at r
Known bytes b past (NextDay day) = KnownMark bytes b day
