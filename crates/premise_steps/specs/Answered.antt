-- What a record that leaves its premise's file asks of the file and the outbox that it is lent, and what is promised of it.
use Rattle.std.specs.Prelude.{ℕ, ◌≡◌, List}
use Rattle.std.specs.Prelude.{Some}
use Rattle.records.specs.declared.Record.{Record}
use Rattle.premise.specs.declared.File.{File}
use Rattle.premise.specs.Refusals.{Answer}
use Rattle.premise.specs.OnePremise.{Given, given_on}
use Rattle.premise.specs.WellKept.{Tidy}
use Rattle.premise_notices.specs.declared.outbox.Outbox.{Outbox}
use Rattle.premise_notices.specs.Outboxes.{RoomIn, Sends}

-- a record on a file: a tidy file, and room for the notices that come of it
pub record OnFile (calendar : List ℕ) (today : ℕ) (f : File) (r : Record) (out : Outbox) : Type 0 where
  pub tidy : Tidy f
  pub room : RoomIn out (given_on calendar today (Some f) r).notices

-- The answer, the file and the notices are those given. Where a record is refused, what is given is the file as it was, and no notice.
pub record Answered (given : Given) (answer : Answer) (file : File) (before after : Outbox) : Type 0 where
  pub answered : answer ≡ given.answer
  pub file_after : Some file ≡ given.state.file
  pub sends : Sends before after given.notices
