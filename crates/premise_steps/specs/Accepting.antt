-- What is asked where a record that no row refuses is done to a file.
use Rattle.std.specs.Prelude.{ℕ, ◌<◌, ◌≡◌, List, false, eqb, get_or}
use Rattle.lists.specs.Search.{count_of}
use Rattle.days.specs.Window.{LastInWindow}
use Rattle.records.specs.declared.Record.{Record}
use Rattle.premise.specs.declared.File.{File}
use Rattle.premise.specs.Orders.{most_orders, is_open, blank, held}
use Rattle.premise.specs.Steps.{requested_day, ordered, changed}
use Rattle.premise.specs.OnePremise.{followed}
use Rattle.premise.specs.Evaluation.{evaluated}
use Rattle.premise.specs.WellKept.{Tidy}
use Rattle.premise_notices.specs.declared.outbox.Outbox.{Outbox}
use Rattle.premise_notices.specs.Outboxes.{RoomIn}

-- a record that names an order, on the order at a place, with the last day in window
pub record AtPlace (calendar : List ℕ) (today last : ℕ) (f : File) (r : Record) (i : ℕ) (out : Outbox) : Type 0 where
  pub tidy : Tidy f
  pub within : i < f.count
  pub room : RoomIn out (followed (changed calendar today f r i (get_or (held f) i blank)) (evaluated calendar today)).notices
  pub window : LastInWindow calendar f.window today last

-- a new order, which finds a place on the stack and whose requested day is known
pub record WithPlace (calendar : List ℕ) (today : ℕ) (f : File) (r : Record) (requested : ℕ) (out : Outbox) : Type 0 where
  pub tidy : Tidy f
  pub place : eqb (count_of is_open (held f)) most_orders ≡ false
  pub day : requested ≡ requested_day calendar today r
  pub room : RoomIn out (followed (ordered calendar today f r) (evaluated calendar today)).notices
