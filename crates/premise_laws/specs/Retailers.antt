-- Document 02, change 7, "Thirteen-digit retailers": no step makes a retailer that was in no record, so that with retailers up to a number
-- in the records there are none above it in the file and in the notices; and a file of retailers up to the narrow limit is well kept by
-- either layout. proofs/Retailers.antt proves each.
use Rattle.std.specs.Prelude.{ℕ, ◌≤◌, ◌≡◌, List}
use Rattle.lists.specs.Search.{Each}
use Rattle.records.specs.declared.Record.{Record}
use Rattle.records.specs.Layout.{wide, narrow}
use Rattle.records.specs.Widths.{NamesUpTo, ToUpTo}
use Rattle.premise.specs.declared.Order.{Order}
use Rattle.premise.specs.declared.File.{File}
use Rattle.premise.specs.Orders.{held}
use Rattle.premise.specs.Passes.{Effect}
use Rattle.premise.specs.OnePremise.{State, Given, marked_with, step_with}
use Rattle.premise.specs.WellKept.{file_kept_by}
use Rattle.premise_laws.specs.Laws.{Held}

-- the stored retailers up to a number: each held Q, R and C
abbrev pub OfUpTo : ℕ → Order → Type 0
OfUpTo last o = o.submitter ≤ last

pub record RetailersUpTo (last : ℕ) (f : File) : Type 0 where
  pub retailer : f.retailer ≤ last
  pub agreement : f.agreement ≤ last
  pub submitters : Each (OfUpTo last) (held f)

-- a file and the notices to go with it, without a retailer above a number; and the same of what the one-premise rules give
pub record LeavesUpTo (last : ℕ) (e : Effect) : Type 0 where
  pub file : RetailersUpTo last e.file
  pub notices : Each (ToUpTo last) e.notices

pub record GivesUpTo (last : ℕ) (given : Given) : Type 0 where
  pub file : Held (RetailersUpTo last) given.state.file
  pub notices : Each (ToUpTo last) given.notices

-- No step makes a retailer, whatever the number and whatever the width that the rules go by ..
abbrev pub StepMakesNoRetailer : Type 0
StepMakesNoRetailer =
    (last : ℕ) (width : File → ℕ) (calendar : List ℕ) (s : State) (r : Record)
    → NamesUpTo last r → Held (RetailersUpTo last) s.file → GivesUpTo last (step_with width calendar s r)

-- .. and no mark does.
abbrev pub MarkMakesNoRetailer : Type 0
MarkMakesNoRetailer =
    (last : ℕ) (width : File → ℕ) (calendar : List ℕ) (today : ℕ) (f : File)
    → RetailersUpTo last f → LeavesUpTo last (marked_with width calendar today f)

-- A file of retailers up to the narrow limit is well kept by the one layout exactly where it is by the other.
abbrev pub KeptByEither : Type 0
KeptByEither = (f : File) → RetailersUpTo narrow.last_retailer f → file_kept_by narrow f ≡ file_kept_by wide f
