-- What the layer above relies on about the steps of one premise, as statements; proofs/ proves each: every step leaves a well_kept file, in
-- which no retailer has more open orders than its share where none had, tells of that premise alone, and gives few notices.
use Rattle.std.specs.Prelude.{ℕ, ◌+◌, ◌*◌, ◌≤◌, ◌≡◌, List, true, false, length}
use Rattle.std.specs.Prelude.{Option, Some, None}
use Rattle.lists.specs.Search.{Each}
use Rattle.records.specs.declared.Record.{Record}
use Rattle.records.specs.declared.Notice.{Notice}
use Rattle.records.specs.Records.{kind_day_mark, well_formed}
use Rattle.premise.specs.declared.File.{File}
use Rattle.premise.specs.Orders.{most_orders, most_of_one, open_of, held}
use Rattle.premise.specs.Steps.{is}
use Rattle.premise.specs.WellKept.{FileKept}
use Rattle.premise.specs.OnePremise.{State, marked, step}

-- a property of the file, where there is one
abbrev pub Held : (File → Type 0) → Option File → Type 0
Held P None = Unit {0}
Held P (Some f) = P f

-- ---- well kept
-- a file is of a premise and well kept
pub record KeptFor (premise : ℕ) (f : File) : Type 0 where
  pub number : f.premise ≡ premise
  pub kept : FileKept f

-- every step leaves a well_kept file of the same premise, or none
abbrev pub StepKeeps : Type 0
StepKeeps =
    (calendar : List ℕ) (s : State) (r : Record) (premise : ℕ)
    → well_formed r ≡ true → (is kind_day_mark r ≡ false → r.premise ≡ premise)
    → Held (KeptFor premise) s.file → Held (KeptFor premise) (step calendar s r).state.file

abbrev pub MarkKeeps : Type 0
MarkKeeps = (calendar : List ℕ) (today : ℕ) (f : File) (premise : ℕ) → KeptFor premise f → KeptFor premise (marked calendar today f).file

-- ---- document 02, change 12: no retailer fills a flat's stack
-- a retailer has at most 4 open orders in a file
abbrev pub WithinShare : ℕ → File → Type 0
WithinShare retailer f = open_of retailer (held f) ≤ most_of_one

-- Every step by a well-formed record leaves such a file, or none, from a well_kept one. (`step` is total: a record of a kind that no row
-- knows would be done as a cancel reply, and could open a closed order.)
abbrev pub StepKeepsShares : Type 0
StepKeepsShares =
    (calendar : List ℕ) (s : State) (r : Record) (retailer : ℕ)
    → well_formed r ≡ true → Held FileKept s.file
    → Held (WithinShare retailer) s.file → Held (WithinShare retailer) (step calendar s r).state.file

abbrev pub MarkKeepsShares : Type 0
MarkKeepsShares =
    (calendar : List ℕ) (today : ℕ) (f : File) (retailer : ℕ) → FileKept f
    → WithinShare retailer f → WithinShare retailer (marked calendar today f).file

-- ---- the notices
-- a notice of a premise
abbrev pub Of : ℕ → Notice → Type 0
Of premise n = n.premise ≡ premise

-- every notice carries the premise's number
abbrev pub StepNotices : Type 0
StepNotices =
    (calendar : List ℕ) (s : State) (r : Record) (premise : ℕ) → Held (λ f. f.premise ≡ premise) s.file
    → Each (Of premise) (step calendar s r).notices

abbrev pub MarkNotices : Type 0
MarkNotices = (calendar : List ℕ) (today : ℕ) (f : File) → Each (Of f.premise) (marked calendar today f).notices

-- a day mark gives at most two notices for each held order
abbrev pub MarkFew : Type 0
MarkFew = (calendar : List ℕ) (today : ℕ) (f : File) → FileKept f → length (marked calendar today f).notices ≤ 2 * length (held f)

-- any other record gives at most two, and two for each order that is then held
abbrev pub most_of_record : ℕ
most_of_record = 2 + 2 * most_orders

abbrev pub StepFew : Type 0
StepFew =
    (calendar : List ℕ) (s : State) (r : Record) → well_formed r ≡ true → is kind_day_mark r ≡ false → Held FileKept s.file
    → length (step calendar s r).notices ≤ most_of_record
