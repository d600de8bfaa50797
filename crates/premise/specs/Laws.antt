-- What the layer above relies on about one premise, as statements; proofs/ proves each. The book opens none of the rules themselves. What
-- every step leaves and gives is stated in `premise_laws`.
use Rattle.std.specs.Prelude.{ℕ, ◌+◌, ◌<◌, ◌≡◌, ◌↔◌, List, [], ◌∷◌, ◌++◌, map, true, false, cond, eqb}
use Rattle.std.specs.Prelude.{Option, Some, None}
use Rattle.lists.specs.Search.{any_of, count_of}
use Rattle.records.specs.declared.Record.{Record}
use Rattle.records.specs.Records.{kind_create, kind_retire, kind_new_order, kind_day_mark}
use Rattle.premise.specs.declared.Order.{Order}
use Rattle.premise.specs.declared.File.{File}
use Rattle.std.specs.Prelude.{Ok, Err}
use Rattle.premise.specs.Refusals.{Answer}
use Rattle.premise.specs.declared.Refusal.TheVariants.{ShortBuffer, NotWellKept, MalformedRecord, NoSuchPremise, PremiseHeld, BookFull}
use Rattle.premise.specs.declared.Refusal.TheVariants.{NotNextDay}
use Rattle.premise.specs.Orders.{most_orders, most_of_one, is_open, open_of, blank_file}
use Rattle.premise.specs.Steps.{is}
use Rattle.premise.specs.WellKept.{file_kept, file_blank, FileKept}
use Rattle.premise.specs.Refusals.{Row, number, needs_premise, premise_rows, order_rows, rows, first_row, from_row, is_held}
use Rattle.premise.specs.OnePremise.{State, Given, accepted, refused, leaving, marked, step}

-- ---- well kept
-- the test and the facts behind it say the same
abbrev pub KeptMeans : Type 0
KeptMeans = (f : File) → (file_kept f ≡ true) ↔ FileKept f

-- zero in every field is the blank file
abbrev pub BlankMeans : Type 0
BlankMeans = (f : File) → (file_blank f ≡ true) ↔ (f ≡ blank_file)

-- ---- the answer
-- the answer is that of the first row that holds
abbrev pub AnswerIsFirstRow : Type 0
AnswerIsFirstRow = (calendar : List ℕ) (s : State) (r : Record)
    → (step calendar s r).answer ≡ first_row (rows calendar s.today s.file r)

-- the answer is 0 exactly where no row holds
abbrev pub ZeroWhereNoRow : Type 0
ZeroWhereNoRow =
    (calendar : List ℕ) (s : State) (r : Record)
    → (number (step calendar s r).answer ≡ 0) ↔ (any_of (λ (x : Row). x.when) (rows calendar s.today s.file r) ≡ false)

-- a refusal changes nothing and gives no notice
pub record Untouched (s : State) (given : Given) : Type 0 where
  pub state : given.state ≡ s
  pub silent : given.notices ≡ []

abbrev pub RefusalChangesNothing : Type 0
RefusalChangesNothing =
    (calendar : List ℕ) (s : State) (r : Record) → eqb (number (step calendar s r).answer) 0 ≡ false → Untouched s (step calendar s r)

-- .. so a refusal is its answer and nothing else
abbrev pub RefusalIs : Type 0
RefusalIs =
    (calendar : List ℕ) (s : State) (r : Record) → eqb (number (step calendar s r).answer) 0 ≡ false
    → step calendar s r ≡ refused (step calendar s r).answer s

-- of all answers only acceptance has the number 0
abbrev pub AcceptedIsZero : Type 0
AcceptedIsZero = (answer : Answer) → (number answer ≡ 0) ↔ (answer ≡ Ok tt)

-- The rows' numbers in the table's order: those of the one-premise rules ..
abbrev pub row_numbers : List Row → List ℕ
row_numbers rs = map (λ (x : Row). number x.answer) rs

abbrev pub PremiseRowNumbers : Type 0
PremiseRowNumbers = (file : Option File) (r : Record) → row_numbers (premise_rows file r) ≡ 4 ∷ 18 ∷ 5 ∷ []

abbrev pub OrderRowNumbers : Type 0
OrderRowNumbers =
    (width : ℕ) (calendar : List ℕ) (today : ℕ) (os : List Order) (r : Record)
    → row_numbers (order_rows width calendar today os r) ≡ 7 ∷ 8 ∷ 9 ∷ 10 ∷ 11 ∷ 26 ∷ 12 ∷ 13 ∷ 14 ∷ 16 ∷ 17 ∷ 15 ∷ []

-- .. and of the answers that the book's own rows give.
abbrev pub BookAnswers : Type 0
BookAnswers = map number (Err ShortBuffer ∷ Err NotWellKept ∷ Err MalformedRecord ∷ Err BookFull ∷ []) ≡ 1 ∷ 2 ∷ 3 ∷ 6 ∷ []

-- From 26 on none holds for a new order where fewer than 8 orders are open, and fewer than 4 of them its Q's.
abbrev pub RoomFrom26 : Type 0
RoomFrom26 =
    (width : ℕ) (calendar : List ℕ) (today : ℕ) (os : List Order) (r : Record) → is kind_new_order r ≡ true
    → open_of r.retailer os < most_of_one → count_of is_open os < most_orders
    → any_of (λ (x : Row). x.when) (from_row 26 (order_rows width calendar today os r)) ≡ false

-- of all answers only a full book has the number 6, and the one-premise rules have no such row
abbrev pub FullIsSix : Type 0
FullIsSix = (answer : Answer) → (number answer ≡ 6) ↔ (answer ≡ Err BookFull)

abbrev pub NoRow6 : Type 0
NoRow6 = (calendar : List ℕ) (today : ℕ) (file : Option File) (r : Record) → first_row (rows calendar today file r) ≡ Err BookFull → ⊥

-- rows 4, 18 and 5 do not hold for a create of a premise without a file
abbrev pub CreatePasses : Type 0
CreatePasses = (r : Record) (more : List Row) → is kind_create r ≡ true → first_row (premise_rows None r ++ more) ≡ first_row more

-- for a record that needs a premise, of one without a file, row 4 is the first that holds, whatever rows come after it
abbrev pub NeedsFile : Type 0
NeedsFile = (r : Record) (more : List Row) → needs_premise r ≡ true → first_row (premise_rows None r ++ more) ≡ Err NoSuchPremise

-- for a create of a premise with a file row 5 is the first that holds, whatever rows come after it
abbrev pub CreateHeld : Type 0
CreateHeld = (f : File) (r : Record) (more : List Row) → is kind_create r ≡ true → first_row (premise_rows (Some f) r ++ more) ≡ Err PremiseHeld

-- ---- the day
-- only a day mark changes T
abbrev pub OnlyMarksMove : Type 0
OnlyMarksMove = (calendar : List ℕ) (s : State) (r : Record) → is kind_day_mark r ≡ false → (step calendar s r).state.today ≡ s.today

-- a day mark on a file or none
abbrev pub marked_or : List ℕ → ℕ → Option File → Given
marked_or calendar day None = accepted [] (record { today = day; file = None })
marked_or calendar day (Some f) = leaving day (marked calendar day f)

-- a day mark is taken on the day after T, whatever the file, and refused with 15 on any other
abbrev pub MarkStep : Type 0
MarkStep =
    (calendar : List ℕ) (s : State) (r : Record) → is kind_day_mark r ≡ true
    → step calendar s r ≡ cond (eqb r.day (s.today + 1)) (marked_or calendar r.day s.file) (refused (Err NotNextDay) s)

-- ---- the file
-- only a create makes a file
abbrev pub OnlyCreateMakes : Type 0
OnlyCreateMakes = (calendar : List ℕ) (today : ℕ) (r : Record) → is kind_create r ≡ false
    → (step calendar (record { today = today; file = None }) r).state.file ≡ None

-- only a retire takes a file away
abbrev pub OnlyRetireTakes : Type 0
OnlyRetireTakes = (calendar : List ℕ) (today : ℕ) (f : File) (r : Record) → is kind_retire r ≡ false
    → is_held (step calendar (record { today = today; file = Some f }) r).state.file ≡ true
