-- What a set piece is. Each is data: a name, what is handed in, and what must come out. What must come out is written in numbers and in the
-- names of document 01's numbers, and not by the rules' own functions, which could be wrong on both sides.
use Rattle.std.specs.Prelude.{ℕ, zero, suc, ◌+◌, ◌-◌, List, [], ◌∷◌, ◌++◌, map, Bool, true, false, not, ◌&&◌, eqb, length, replicate}
use Prim.Native.String.{String}
use Rattle.std.specs.Prelude.{Option, Some, None}
use Rattle.lists.specs.Search.{any_of, all_of}
use Rattle.days.specs.Days.{kind_of_day, is_business_day, switch_date}
use Rattle.days.specs.Window.{in_window}
use Rattle.days.specs.Window as window
use Rattle.days.specs.Pieces as days
use Rattle.records.specs.declared.Record.{Record}
use Rattle.records.specs.declared.Notice.{Notice}
use Rattle.records.specs.Records.{kind_create, kind_retire, kind_new_order, kind_scheduled, kind_permit, kind_unexecutable, kind_read, kind_cancel}
use Rattle.records.specs.Records.{kind_reply, kind_day_mark, kind_date_change, kind_agreement, establish, delete}
use Rattle.premise.specs.declared.Order.{Order}
use Rattle.premise.specs.declared.File.{File}
use Rattle.premise.specs.Orders.{business_days, calendar_days, places, with_supply, with_agreement}
use Rattle.premise.specs.Steps.{requested_day, make_room, ordered, taken, on_scheduled, on_permit, on_unexecutable, on_read, supplied}
use Rattle.premise.specs.Steps.{on_cancel, on_reply, on_order, on_date_change, on_named, changed, agreed}
use Rattle.premise.specs.Clock.{reviewed, permit_awaited, cancel_awaited, ticked}
use Rattle.premise.specs.Evaluation.{contends, switch_of_day, gives_way, same_day_switch, is_displaced, drop_on_switch_day, is_overtaken}
use Rattle.premise.specs.Evaluation.{permit_overtaken, is_due, loss_notice, evaluation}
use Rattle.premise.specs.FirstIn.{refuses, stands_in_way, not_first_in}
use Rattle.premise.specs.WellKept.{order_kept_by, order_kept, is_blank, file_kept_by, file_kept, file_blank}
use Rattle.premise.specs.Refusals.{number, premise_rows, order_rows, orders_of}
use Rattle.premise.specs.OnePremise.{State, Given, start_state, marked_with, stepped_with, step_with, step, runs, end_state}

-- ---- records in the trade's words, all for premise 7
-- a create with its detail, the window
abbrev pub create_wide : ℕ → ℕ → ℕ → Record
create_wide window day retailer =
    record { kind = kind_create; detail = window; day = day; reference = 0; premise = 7; retailer = retailer }

abbrev pub create : ℕ → ℕ → Record
create day retailer = create_wide 0 day retailer

abbrev pub retire : Record
retire = record { kind = kind_retire; detail = 0; day = 0; reference = 0; premise = 7; retailer = 0 }

-- an order of a kind, for a day, with a reference and its retailer
abbrev pub order : ℕ → ℕ → ℕ → ℕ → Record
order kind day reference retailer =
    record { kind = kind_new_order; detail = kind; day = day; reference = reference; premise = 7; retailer = retailer }

-- a record that names an order: its kind, detail, day, reference and retailer
abbrev on : ℕ → ℕ → ℕ → ℕ → ℕ → Record
on kind detail day reference retailer =
    record { kind = kind; detail = detail; day = day; reference = reference; premise = 7; retailer = retailer }

abbrev pub schedule : ℕ → ℕ → Record
schedule reference day = on kind_scheduled 0 day reference 0

abbrev pub permit : ℕ → Record
permit reference = on kind_permit 0 0 reference 0

abbrev pub unexecuted : ℕ → Record
unexecuted reference = on kind_unexecutable 0 0 reference 0

abbrev pub read : ℕ → ℕ → Record
read reference day = on kind_read 0 day reference 0

abbrev pub cancel : ℕ → ℕ → Record
cancel reference retailer = on kind_cancel 0 0 reference retailer

abbrev pub reply : ℕ → ℕ → Record
reply detail reference = on kind_reply detail 0 reference 0

-- a date change of an order to a day, with its counter
abbrev pub redate : ℕ → ℕ → ℕ → Record
redate reference day counter = on kind_date_change 0 day reference counter

abbrev pub mark : ℕ → Record
mark day = record { kind = kind_day_mark; detail = 0; day = day; reference = 0; premise = 0; retailer = 0 }

-- an agreement established with a retailer, or deleted
abbrev agreement : ℕ → ℕ → Record
agreement detail retailer =
    record { kind = kind_agreement; detail = detail; day = 0; reference = 0; premise = 7; retailer = retailer }

abbrev pub establishes : ℕ → Record
establishes retailer = agreement establish retailer

abbrev pub deletes : ℕ → Record
deletes retailer = agreement delete retailer

-- so many marks, the first on a day
abbrev pub marks : ℕ → ℕ → List Record
marks zero first = []
marks (suc many) first = mark first ∷ marks many (suc first)

-- so many business days, the first of them 0
abbrev pub business : ℕ → List ℕ
business many = replicate many 0

-- the days 0 to 15, all of them business days; the same with another kind of day on 10
abbrev pub plain : List ℕ
plain = business 16

abbrev pub with10 : ℕ → List ℕ
with10 kind = business 10 ++ (kind ∷ []) ++ business 5

-- ---- an order in every field, a file, and T with a file or none
-- reference, K, Q, RD, SD, status, N, W, told; no date change was taken
abbrev pub stands : ℕ → ℕ → ℕ → ℕ → ℕ → ℕ → ℕ → ℕ → ℕ → Order
stands reference kind submitter requested for status waited pending told =
    record {
      reference = reference;
      kind = kind;
      submitter = submitter;
      requested = requested;
      scheduled = for;
      status = status;
      waited = business_days waited;
      pending = calendar_days pending;
      told = told;
      counter = 0;
    }

-- the same with a counter of date changes
abbrev pub counted : ℕ → Order → Order
counted counter o =
    record {
      reference = o.reference;
      kind = o.kind;
      submitter = o.submitter;
      requested = o.requested;
      scheduled = o.scheduled;
      status = o.status;
      waited = o.waited;
      pending = o.pending;
      told = o.told;
      counter = counter;
    }

-- a place that is not used
abbrev pub zeros : Order
zeros = stands 0 0 0 0 0 0 0 0 0

-- the file of premise 7: R, S and its orders; its window is 2, the owner has no agreement, and R came by no move in on S
abbrev pub file : ℕ → ℕ → List Order → File
file retailer since os =
    record {
      premise = 7;
      retailer = retailer;
      since = since;
      window = 2;
      agreement = 0;
      entered = 0;
      count = length os;
      orders = os ++ replicate (8 - length os) zeros;
    }

-- the same with another window
abbrev pub with_window : ℕ → File → File
with_window window f =
    record {
      premise = f.premise;
      retailer = f.retailer;
      since = f.since;
      window = window;
      agreement = f.agreement;
      entered = f.entered;
      count = f.count;
      orders = f.orders;
    }

-- the same where R came by a move in that was read on S
abbrev pub entered_file : File → File
entered_file f = with_supply f f.retailer f.since 1

-- T and such a file; T and no file
abbrev pub state : ℕ → ℕ → ℕ → List Order → State
state today retailer since os = record { today = today; file = Some (file retailer since os) }

-- the same with an agreement with a retailer
abbrev pub state_with : ℕ → ℕ → ℕ → ℕ → List Order → State
state_with agreement today retailer since os = record { today = today; file = Some (with_agreement (file retailer since os) agreement) }

-- an agreement with a retailer or 0, and R by a move in that was read on S
abbrev pub state_entered : ℕ → ℕ → ℕ → ℕ → List Order → State
state_entered agreement today retailer since os =
    record { today = today; file = Some (entered_file (with_agreement (file retailer since os) agreement)) }

-- the file with a window
abbrev pub state_wide : ℕ → ℕ → ℕ → ℕ → List Order → State
state_wide window today retailer since os = record { today = today; file = Some (with_window window (file retailer since os)) }

abbrev pub nothing : ℕ → State
nothing today = record { today = today; file = None }

-- ---- a notice in every field: code, K, day, reference and addressee; its P is 7 throughout
abbrev pub sent : ℕ → ℕ → ℕ → ℕ → ℕ → Notice
sent code kind day reference addressee =
    record { code = code; kind = kind; day = day; reference = reference; premise = 7; addressee = addressee }

-- a record as the tape program shows it: its answer, and the notices under it
pub record Line : Type 0 where
  pub answer : ℕ
  pub notices : List Notice

abbrev pub line : ℕ → List Notice → Line
line answer notices = record { answer = answer; notices = notices }

-- ---- the forms of a case
pub data Case : Type 0 where
  -- calendar, T and the file or none, records one after another, the answers' numbers
  answered : List ℕ → State → List Record → List ℕ → Case
  -- the same, each record on the T and the file that are handed in
  asked : List ℕ → State → List Record → List ℕ → Case
  -- calendar, T and the file or none, records, the last one's notices
  tells : List ℕ → State → List Record → List Notice → Case
  -- calendar, T and the file or none, records, T and the file or none at the end
  leaves : List ℕ → State → List Record → State → Case
  -- calendar, T and the file or none, records, a line for each, T and the file or none at the end
  plays : List ℕ → State → List Record → List Line → State → Case
  -- calendar, start day, records on that day, the only order's status on that day and, mark by mark, on those after it
  daily : List ℕ → ℕ → List Record → List ℕ → Case
  -- orders of which each is well kept; of which none is
  keeps : List Order → Case
  damaged : List Order → Case
  -- files of which each is well kept; of which none is
  keeps_files : List File → Case
  damaged_files : List File → Case
  -- files of which each is zero in every field; of which none is
  unused_files : List File → Case
  used_files : List File → Case
  -- names, and the numbers that document 01 gives them
  numbered : List ℕ → List ℕ → Case
  -- a case about days alone
  on_days : days.Piece → Case

-- a case with its name
pub record Piece : Type 0 where
  pub name : String
  pub case : Case

abbrev pub piece : String → Case → Piece
piece name case = record { name = name; case = case }

-- a record that is accepted: calendar, T and the file, the record, its notices, T and the file afterwards
abbrev pub does : List ℕ → State → Record → List Notice → State → Case
does calendar from r notices to = plays calendar from (r ∷ []) (line 0 notices ∷ []) to

-- ---- whether a case holds
abbrev same : List ℕ → List ℕ → Bool
same [] [] = true
same [] (y ∷ ys) = false
same (x ∷ xs) [] = false
same (x ∷ xs) (y ∷ ys) = eqb x y && same xs ys

abbrev same_order : Order → Order → Bool
same_order o p =
    eqb o.reference p.reference
    && eqb o.kind p.kind
    && eqb o.submitter p.submitter
    && eqb o.requested p.requested
    && eqb o.scheduled p.scheduled
    && eqb o.status p.status
    && eqb o.waited.0 p.waited.0
    && eqb o.pending.0 p.pending.0
    && eqb o.told p.told
    && eqb o.counter p.counter

abbrev same_orders : List Order → List Order → Bool
same_orders [] [] = true
same_orders [] (p ∷ ps) = false
same_orders (o ∷ os) [] = false
same_orders (o ∷ os) (p ∷ ps) = same_order o p && same_orders os ps

abbrev same_file : Option File → Option File → Bool
same_file None None = true
same_file None (Some g) = false
same_file (Some f) None = false
same_file (Some f) (Some g) =
    eqb f.premise g.premise
    && eqb f.retailer g.retailer
    && eqb f.since g.since
    && eqb f.window g.window
    && eqb f.agreement g.agreement
    && eqb f.entered g.entered
    && eqb f.count g.count
    && same_orders f.orders g.orders

abbrev same_state : State → State → Bool
same_state s t = eqb s.today t.today && same_file s.file t.file

abbrev same_notices : List Notice → List Notice → Bool
same_notices [] [] = true
same_notices [] (m ∷ ms) = false
same_notices (n ∷ ns) [] = false
same_notices (n ∷ ns) (m ∷ ms) =
    eqb n.code m.code
    && eqb n.kind m.kind
    && eqb n.day m.day
    && eqb n.reference m.reference
    && eqb n.premise m.premise
    && eqb n.addressee m.addressee
    && same_notices ns ms

abbrev same_line : Given → Line → Bool
same_line g l = eqb (number g.answer) l.answer && same_notices g.notices l.notices

abbrev answers_of : List Given → List ℕ
answers_of gs = map (λ (g : Given). number g.answer) gs

abbrev last_notices : List Given → List Notice
last_notices [] = []
last_notices (g ∷ []) = g.notices
last_notices (g ∷ h ∷ gs) = last_notices (h ∷ gs)

-- line by line, each record on what the one before left
abbrev walks : List ℕ → State → List Record → List Line → State → Bool
walks calendar s [] [] end = same_state s end
walks calendar s [] (l ∷ ls) end = false
walks calendar s (r ∷ rs) [] end = false
walks calendar s (r ∷ rs) (l ∷ ls) end =
    let g : Given = step calendar s r in
    same_line g l && walks calendar g.state rs ls end

abbrev only_status : List Order → ℕ → Bool
only_status [] status = false
only_status (o ∷ []) status = eqb o.status status
only_status (o ∷ p ∷ os) status = false

-- a mark a day, each on the state that the one before left
abbrev statuses_pass : List ℕ → State → List ℕ → Bool
statuses_pass calendar s [] = true
statuses_pass calendar s (status ∷ []) = only_status (orders_of s.file) status
statuses_pass calendar s (status ∷ next ∷ more) =
    only_status (orders_of s.file) status && statuses_pass calendar (step calendar s (mark (s.today + 1))).state (next ∷ more)

abbrev pub holds : Case → Bool
holds (answered calendar from records answers) = same (answers_of (runs calendar from records)) answers
holds (asked calendar from records answers) = same (map (λ (r : Record). number (step calendar from r).answer) records) answers
holds (tells calendar from records notices) = same_notices (last_notices (runs calendar from records)) notices
holds (leaves calendar from records to) = same_state (end_state calendar from records) to
holds (plays calendar from records lines to) = walks calendar from records lines to
holds (daily calendar start records statuses) = statuses_pass calendar (end_state calendar (start_state start) records) statuses
holds (keeps os) = all_of order_kept os
holds (damaged os) = not (any_of order_kept os)
holds (keeps_files fs) = all_of file_kept fs
holds (damaged_files fs) = not (any_of file_kept fs)
holds (unused_files fs) = all_of file_blank fs
holds (used_files fs) = not (any_of file_blank fs)
holds (numbered names numbers) = same names numbers
holds (on_days case) = days.holds case

abbrev pub failing : Bool → String → List String → List String
failing true name more = more
failing false name more = name ∷ more

-- The names of the pieces that do not hold. (Where it is opened, so are the rules that a case computes with.)
unfoldable pub failed : List Piece → List String
unfolding kind_of_day is_business_day switch_date window.business_days in_window places requested_day make_room ordered taken on_scheduled on_permit
    on_unexecutable on_read supplied on_cancel on_reply on_order on_date_change on_named changed agreed reviewed permit_awaited cancel_awaited ticked
    contends switch_of_day
    gives_way same_day_switch is_displaced drop_on_switch_day is_overtaken permit_overtaken is_due loss_notice evaluation refuses stands_in_way
    not_first_in order_kept_by is_blank file_kept_by file_blank number premise_rows order_rows marked_with stepped_with step_with
failed [] = []
failed (p ∷ ps) = failing (holds p.case) p.name (failed ps)
