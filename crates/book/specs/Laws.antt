-- What the layers above rely on about the book, as statements; proofs/ proves each.
use Rattle.std.specs.Prelude.{ℕ, ◌+◌, ◌*◌, ◌≤◌, ◌<◌, ◌≡◌, ◌↔◌, ◌⊎◌, List, [], ◌∷◌, ◌++◌, true, false, ltb, length, get_or, set}
use Rattle.std.specs.Prelude.{Some, None}
use Rattle.lists.specs.Search.{Each}
use Rattle.lists.specs.Shift.{inserted, removed}
use Rattle.days.specs.Days.{last_day}
use Rattle.records.specs.declared.Record.{Record}
use Rattle.records.specs.Layout.{Layout, record_length, wide, narrow}
use Rattle.records.specs.Records.{kind_day_mark, well_formed, reading_by, reading}
use Rattle.premise.specs.declared.File.{File}
use Rattle.std.specs.Prelude.{Err}
use Rattle.premise.specs.declared.Refusal.TheVariants.{ShortBuffer, NotWellKept, MalformedRecord, NoSuchPremise}
use Rattle.premise.specs.Orders.{kept_width}
use Rattle.premise.specs.Steps.{is}
use Rattle.premise.specs.Refusals.{number, needs_premise}
use Rattle.premise.specs.OnePremise.{Given, step, given_on}
use Rattle.premise.specs.WellKept.{FileKept}
use Rattle.premise.specs.Laws.{row_numbers}
use Rattle.premise.specs.Promises.{StaysHeld}
use Rattle.premise_laws.specs.Laws.{KeptFor}
use Rattle.premise_laws.specs.Retailers.{RetailersUpTo}
use Rattle.book.specs.declared.Book.{Book}
use Rattle.book.specs.Totals.{orders_with, orders_in, waiting_in}
use Rattle.book.specs.Book.{most_files, files_of, book_of, fresh_book, rises_from, book_kept_by, book_kept, file_for}
use Rattle.book.specs.Calls.{notice_bytes, call_rows, meets_row6, marked_notices, premise_state, Result, on_premise, refusal}
use Rattle.book.specs.Calls.{call_by, call, on_day_mark}

-- ---- well kept
-- at most 64 files, and the places after them unused: what the functions on a book's places ask of it
pub record TidyBook (b : Book) : Type 0 where
  pub few : b.count ≤ most_files
  pub whole : b ≡ book_of b.today (files_of b)

-- the facts of a well_kept book
pub record BookKept (b : Book) : Type 0 where
  pub tidy : TidyBook b
  pub today : b.today ≤ last_day
  pub files : Each FileKept (files_of b)
  pub rising : rises_from 0 (files_of b) ≡ true

-- the test and the facts behind it say the same
abbrev pub BookKeptMeans : Type 0
BookKeptMeans = (b : Book) → (book_kept b ≡ true) ↔ BookKept b

-- Document 02, change 7: a book without a retailer above the narrow limit is well kept by the one layout exactly where it is by the other.
abbrev pub BookKeptByEither : Type 0
BookKeptByEither = (b : Book) → Each (RetailersUpTo narrow.last_retailer) (files_of b) → book_kept_by narrow b ≡ book_kept_by wide b

-- ---- the four totals
-- Document 02, change 11: "A book whose totals are off is not well kept."
abbrev pub TotalsOff : Type 0
TotalsOff = (b : Book) → (b.waiting ≡ waiting_in (files_of b) → ⊥) → book_kept b ≡ false

-- The count over files with another one at a place, plus that of the file that stood there, is the count over the files plus that of the
-- other; so a stored file moves the totals by two files only.
abbrev pub CountAfterStore : Type 0
CountAfterStore =
    (status : ℕ) (fs : List File) (at : ℕ) (past g : File) → at < length fs
    → orders_in status (set fs at g) + orders_with status (get_or fs at past) ≡ orders_in status fs + orders_with status g

-- with a file put in at a place, and without the one at a place
abbrev pub CountAfterInsert : Type 0
CountAfterInsert =
    (status : ℕ) (fs : List File) (at : ℕ) (g : File) → orders_in status (inserted at g fs) ≡ orders_in status fs + orders_with status g

abbrev pub CountAfterRemove : Type 0
CountAfterRemove =
    (status : ℕ) (fs : List File) (at : ℕ) (past : File) → at < length fs
    → orders_in status (removed at fs) + orders_with status (get_or fs at past) ≡ orders_in status fs

-- ---- a book made of files
-- it holds them
abbrev pub HoldsItsFiles : Type 0
HoldsItsFiles = (today : ℕ) (fs : List File) → files_of (book_of today fs) ≡ fs

-- a fresh book is well kept
abbrev pub FreshKept : Type 0
FreshKept = (start : ℕ) → book_kept (fresh_book start) ≡ true

-- every call on a well_kept book leaves one, whatever its bytes and its buffer
abbrev pub CallKeeps : Type 0
CallKeeps = (calendar : List ℕ) (b : Book) (bytes lent : List ℕ) → book_kept b ≡ true → book_kept (call calendar b bytes lent).book ≡ true

-- ---- the notices
-- a day mark's notices, and those of any other record, go into the shortest buffer that is taken ..
abbrev pub MarkAllFew : Type 0
MarkAllFew = (calendar : List ℕ) (b : Book) (day : ℕ) → BookKept b
    → record_length * length (marked_notices calendar day (files_of b)) ≤ notice_bytes

abbrev pub StepAllFew : Type 0
StepAllFew =
    (calendar : List ℕ) (b : Book) (r : Record) → BookKept b → well_formed r ≡ true → is kind_day_mark r ≡ false
    → record_length * length (on_premise calendar b r).notices ≤ notice_bytes

-- .. so that every call's go into the buffer that it is lent.
abbrev pub CallFew : Type 0
CallFew = (calendar : List ℕ) (b : Book) (bytes lent : List ℕ) → record_length * length (call calendar b bytes lent).notices ≤ length lent

-- ---- the table of refusals
-- its rows' numbers, in its order: 1 to 15 of a record, with 18 after 4, 26 between 11 and 12 and 16 and 17 after 14, and 1 to 3 of
-- malformed bytes, of which row 3 holds
abbrev pub RowsOfRecord : Type 0
RowsOfRecord =
    (calendar : List ℕ) (b : Book) (bytes lent : List ℕ) (r : Record) → reading bytes ≡ Some r
    → row_numbers (call_rows calendar b bytes lent) ≡ 1 ∷ 2 ∷ 3 ∷ 4 ∷ 18 ∷ 5 ∷ 6 ∷ 7 ∷ 8 ∷ 9 ∷ 10 ∷ 11 ∷ 26 ∷ 12 ∷ 13 ∷ 14 ∷ 16 ∷ 17 ∷ 15 ∷ []

abbrev pub RowsOfMalformed : Type 0
RowsOfMalformed =
    (calendar : List ℕ) (b : Book) (bytes lent : List ℕ) → reading bytes ≡ None
    → row_numbers (call_rows calendar b bytes lent) ≡ 1 ∷ 2 ∷ 3 ∷ []

-- 1 before 2: a buffer under 24,576 bytes gets 1, whatever the book and the bytes
abbrev pub CallShort : Type 0
CallShort =
    (calendar : List ℕ) (b : Book) (bytes lent : List ℕ) → length lent < notice_bytes → call calendar b bytes lent ≡ refusal (Err ShortBuffer) b

-- 2 before 3: with a longer one a book that is not well kept gets 2, whatever the bytes. (`CallMalformed`, below, says 3.)
abbrev pub CallNotKept : Type 0
CallNotKept =
    (calendar : List ℕ) (b : Book) (bytes lent : List ℕ) → notice_bytes ≤ length lent → book_kept b ≡ false
    → call calendar b bytes lent ≡ refusal (Err NotWellKept) b

-- Document 02, change 7: rows 2 and 3 go by the layout, whichever it is. With a long enough buffer a book that is not well kept by it gets
-- 2, and on any other bytes that are malformed by it get 3.
abbrev pub NotKeptBy : Type 0
NotKeptBy =
    (layout : Layout) (calendar : List ℕ) (b : Book) (bytes lent : List ℕ) → notice_bytes ≤ length lent → book_kept_by layout b ≡ false
    → call_by layout kept_width calendar b bytes lent ≡ refusal (Err NotWellKept) b

abbrev pub MalformedBy : Type 0
MalformedBy =
    (layout : Layout) (calendar : List ℕ) (b : Book) (bytes lent : List ℕ) → notice_bytes ≤ length lent → book_kept_by layout b ≡ true
    → reading_by layout bytes ≡ None
    → call_by layout kept_width calendar b bytes lent ≡ refusal (Err MalformedRecord) b

-- It goes by the layout in these two rows and in what the bytes say, and nowhere else.
abbrev pub CallByEither : Type 0
CallByEither =
    (one other : Layout) (calendar : List ℕ) (b : Book) (bytes lent : List ℕ)
    → book_kept_by one b ≡ book_kept_by other b → reading_by one bytes ≡ reading_by other bytes
    → call_by one kept_width calendar b bytes lent ≡ call_by other kept_width calendar b bytes lent

-- Of its buffer a call sees only whether it is shorter than 24,576 bytes, whatever the book and the bytes.
abbrev pub CallSeesRoom : Type 0
CallSeesRoom =
    (calendar : List ℕ) (b : Book) (bytes lent other : List ℕ) → ltb (length lent) notice_bytes ≡ ltb (length other) notice_bytes
    → call calendar b bytes lent ≡ call calendar b bytes other

-- ---- a record on a premise that is held, by the place of its file
-- a record that leaves its premise's file in the book, and a place that holds that file; `past` is what a read past the last place would
-- give, of which none comes
pub record OnHeld (b : Book) (at : ℕ) (past : File) (r : Record) : Type 0 where
  pub within : at < b.count
  pub own : (get_or b.files at past).premise ≡ r.premise
  pub kind : StaysHeld r

-- the book with another file at a place, and its totals
abbrev pub with_file_at : Book → ℕ → File → Book
with_file_at b at g =
    record { today = b.today; count = b.count; waiting = waiting_in (set (files_of b) at g); files = set b.files at g }

-- what a call comes to that leaves the file g: the one-premise rules' step on the file at the place, with g stored there
pub record StoresFile (calendar : List ℕ) (b : Book) (bytes lent : List ℕ) (r : Record) (at : ℕ) (given : Given) (g : File) : Type 0 where
  pub result : call calendar b bytes lent ≡ record { answer = given.answer; notices = given.notices; book = with_file_at b at g }
  pub file : KeptFor r.premise g
  pub book : book_kept (with_file_at b at g) ≡ true

abbrev pub CallOnHeld : Type 0
CallOnHeld =
    (calendar : List ℕ) (b : Book) (bytes lent : List ℕ) (r : Record) (at : ℕ) (past g : File)
    → book_kept b ≡ true → notice_bytes ≤ length lent → reading bytes ≡ Some r → OnHeld b at past r
    → (given_on calendar b.today (Some (get_or b.files at past)) r).state.file ≡ Some g
    → StoresFile calendar b bytes lent r at (given_on calendar b.today (Some (get_or b.files at past)) r) g

-- ---- a call by what its record says, without a look into the files
-- malformed bytes get 3
abbrev pub CallMalformed : Type 0
CallMalformed =
    (calendar : List ℕ) (b : Book) (bytes lent : List ℕ) → book_kept b ≡ true → notice_bytes ≤ length lent → reading bytes ≡ None
    → call calendar b bytes lent ≡ refusal (Err MalformedRecord) b

-- a record that needs a premise, of one that is not held, gets 4
abbrev pub CallNotHeld : Type 0
CallNotHeld =
    (calendar : List ℕ) (b : Book) (bytes lent : List ℕ) (r : Record)
    → book_kept b ≡ true → notice_bytes ≤ length lent → reading bytes ≡ Some r → needs_premise r ≡ true
    → file_for r.premise (files_of b) ≡ None
    → call calendar b bytes lent ≡ refusal (Err NoSuchPremise) b

-- A call is answered 6 exactly where its record meets row 6.
abbrev pub AnsweredFull : Type 0
AnsweredFull =
    (calendar : List ℕ) (b : Book) (bytes lent : List ℕ) → book_kept b ≡ true
    → notice_bytes ≤ length lent → (number (call calendar b bytes lent).answer ≡ 6) ↔ (meets_row6 b (reading bytes) ≡ true)

-- a day mark marks every file on the day after T, and gets 15 on any other
abbrev pub CallOnMark : Type 0
CallOnMark =
    (calendar : List ℕ) (b : Book) (bytes lent : List ℕ) (r : Record)
    → book_kept b ≡ true → notice_bytes ≤ length lent → reading bytes ≡ Some r → is kind_day_mark r ≡ true
    → call calendar b bytes lent ≡ on_day_mark calendar b r

-- a mark on files put together tells of the first and then of the others: its notices stand in the files' order
abbrev pub MarkTellsInOrder : Type 0
MarkTellsInOrder =
    (calendar : List ℕ) (day : ℕ) (first others : List File)
    → marked_notices calendar day (first ++ others) ≡ marked_notices calendar day first ++ marked_notices calendar day others

-- ---- a call as one premise sees it, whatever its bytes and its buffer
-- its record is the premise's own or a day mark, and is accepted: T and the file or none become what the one-premise rules give
pub record Heard (calendar : List ℕ) (b : Book) (bytes : List ℕ) (premise : ℕ) (x : Result) : Type 0 where
  pub said : Record
  pub says : reading bytes ≡ Some said
  pub own : is kind_day_mark said ≡ false → said.premise ≡ premise
  pub answered : number x.answer ≡ 0
  pub accepted : number (step calendar (premise_state b premise) said).answer ≡ 0
  pub state : premise_state x.book premise ≡ (step calendar (premise_state b premise) said).state

-- it is refused, or its record is another premise's: T and the file or none are what they were
pub record Unheard (b : Book) (bytes : List ℕ) (premise : ℕ) (x : Result) : Type 0 where
  pub why : number x.answer ≡ 0 → (r : Record) → reading bytes ≡ Some r → (is kind_day_mark r ≡ false) × (r.premise ≡ premise → ⊥)
  pub state : premise_state x.book premise ≡ premise_state b premise

abbrev pub CallOnPremise : Type 0
CallOnPremise =
    (calendar : List ℕ) (b : Book) (bytes lent : List ℕ) (premise : ℕ) → book_kept b ≡ true
    → Heard calendar b bytes premise (call calendar b bytes lent) ⊎ Unheard b bytes premise (call calendar b bytes lent)
