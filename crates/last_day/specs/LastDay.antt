-- Calls on the last day there is, written out to the last byte: a book started above day 4,095, with an empty calendar. Each of three tapes
-- is played by calls of which nothing is known but that each keeps the record call's promise on the book that the one before returned;
-- their buffers are as long as anyone likes from 24,576 bytes on, with any bytes in them. proofs/LastDay.antt proves what they return, from
-- the demands. No name of demand 3 is used here, so that none of these lines gets weaker with its definitions.
use Rattle.std.specs.Prelude.{ℕ, ◌≤◌, ◌≡◌, List, [], ◌∷◌, ◌++◌, map, cond, eqb, length, replicate}
use Rattle.lists.specs.Search.{Each}
use Rattle.records.specs.Layout.{premise_field, field_of}
use Rattle.records.specs.Notices.{rows}
use Rattle.premise.specs.declared.Order.{Order}
use Rattle.premise.specs.declared.File.{File}
use Rattle.premise.specs.Orders.{blank}
use Rattle.premise.specs.Refusals.{number}
use Rattle.book.specs.declared.Book.{Book}
use Rattle.book.specs.declared.Reply.{Reply}
use Rattle.book.specs.Book.{book_of, fresh_book}
use Rattle.book.specs.Promise.{Promised}
use Rattle.demands.specs.Sample.{plain, create7, create5}

-- ---- records and notices: day 4,095 is 255 and 15, low byte first
-- a self-selected switch for day 4,095 on each: reference 1 to retailer 202, reference 9 to 203
unfoldable pub switch7 : List ℕ
switch7 = plain 3 4 255 15 1 7 202

unfoldable pub switch5 : List ℕ
switch5 = plain 3 4 255 15 9 5 203

-- each scheduled for that day
unfoldable pub scheduled7 : List ℕ
scheduled7 = plain 4 0 255 15 1 7 0

unfoldable pub scheduled5 : List ℕ
scheduled5 = plain 4 0 255 15 9 5 0

-- a day mark of the day that it is, a retire of a premise that is not held, and one byte
unfoldable pub mark : List ℕ
mark = plain 10 0 255 15 0 0 0

unfoldable pub retire6 : List ℕ
retire6 = plain 2 0 0 0 0 6 0

unfoldable pub one_byte : List ℕ
one_byte = 3 ∷ []

-- the switch to the TDSP, its day to the new retailer, and to the retailer that loses the premise, which is in window at once
unfoldable pub notices7 : List (List ℕ)
notices7 = plain 1 4 255 15 1 7 0 ∷ plain 3 4 255 15 1 7 202 ∷ plain 4 4 255 15 1 7 101 ∷ []

unfoldable pub notices5 : List (List ℕ)
notices5 = plain 1 4 255 15 9 5 0 ∷ plain 3 4 255 15 9 5 203 ∷ plain 4 4 255 15 9 5 102 ∷ []

-- ---- the files at the end: one order each, Scheduled for day 4,095, its loser told
abbrev pub switch_of : ℕ → ℕ → Order
switch_of reference submitter =
    record {
      reference = reference;
      kind = 4;
      submitter = submitter;
      requested = 4095;
      scheduled = 4095;
      status = 3;
      waited = record { 0 = 0 };
      pending = record { 0 = 0 };
      told = 1;
      counter = 0;
    }

abbrev pub file_of : ℕ → ℕ → Order → File
file_of premise retailer order =
    record {
      premise = premise;
      retailer = retailer;
      since = 0;
      window = 2;
      agreement = 0;
      entered = 0;
      count = 1;
      orders = order ∷ replicate 7 blank;
    }

-- ---- the calls
-- one call: the record's bytes, the buffer that it was lent, what it returned, and the buffer on return
pub record Call : Type 0 where
  pub bytes : List ℕ
  pub lent : List ℕ
  pub reply : Reply
  pub after : List ℕ

-- each on the book that the one before returned, the first on a fresh one
abbrev pub OneByOne : Book → List Call → Type 0
OneByOne b [] = Unit {0}
OneByOne b (c ∷ cs) = Promised [] b c.bytes c.lent c.reply c.after × OneByOne c.reply.book cs

pub record CallsOf (tape : List (List ℕ)) (cs : List Call) : Type 0 where
  pub fed : map (λ (c : Call). c.bytes) cs ≡ tape
  pub promised : OneByOne (fresh_book 5000) cs
  pub room : Each (λ (c : Call). 24576 ≤ length c.lent) cs

-- ---- what comes back
-- the book that the last call returned
abbrev pub book_after : Book → List Call → Book
book_after b [] = b
book_after b (c ∷ cs) = book_after c.reply.book cs

-- the notices that stand in the buffers on return, call after call
abbrev pub rows_of : List Call → List (List ℕ)
rows_of [] = []
rows_of (c ∷ cs) = rows c.reply.sent c.after ++ rows_of cs

-- of these, the ones with a premise's number in bytes 8 to 15
abbrev pub naming : ℕ → List (List ℕ) → List (List ℕ)
naming premise [] = []
naming premise (row ∷ others) = cond (eqb (field_of premise_field row) premise) (row ∷ naming premise others) (naming premise others)

pub record ComesBack (answered : List ℕ) (cs : List Call) : Type 0 where
  pub answers : map (λ (c : Call). number c.reply.answer) cs ≡ answered
  pub of7 : naming 7 (rows_of cs) ≡ notices7
  pub of5 : naming 5 (rows_of cs) ≡ notices5
  pub of6 : naming 6 (rows_of cs) ≡ []
  pub book : book_after (fresh_book 5000) cs ≡ book_of 4095 (file_of 5 102 (switch_of 9 203) ∷ file_of 7 101 (switch_of 1 202) ∷ [])

abbrev pub OnTheLastDay : List (List ℕ) → List ℕ → Type 0
OnTheLastDay tape answered = (cs : List Call) → CallsOf tape cs → ComesBack answered cs

-- ---- three tapes: the second and the third have the first one's records in other orders between the premises
-- Created twice gets 5, one byte 3, the mark 15, and the premise that is not held 4.
unfoldable pub tape : List (List ℕ)
tape = create7 ∷ create5 ∷ switch7 ∷ create7 ∷ one_byte ∷ switch5 ∷ scheduled7 ∷ mark ∷ retire6 ∷ scheduled5 ∷ []

abbrev pub answers₁ : List ℕ
answers₁ = 0 ∷ 0 ∷ 0 ∷ 5 ∷ 3 ∷ 0 ∷ 0 ∷ 15 ∷ 4 ∷ 0 ∷ []

unfoldable pub tape₂ : List (List ℕ)
tape₂ = create5 ∷ switch5 ∷ create7 ∷ switch7 ∷ create7 ∷ scheduled7 ∷ mark ∷ scheduled5 ∷ one_byte ∷ retire6 ∷ []

abbrev pub answers₂ : List ℕ
answers₂ = 0 ∷ 0 ∷ 0 ∷ 0 ∷ 5 ∷ 0 ∷ 15 ∷ 0 ∷ 3 ∷ 4 ∷ []

unfoldable pub tape₃ : List (List ℕ)
tape₃ = one_byte ∷ create7 ∷ switch7 ∷ create5 ∷ create7 ∷ scheduled7 ∷ switch5 ∷ mark ∷ retire6 ∷ scheduled5 ∷ one_byte ∷ []

abbrev pub answers₃ : List ℕ
answers₃ = 3 ∷ 0 ∷ 0 ∷ 0 ∷ 5 ∷ 0 ∷ 0 ∷ 15 ∷ 4 ∷ 0 ∷ 3 ∷ []

pub record LastDay : Type 0 where
  pub first : OnTheLastDay tape answers₁
  pub second : OnTheLastDay tape₂ answers₂
  pub third : OnTheLastDay tape₃ answers₃
