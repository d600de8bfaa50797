-- Demand 3: one statement about a list of record calls as a whole, about what calls returned, tied together by the record call's own
-- promise; proofs/Demand3.antt proves it (`demand_3`).
use Rattle.std.specs.Prelude.{ℕ, ◌≤◌, ◌<◌, ◌≡◌, List, [], ◌∷◌, ◌++◌, map, Bool, true, false, cond, eqb, length}
use Rattle.records.specs.declared.Record.{Record}
use Rattle.std.specs.Prelude.{Option, Some, None}
use Rattle.records.specs.Layout.{Layout, wide, Bytes, premise_field, field_of}
use Rattle.records.specs.Records.{reading, kind_day_mark}
use Rattle.records.specs.Notices.{encode, rows}
use Rattle.premise.specs.Steps.{is}
use Rattle.premise.specs.Refusals.{number}
use Rattle.premise.specs.OnePremise.{Given, start_state, runs, end_state}
use Rattle.book.specs.declared.Book.{Book}
use Rattle.book.specs.declared.Reply.{Reply}
use Rattle.book.specs.Book.{files_of, fresh_book, file_for}
use Rattle.book.specs.Calls.{notice_bytes, meets_row6}
use Rattle.book.specs.Promise.{PromisedBy}

-- ---- calls that were made
-- one call: the record's bytes, the buffer that it was lent, what it returned, and the buffer on return
pub record Made : Type 0 where
  pub bytes : List ℕ
  pub lent : List ℕ
  pub reply : Reply
  pub after : List ℕ

-- each call keeps the record call's promise, by a layout, and gets the book that the one before it returned
abbrev pub PlayedBy : Layout → List ℕ → Book → List Made → Type 0
PlayedBy layout calendar b [] = Unit {0}
PlayedBy layout calendar b (m ∷ ms) =
    PromisedBy layout calendar b m.bytes m.lent m.reply m.after × PlayedBy layout calendar m.reply.book ms

-- by the layout in force
abbrev pub Played : List ℕ → Book → List Made → Type 0
Played = PlayedBy wide

-- the book that the last call returned
abbrev pub last_book : Book → List Made → Book
last_book b [] = b
last_book b (m ∷ ms) = last_book m.reply.book ms

-- ---- the premises of the theorem
-- a record's bytes are bytes; at least 24,576 notice bytes each; none meets row 6
pub record Allowed (b : Book) (m : Made) : Type 0 where
  pub real : Bytes m.bytes
  pub room : notice_bytes ≤ length m.lent
  pub places : meets_row6 b (reading m.bytes) ≡ false

abbrev pub AllAllowed : Book → List Made → Type 0
AllAllowed b [] = Unit {0}
AllAllowed b (m ∷ ms) = Allowed b m × AllAllowed m.reply.book ms

-- ---- what one premise sees of a list of calls
-- A premise is any P in range, held or not.
pub record Premise (premise : ℕ) : Type 0 where
  pub above : 0 < premise
  pub below : premise < 18446744073709551616

-- Its own records are those with its P in bytes 8 to 15 that don't meet row 3; a day mark that meets row 3 counts for nobody.
abbrev pub concerns : ℕ → Option Record → Bool
concerns premise None = false
concerns premise (Some r) = cond (is kind_day_mark r) true (eqb r.premise premise)

-- its own records and the day marks, in tape order, as bytes ..
abbrev pub own_bytes : ℕ → List Made → List (List ℕ)
own_bytes premise [] = []
own_bytes premise (m ∷ ms) = cond (concerns premise (reading m.bytes)) (m.bytes ∷ own_bytes premise ms) (own_bytes premise ms)

-- .. and what they say
abbrev pub said : Option Record → List Record
said None = []
said (Some r) = r ∷ []

abbrev pub records : List (List ℕ) → List Record
records [] = []
records (bytes ∷ rest) = said (reading bytes) ++ records rest

-- Its answers are the numbers given to its own records and to the day marks.
abbrev pub answers : ℕ → List Made → List ℕ
answers premise [] = []
answers premise (m ∷ ms) =
    cond (concerns premise (reading m.bytes)) (number m.reply.answer ∷ answers premise ms) (answers premise ms)

-- of the notices in a buffer, as rows of bytes, those with a premise's P in bytes 8 to 15
abbrev pub with_premise : ℕ → List (List ℕ) → List (List ℕ)
with_premise premise [] = []
with_premise premise (row ∷ others) =
    cond (eqb (field_of premise_field row) premise) (row ∷ with_premise premise others) (with_premise premise others)

-- Its notices are, call after call, those with its P among the first n in that call's buffer on return, whichever call it was.
abbrev pub notices_for : ℕ → List Made → List (List ℕ)
notices_for premise [] = []
notices_for premise (m ∷ ms) = with_premise premise (rows m.reply.sent m.after) ++ notices_for premise ms

-- ---- what the one-premise rules give, from the premise's own records and the day marks alone
abbrev pub ruled_answers : List Given → List ℕ
ruled_answers gs = map (λ (g : Given). number g.answer) gs

abbrev pub ruled_notices : List Given → List (List ℕ)
ruled_notices [] = []
ruled_notices (g ∷ gs) = map encode g.notices ++ ruled_notices gs

-- ---- the theorem
-- Every premise has the file, answers and notices that the one-premise rules give from its own records and the day marks alone; and T is
-- theirs.
pub record AsRuled (calendar : List ℕ) (start premise : ℕ) (ms : List Made) : Type 0 where
  pub file : file_for premise (files_of (last_book (fresh_book start) ms))
      ≡ (end_state calendar (start_state start) (records (own_bytes premise ms))).file
  pub today : (last_book (fresh_book start) ms).today ≡ (end_state calendar (start_state start) (records (own_bytes premise ms))).today
  pub answered : answers premise ms ≡ ruled_answers (runs calendar (start_state start) (records (own_bytes premise ms)))
  pub notices : notices_for premise ms ≡ ruled_notices (runs calendar (start_state start) (records (own_bytes premise ms)))

abbrev pub EachPremiseAlone : Type 0
EachPremiseAlone =
    (calendar : List ℕ) (start : ℕ) (ms : List Made)
    → Played calendar (fresh_book start) ms → AllAllowed (fresh_book start) ms
    → (premise : ℕ) → Premise premise → AsRuled calendar start premise ms

-- Any two such lists that agree premise by premise give the same for every premise and equal books.
pub record SameFor (start premise : ℕ) (ms ns : List Made) : Type 0 where
  pub file : file_for premise (files_of (last_book (fresh_book start) ms)) ≡ file_for premise (files_of (last_book (fresh_book start) ns))
  pub answered : answers premise ms ≡ answers premise ns
  pub notices : notices_for premise ms ≡ notices_for premise ns

pub record SameBooks (start : ℕ) (ms ns : List Made) : Type 0 where
  pub each : (premise : ℕ) → Premise premise → SameFor start premise ms ns
  pub book : last_book (fresh_book start) ms ≡ last_book (fresh_book start) ns

abbrev pub ShuffleProof : Type 0
ShuffleProof =
    (calendar : List ℕ) (start : ℕ) (one other : List Made)
    → Played calendar (fresh_book start) one → AllAllowed (fresh_book start) one
    → Played calendar (fresh_book start) other → AllAllowed (fresh_book start) other
    → ((premise : ℕ) → Premise premise → own_bytes premise one ≡ own_bytes premise other)
    → SameBooks start one other

-- Demand 3, as one statement.
pub record Demand3 : Type 0 where
  pub alone : EachPremiseAlone
  pub shuffled : ShuffleProof
