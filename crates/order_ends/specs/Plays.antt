-- Lists of calls that are computed: a record with the buffer that its call is lent, and what is shown of the books on the way.
use Rattle.std.specs.Prelude.{ℕ, ◌*◌, List, [], ◌∷◌, ◌++◌, map, Bool, not, ◌&&◌, eqb, length, drop, replicate}
use Rattle.std.specs.Prelude.{Option, Some, None}
use Rattle.records.specs.Layout.{record_length}
use Rattle.records.specs.Records.{reading}
use Rattle.records.specs.Notices.{encode_all}
use Rattle.premise.specs.declared.Order.{Order}
use Rattle.premise.specs.Refusals.{number}
use Rattle.book.specs.declared.Book.{Book}
use Rattle.book.specs.Calls.{notice_bytes, Result, call}
use Rattle.demands.specs.Demand3.{Made}
use Rattle.order_ends.specs.Endings.{order_for}
use Rattle.order_ends.specs.Waiting.{is_named}

-- a record, and the buffer that its call is lent
pub record Feed : Type 0 where
  pub bytes : List ℕ
  pub lent : List ℕ

-- the shortest buffer that is taken, and one byte less
unfoldable pub enough : List ℕ → Feed
enough bytes = record { bytes = bytes; lent = replicate notice_bytes 0 }

unfoldable pub short : List ℕ → Feed
short bytes = record { bytes = bytes; lent = replicate 24575 0 }

-- by the definition of the call
unfoldable pub made : Feed → Result → Made
made f x =
    record {
      bytes = f.bytes;
      lent = f.lent;
      reply = record { answer = x.answer; sent = length x.notices; book = x.book };
      after = encode_all x.notices ++ drop (record_length * length x.notices) f.lent;
    }

unfoldable pub plays : List ℕ → Book → List Feed → List Made
plays calendar b [] = []
plays calendar b (f ∷ fs) = let x = call calendar b f.bytes f.lent in made f x ∷ plays calendar x.book fs

-- ---- records of premises, references and days of one byte
unfoldable pub record24 : ℕ → ℕ → ℕ → ℕ → ℕ → ℕ → List ℕ
record24 kind detail day reference premise retailer =
    kind ∷ detail ∷ day ∷ 0 ∷ reference ∷ 0 ∷ 0 ∷ 0 ∷ premise ∷ 0 ∷ 0 ∷ 0 ∷ 0 ∷ 0 ∷ 0 ∷ 0 ∷ retailer ∷ 0 ∷ 0 ∷ 0 ∷ 0 ∷ 0 ∷ 0 ∷ 0 ∷ []

-- ---- what is shown
abbrev pub answers_of : List Made → List ℕ
answers_of ms = map (λ (m : Made). number m.reply.answer) ms

-- an order's status, 0 where it is not there; after every call
abbrev pub status_of : Option Order → ℕ
status_of None = 0
status_of (Some o) = o.status

abbrev pub statuses : ℕ → ℕ → List Made → List ℕ
statuses premise reference ms = map (λ (m : Made). status_of (order_for premise reference m.reply.book)) ms

-- its W, 0 where it is not there
abbrev pub pending_in : Option Order → ℕ
pending_in None = 0
pending_in (Some o) = o.pending.0

abbrev pub pendings : ℕ → ℕ → List Made → List ℕ
pendings premise reference ms = map (λ (m : Made). pending_in (order_for premise reference m.reply.book)) ms

-- whether a call does not name the order, or is refused
abbrev pub is_unnamed : ℕ → ℕ → Made → Bool
is_unnamed premise reference m = not (eqb (number m.reply.answer) 0 && is_named premise reference (reading m.bytes))
