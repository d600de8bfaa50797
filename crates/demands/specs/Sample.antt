-- Two lists of calls that are computed, the one a shuffle of the other, and what comes out of the first: what document 01 says.
use Rattle.std.specs.Prelude.{ℕ, ◌*◌, ◌≡◌, List, [], ◌∷◌, ◌++◌, map, length, drop, replicate}
use Rattle.records.specs.Layout.{record_length}
use Rattle.records.specs.Notices.{encode_all, rows}
use Rattle.book.specs.declared.Book.{Book}
use Rattle.book.specs.Book.{fresh_book}
use Rattle.book.specs.Calls.{notice_bytes, Result, call}
use Rattle.demands.specs.Demand3.{Made, answers, notices_for}

-- a buffer of the shortest length that is taken
unfoldable pub lent : List ℕ
lent = replicate notice_bytes 0

-- ---- a list of records played by the definition of the call
unfoldable pub made : List ℕ → Result → Made
made bytes x =
    record {
      bytes = bytes;
      lent = lent;
      reply = record { answer = x.answer; sent = length x.notices; book = x.book };
      after = encode_all x.notices ++ drop (record_length * length x.notices) lent;
    }

unfoldable pub plays : List ℕ → Book → List (List ℕ) → List Made
plays calendar b [] = []
plays calendar b (bytes ∷ tape) = let x = call calendar b bytes lent in made bytes x ∷ plays calendar x.book tape

-- ---- the records
-- a record or a notice of which no field has more than one byte that is not zero, but for the day
abbrev pub plain : ℕ → ℕ → ℕ → ℕ → ℕ → ℕ → ℕ → List ℕ
plain kind detail low high reference premise retailer =
    kind ∷ detail ∷ low ∷ high ∷ reference ∷ 0 ∷ 0 ∷ 0 ∷ premise ∷ 0 ∷ 0 ∷ 0 ∷ 0 ∷ 0 ∷ 0 ∷ 0 ∷ retailer ∷ 0 ∷ 0 ∷ 0 ∷ 0 ∷ 0 ∷ 0 ∷ 0 ∷ []

-- create 7, retailer 101, and create 5, retailer 102, both on day 0
unfoldable pub create7 : List ℕ
create7 = plain 1 0 0 0 0 7 101

unfoldable pub create5 : List ℕ
create5 = plain 1 0 0 0 0 5 102

-- an order on each: of 7 a standard switch, reference 1 to retailer 202; of 5 a move in for day 2, reference 9 to retailer 203
unfoldable pub order7 : List ℕ
order7 = plain 3 3 0 0 1 7 202

unfoldable pub order5 : List ℕ
order5 = plain 3 1 2 0 9 5 203

-- the move in's date changed to day 4, with counter 6
unfoldable pub change5 : List ℕ
change5 = plain 11 0 4 0 9 5 6

-- an agreement of the owner of 7 with retailer 204
unfoldable pub establish7 : List ℕ
establish7 = plain 12 1 0 0 0 7 204

-- both scheduled for day 3, which is out of window on day 0
unfoldable pub scheduled7 : List ℕ
scheduled7 = plain 4 0 3 0 1 7 0

unfoldable pub scheduled5 : List ℕ
scheduled5 = plain 4 0 3 0 9 5 0

-- day 1, on which both are in window
unfoldable pub mark1 : List ℕ
mark1 = plain 10 0 1 0 0 0 0

unfoldable pub malformed : List ℕ
malformed = 3 ∷ []

-- every day a business day
unfoldable pub calendar : List ℕ
calendar = replicate 10 0

-- the date change stands there twice: the second time its counter is not above the kept one
unfoldable pub tape : List (List ℕ)
tape =
    create7 ∷ create5 ∷ order7 ∷ create7 ∷ establish7 ∷ order5 ∷ malformed ∷ change5 ∷ change5 ∷ scheduled5 ∷ scheduled7 ∷ mark1 ∷ mark1
    ∷ []

unfoldable pub sample : List Made
sample = plays calendar (fresh_book 0) tape

-- the same in another order between the premises, with the malformed one twice
unfoldable pub shuffled : List (List ℕ)
shuffled =
    create5 ∷ order5 ∷ create7 ∷ malformed ∷ malformed ∷ change5 ∷ order7 ∷ change5 ∷ scheduled5 ∷ create7 ∷ establish7
    ∷ scheduled7 ∷ mark1 ∷ mark1 ∷ []

unfoldable pub again : List Made
again = plays calendar (fresh_book 0) shuffled

-- ---- the notices: the order and its new date to the TDSP, the agreement to its retailer, the order's day to the new retailer, and on the
-- mark to the retailer that loses the premise
unfoldable pub ordered7 : List ℕ
ordered7 = plain 1 3 0 0 1 7 0

unfoldable pub agreed7 : List ℕ
agreed7 = plain 11 0 0 0 0 7 204

unfoldable pub dated7 : List ℕ
dated7 = plain 3 3 3 0 1 7 202

unfoldable pub losing7 : List ℕ
losing7 = plain 4 3 3 0 1 7 101

unfoldable pub ordered5 : List ℕ
ordered5 = plain 1 1 2 0 9 5 0

unfoldable pub changed5 : List ℕ
changed5 = plain 9 1 4 0 9 5 0

unfoldable pub dated5 : List ℕ
dated5 = plain 3 1 3 0 9 5 203

unfoldable pub losing5 : List ℕ
losing5 = plain 4 1 3 0 9 5 102

-- what stands in each call's buffer on return
unfoldable pub buffers : List Made → List (List (List ℕ))
buffers ms = map (λ (m : Made). rows m.reply.sent m.after) ms

-- ---- what comes out: for two premises, for one that has no file, and in every buffer
pub record Comes : Type 0 where
  pub answers7 : answers 7 sample ≡ 0 ∷ 0 ∷ 5 ∷ 0 ∷ 0 ∷ 0 ∷ 15 ∷ []
  pub answers5 : answers 5 sample ≡ 0 ∷ 0 ∷ 0 ∷ 16 ∷ 0 ∷ 0 ∷ 15 ∷ []
  pub answers6 : answers 6 sample ≡ 0 ∷ 15 ∷ []
  pub notices7 : notices_for 7 sample ≡ ordered7 ∷ agreed7 ∷ dated7 ∷ losing7 ∷ []
  pub notices5 : notices_for 5 sample ≡ ordered5 ∷ changed5 ∷ dated5 ∷ losing5 ∷ []
  pub notices6 : notices_for 6 sample ≡ []
  pub all : buffers sample ≡ [] ∷ [] ∷ (ordered7 ∷ []) ∷ [] ∷ (agreed7 ∷ []) ∷ (ordered5 ∷ []) ∷ [] ∷ (changed5 ∷ []) ∷ [] ∷ (dated5 ∷ [])
      ∷ (dated7 ∷ []) ∷ (losing5 ∷ losing7 ∷ []) ∷ [] ∷ []
