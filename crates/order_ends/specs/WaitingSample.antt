-- Lists of calls that are computed, of which the second theorem speaks: document 01's set piece f, and an order that waits for 20 business
-- days. Strewn between the marks of the first: refused records that name the order, another premise's records with its reference, and a
-- call with a short buffer.
use Rattle.std.specs.Prelude.{ℕ, zero, suc, ◌+◌, ◌≤◌, ◌≡◌, List, [], ◌∷◌, ◌++◌, true, replicate}
use Rattle.std.specs.Prelude.{Some}
use Rattle.lists.specs.Search.{all_of}
use Rattle.premise.specs.declared.Order.{Order}
use Rattle.premise_laws.specs.Endings.{is_there}
use Rattle.book.specs.Book.{fresh_book}
use Rattle.demands.specs.Demand3.{Made, last_book}
use Rattle.order_ends.specs.Endings.{order_for}
use Rattle.order_ends.specs.TurningDay.{turning_day}
use Rattle.order_ends.specs.Waiting.{turning_of}
use Rattle.order_ends.specs.Plays.{Feed, enough, short, plays, record24, answers_of, statuses, pendings, is_unnamed}

unfoldable pub mark_of : ℕ → List ℕ
mark_of day = record24 10 0 day 0 0 0

-- ---- set piece f: "Unanswered move in, RD and arrival day 50: Cancel Pending at 52, still at 58, Cancelled at 59."
unfoldable pub every_day : List ℕ
every_day = replicate 70 0

-- premise 7, and a move in of retailer 202 for day 50 with reference 1
unfoldable pub arrival : List Feed
arrival = enough (record24 1 0 0 0 7 101) ∷ enough (record24 3 1 50 1 7 202) ∷ []

-- To the mark of 58. A meter read of the order gets 14, another retailer's cancel 13, a new order with its reference 8, a permit 14.
-- Premise 5 is created and gets an order with the same reference. The mark of 53 gets 1 with a short buffer, and 0 with the next call.
unfoldable pub hanging : List Feed
hanging =
    enough (record24 7 0 50 1 7 0)
    ∷ enough (mark_of 51)
    ∷ enough (record24 8 0 0 1 7 203)
    ∷ enough (record24 1 0 0 0 5 102)
    ∷ enough (mark_of 52)
    ∷ enough (record24 3 1 52 1 7 202)
    ∷ enough (record24 3 1 52 1 5 202)
    ∷ short (mark_of 53)
    ∷ enough (mark_of 53)
    ∷ enough (record24 5 0 0 1 7 0)
    ∷ enough (mark_of 54)
    ∷ enough (mark_of 55)
    ∷ enough (mark_of 56)
    ∷ enough (mark_of 57)
    ∷ enough (mark_of 58)
    ∷ []

unfoldable pub arrived : List Made
arrived = plays every_day (fresh_book 50) arrival

unfoldable pub hung : List Made
hung = plays every_day (last_book (fresh_book 50) arrived) (hanging ++ (enough (mark_of 59) ∷ []))

-- the order after its arrival
unfoldable pub waiting : Order
waiting =
    record {
      reference = 1;
      kind = 1;
      submitter = 202;
      requested = 50;
      scheduled = 4096;
      status = 1;
      waited = record { 0 = 1 };
      pending = record { 0 = 0 };
      told = 0;
      counter = 0;
    }

-- what comes out: the answers, and the order's status and W after every call
pub record PieceF : Type 0 where
  pub turning : turning_day every_day 50 1 50 ≡ 52
  pub arrives : order_for 7 1 (last_book (fresh_book 50) arrived) ≡ Some waiting
  pub answered : answers_of hung ≡ 14 ∷ 0 ∷ 13 ∷ 0 ∷ 0 ∷ 8 ∷ 0 ∷ 1 ∷ 0 ∷ 14 ∷ 0 ∷ 0 ∷ 0 ∷ 0 ∷ 0 ∷ 0 ∷ []
  pub statuses : statuses 7 1 hung ≡ 1 ∷ 1 ∷ 1 ∷ 1 ∷ 4 ∷ 4 ∷ 4 ∷ 4 ∷ 4 ∷ 4 ∷ 4 ∷ 4 ∷ 4 ∷ 4 ∷ 4 ∷ 6 ∷ []
  pub pending : pendings 7 1 hung ≡ 0 ∷ 0 ∷ 0 ∷ 0 ∷ 0 ∷ 0 ∷ 0 ∷ 0 ∷ 1 ∷ 1 ∷ 2 ∷ 3 ∷ 4 ∷ 5 ∷ 6 ∷ 0 ∷ []
  pub unnamed : all_of (is_unnamed 7 1) hung ≡ true
  pub there : all_of (λ (m : Made). is_there (order_for 7 1 m.reply.book)) hung ≡ true
  pub over : turning_of every_day (last_book (fresh_book 50) arrived).today waiting + 7 ≤ (last_book (fresh_book 50) (arrived ++ hung)).today

-- ---- 20 business days: two a week, and a drop of day 0 whose RD is far off
unfoldable pub week : List ℕ
week = 0 ∷ 0 ∷ 2 ∷ 2 ∷ 2 ∷ 2 ∷ 2 ∷ []

unfoldable pub two_aweek : List ℕ
two_aweek = week ++ week ++ week ++ week ++ week ++ week ++ week ++ week ++ week ++ week ++ week

abbrev pub marks_from : ℕ → ℕ → List Feed
marks_from zero day = []
marks_from (suc many) day = enough (mark_of day) ∷ marks_from many (suc day)

unfoldable pub long_wait : List Made
long_wait = plays two_aweek (fresh_book 0) (enough (record24 1 0 0 0 7 101) ∷ enough (record24 3 5 200 1 7 202) ∷ marks_from 71 1)

pub record TwentyDays : Type 0 where
  pub turning : turning_day two_aweek 0 1 200 ≡ 64
  pub statuses : statuses 7 1 long_wait ≡ 0 ∷ replicate 64 1 ++ (replicate 7 4 ++ (6 ∷ []))

pub record Comes : Type 0 where
  pub f : PieceF
  pub twenty : TwentyDays
