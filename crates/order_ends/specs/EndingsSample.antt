-- A list of calls that is computed, of which the first theorem speaks, and in which "until" is seen to be needed: reference 1 is Complete,
-- stays so, is dropped, is used anew and becomes Unexecutable; at another premise it is Unexecutable and goes with its premise. Strewn in:
-- a refused record that names it, and a retire with a short buffer.
use Rattle.std.specs.Prelude.{◌≡◌, List, [], ◌∷◌, true, ℕ}
use Rattle.std.specs.Prelude.{Some}
use Rattle.lists.specs.Search.{all_of}
use Rattle.premise.specs.declared.Order.{Order}
use Rattle.premise_laws.specs.Endings.{is_there}
use Rattle.book.specs.Book.{fresh_book}
use Rattle.demands.specs.Demand3.{Made, last_book}
use Rattle.order_ends.specs.Endings.{order_for}
use Rattle.order_ends.specs.Plays.{Feed, enough, short, plays, record24, answers_of, statuses}

-- a drop on premise 7 for day 5, by its reference and its retailer: no limit of days refuses it
unfoldable pub drop_of : ℕ → ℕ → Feed
drop_of reference retailer = enough (record24 3 5 5 reference 7 retailer)

-- premise 7 with a drop that is scheduled and read on day 5
unfoldable pub first : List Feed
first = enough (record24 1 0 0 0 7 101) ∷ drop_of 1 202 ∷ enough (record24 4 0 5 1 7 0) ∷ enough (record24 7 0 5 1 7 0) ∷ []

-- seven more; a second read of the first gets 14, and a retire with a short buffer 1; premise 5 with a drop of the same reference,
-- Unexecutable
unfoldable pub second : List Feed
second =
    enough (record24 7 0 6 1 7 0)
    ∷ enough (record24 1 0 0 0 5 101)
    ∷ short (record24 2 0 0 0 7 0)
    ∷ drop_of 2 203
    ∷ drop_of 3 203
    ∷ drop_of 4 203
    ∷ drop_of 5 203
    ∷ drop_of 6 204
    ∷ drop_of 7 204
    ∷ drop_of 8 204
    ∷ enough (record24 3 5 5 1 5 202)
    ∷ enough (record24 6 0 0 1 5 0)
    ∷ []

-- the ninth, which drops the first; the second Unexecutable, so that there is room; reference 1 anew, and Unexecutable; premise 5 retired
unfoldable pub third : List Feed
third =
    drop_of 9 205
    ∷ enough (record24 6 0 0 2 7 0)
    ∷ drop_of 1 205
    ∷ enough (record24 6 0 0 1 7 0)
    ∷ enough (record24 2 0 0 0 5 0)
    ∷ []

unfoldable pub completed : List Made
completed = plays [] (fresh_book 10) first

unfoldable pub kept : List Made
kept = plays [] (last_book (fresh_book 10) completed) second

unfoldable pub anew : List Made
anew = plays [] (last_book (last_book (fresh_book 10) completed) kept) third

-- the order when it is Complete
unfoldable pub done : Order
done =
    record {
      reference = 1;
      kind = 5;
      submitter = 202;
      requested = 5;
      scheduled = 5;
      status = 5;
      waited = record { 0 = 0 };
      pending = record { 0 = 0 };
      told = 1;
      counter = 0;
    }

-- ---- what comes out: the answers, and the status of reference 1 at both premises after every call, 0 where it is not there
pub record Comes : Type 0 where
  pub complete : order_for 7 1 (last_book (fresh_book 10) completed) ≡ Some done
  pub answered : answers_of kept ≡ 14 ∷ 0 ∷ 1 ∷ 0 ∷ 0 ∷ 0 ∷ 0 ∷ 0 ∷ 0 ∷ 0 ∷ 0 ∷ 0 ∷ []
  pub there : all_of (λ (m : Made). is_there (order_for 7 1 m.reply.book)) kept ≡ true
  pub statuses7 : statuses 7 1 anew ≡ 0 ∷ 0 ∷ 1 ∷ 7 ∷ 7 ∷ []
  pub statuses5 : statuses 5 1 anew ≡ 7 ∷ 7 ∷ 7 ∷ 7 ∷ 0 ∷ []
