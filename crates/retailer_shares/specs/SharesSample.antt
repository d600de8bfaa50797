-- A list of calls that is computed: a retailer with its four open orders at a premise, which is refused a fifth, and others, which are not.
use Rattle.std.specs.Prelude.{ℕ, ◌≡◌, List, [], ◌∷◌, ◌++◌, map, replicate}
use Rattle.records.specs.declared.Record.{Record}
use Rattle.premise.specs.declared.Order.{Order}
use Rattle.premise.specs.declared.File.{File}
use Rattle.premise.specs.Orders.{open_of, blank, held}
use Rattle.premise.specs.Refusals.{number}
use Rattle.book.specs.declared.Book.{Book}
use Rattle.book.specs.Book.{files_of, fresh_book}
use Rattle.demands.specs.Demand3.{Made, last_book}
use Rattle.demands.specs.Sample.{lent, plays, plain, create7}
use Rattle.retailer_shares.specs.Shares.{HasRoom}

-- a drop on premise 7 for day 5, by its reference and its retailer: no limit of days refuses it
unfoldable pub drop_of : ℕ → ℕ → List ℕ
drop_of reference retailer = plain 3 5 5 0 reference 7 retailer

-- premise 7 with four drops of 202 and one of 203
unfoldable pub beginning : List (List ℕ)
beginning = create7 ∷ drop_of 1 202 ∷ drop_of 2 202 ∷ drop_of 3 202 ∷ drop_of 4 202 ∷ drop_of 5 203 ∷ []

-- then a fifth of 202, and the first of 204
unfoldable pub tape : List (List ℕ)
tape = beginning ++ (drop_of 6 202 ∷ drop_of 6 204 ∷ [])

-- from day 10 on, with an empty calendar
unfoldable pub sample : List Made
sample = plays [] (fresh_book 10) tape

-- ---- the first of 204, as it is read, and what it finds
unfoldable pub third : Record
third = record { kind = 3; detail = 5; day = 5; reference = 6; premise = 7; retailer = 204 }

unfoldable pub dropped : ℕ → ℕ → Order
dropped reference submitter =
    record {
      reference = reference;
      kind = 5;
      submitter = submitter;
      requested = 5;
      scheduled = 4096;
      status = 1;
      waited = record { 0 = 0 };
      pending = record { 0 = 0 };
      told = 0;
      counter = 0;
    }

unfoldable pub file7 : File
file7 =
    record {
      premise = 7;
      retailer = 101;
      since = 0;
      window = 2;
      agreement = 0;
      entered = 0;
      count = 5;
      orders = (dropped 1 202 ∷ dropped 2 202 ∷ dropped 3 202 ∷ dropped 4 202 ∷ dropped 5 203 ∷ []) ++ replicate 3 blank;
    }

unfoldable pub found : Book
found = last_book (fresh_book 10) (plays [] (fresh_book 10) beginning)

-- ---- what comes out: the fifth is refused, the four stand, and there is room for the third retailer
pub record Comes : Type 0 where
  pub answered : map (λ (m : Made). number m.reply.answer) sample ≡ 0 ∷ 0 ∷ 0 ∷ 0 ∷ 0 ∷ 0 ∷ 26 ∷ 0 ∷ []
  pub shares : map (λ (f : File). open_of 202 (held f)) (files_of (last_book (fresh_book 10) sample)) ≡ 4 ∷ []
  pub room : HasRoom [] found (drop_of 6 204) lent third file7
