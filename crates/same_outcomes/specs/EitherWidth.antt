-- Document 02, change 7, its last sentence: "A tape whose records have zero in 20 to 23 and at most 999,999,999 in the retailer field plays
-- from a fresh book to equal answers, field values in the book and notice bytes under the same rules and calendar with either field width,
-- and that is to be shown for all such tapes, not tried on some." proofs/EitherWidth.antt proves it.
use Rattle.std.specs.Prelude.{ℕ, ◌≤◌, ◌≡◌, List, length}
use Rattle.lists.specs.Search.{Each}
use Rattle.records.specs.Layout.{record_length, wide, narrow, kind_field, field_of}
use Rattle.records.specs.Records.{kind_date_change}
use Rattle.premise.specs.Orders.{kept_width}
use Rattle.book.specs.Book.{fresh_book}
use Rattle.demands.specs.Demand3.{Made, Played, PlayedBy}
use Rattle.same_outcomes.specs.Outcomes.{ToMake, outcomes_by, all_returned, asked}

-- ---- the premise
-- A record's bytes with "zero in 20 to 23 and at most 999,999,999 in the retailer field". A date change has no retailer there: its counter,
-- in 16 to 19, may be any.
pub record NineDigits (bytes : List ℕ) : Type 0 where
  pub rest : field_of narrow.rest bytes ≡ 0
  pub retailer : (field_of kind_field bytes ≡ kind_date_change → ⊥) → field_of narrow.retailer bytes ≤ 999999999

-- Every record has. Bytes of another length than 24 get 3 with either width and need no premise.
abbrev pub NoLongRetailer : List ToMake → Type 0
NoLongRetailer cs = Each (λ (c : ToMake). length c.bytes ≡ record_length → NineDigits c.bytes) cs

-- ---- the theorem
abbrev pub EitherWidth : Type 0
EitherWidth =
    (calendar : List ℕ) (start : ℕ) (cs : List ToMake) → NoLongRetailer cs
    → outcomes_by narrow kept_width calendar (fresh_book start) cs ≡ outcomes_by wide kept_width calendar (fresh_book start) cs

-- ---- of calls that were made
-- Calls that were made from a fresh book returned what the rules with the narrow field give ..
abbrev pub MadeAsNarrow : Type 0
MadeAsNarrow =
    (calendar : List ℕ) (start : ℕ) (ms : List Made)
    → Played calendar (fresh_book start) ms → NoLongRetailer (asked ms)
    → all_returned ms ≡ outcomes_by narrow kept_width calendar (fresh_book start) (asked ms)

-- .. which is what calls return that keep the promise by the narrow layout.
abbrev pub MadeWithEither : Type 0
MadeWithEither =
    (calendar : List ℕ) (start : ℕ) (old new : List Made)
    → PlayedBy narrow calendar (fresh_book start) old → PlayedBy wide calendar (fresh_book start) new
    → asked old ≡ asked new → NoLongRetailer (asked new)
    → all_returned old ≡ all_returned new
