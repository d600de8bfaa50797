-- Two lists of calls to be made that are computed. Of the first, whose create has detail 0, `WindowOfTwo` speaks; it tells the same by the
-- kept width and by 2, and another by 3. Of the second, with a create of detail 5, it doesn't: there the two sides differ.
use Rattle.std.specs.Prelude.{ℕ, ◌≡◌, List, [], ◌∷◌, map, replicate}
use Rattle.records.specs.Notices.{rows}
use Rattle.premise.specs.declared.File.{File}
use Rattle.premise.specs.Orders.{kept_width, always}
use Rattle.book.specs.Book.{fresh_book}
use Rattle.demands.specs.Sample.{lent, plain, malformed}
use Rattle.same_outcomes.specs.Outcomes.{Outcome, ToMake}
use Rattle.same_outcomes.specs.WindowOfTwo.{outcomes_with, NoCreateHasDetail}

-- a record with the shortest buffer that is taken
unfoldable pub asking : List ℕ → ToMake
asking bytes = record { bytes = bytes; lent = lent }

-- create premise 7 with retailer 101, by a detail
unfoldable pub create : ℕ → ToMake
create detail = asking (plain 1 detail 0 0 0 7 101)

-- a self-selected switch to 202 for day 13, and that day for it: two business days off on day 11, three on day 10
unfoldable pub switch : ToMake
switch = asking (plain 3 4 13 0 1 7 202)

unfoldable pub scheduled : ToMake
scheduled = asking (plain 4 0 13 0 1 7 0)

-- the mark of day 11, and the same with a buffer that is too short
unfoldable pub mark : ToMake
mark = asking (plain 10 0 11 0 0 0 0)

unfoldable pub short_mark : ToMake
short_mark = record { bytes = plain 10 0 11 0 0 0 0; lent = 9 ∷ [] }

-- bytes that are malformed: one alone, and a create of detail 6
unfoldable pub one_alone : ToMake
one_alone = asking malformed

unfoldable pub with_detail0 : List ToMake
with_detail0 = create 0 ∷ switch ∷ short_mark ∷ one_alone ∷ create 6 ∷ scheduled ∷ mark ∷ []

unfoldable pub with_detail5 : List ToMake
with_detail5 = create 5 ∷ switch ∷ scheduled ∷ mark ∷ []

-- played from day 10 on, every day a business day
unfoldable pub outcomes : (File → ℕ) → List ToMake → List Outcome
outcomes width cs = outcomes_with width (replicate 20 0) (fresh_book 10) cs

unfoldable pub answers : List Outcome → List ℕ
answers xs = map (λ (x : Outcome). x.answer) xs

-- the notices in each buffer on return
unfoldable pub told : List Outcome → List (List (List ℕ))
told xs = map (λ (x : Outcome). rows x.sent x.after) xs

-- ---- the notices: the switch to the TDSP, its day to 202, and to 101, which loses the premise
unfoldable pub announced : List ℕ
announced = plain 1 4 13 0 1 7 0

unfoldable pub dated : List ℕ
dated = plain 3 4 13 0 1 7 202

unfoldable pub losing : List ℕ
losing = plain 4 4 13 0 1 7 101

pub record Comes : Type 0 where
  pub no_detail : NoCreateHasDetail with_detail0
  pub answered : answers (outcomes kept_width with_detail0) ≡ 0 ∷ 0 ∷ 1 ∷ 3 ∷ 3 ∷ 0 ∷ 0 ∷ []
  -- the mark brings the switch into window ..
  pub by_kept : told (outcomes kept_width with_detail0) ≡ [] ∷ (announced ∷ []) ∷ [] ∷ [] ∷ [] ∷ (dated ∷ []) ∷ (losing ∷ []) ∷ []
  -- .. in which it would have been at once with another width throughout
  pub by_three : told (outcomes (always 3) with_detail0) ≡ [] ∷ (announced ∷ []) ∷ [] ∷ [] ∷ [] ∷ (dated ∷ losing ∷ []) ∷ [] ∷ []
  pub kept_five : told (outcomes kept_width with_detail5) ≡ [] ∷ (announced ∷ []) ∷ (dated ∷ losing ∷ []) ∷ [] ∷ []
  pub by_two : told (outcomes (always 2) with_detail5) ≡ [] ∷ (announced ∷ []) ∷ (dated ∷ []) ∷ (losing ∷ []) ∷ []

-- The premise is needed: with a create of another detail the two sides are not the same.
abbrev pub DetailTells : Type 0
DetailTells = outcomes kept_width with_detail5 ≡ outcomes (always 2) with_detail5 → ⊥
