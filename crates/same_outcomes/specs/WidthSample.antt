-- Two lists of calls to be made that are computed. Of the first, whose records have nine digits at most, `EitherWidth` speaks. Of the
-- second, whose records have more, it doesn't: there the two sides differ.
use Rattle.std.specs.Prelude.{ℕ, ◌≡◌, List, [], ◌∷◌, map, replicate}
use Rattle.records.specs.Layout.{Layout, wide, narrow}
use Rattle.records.specs.Notices.{rows}
use Rattle.premise.specs.Orders.{kept_width}
use Rattle.book.specs.declared.Book.{Book}
use Rattle.book.specs.Book.{fresh_book}
use Rattle.book.specs.Calls.{call_by}
use Rattle.demands.specs.Sample.{lent, plain}
use Rattle.same_outcomes.specs.Outcomes.{Outcome, ToMake, outcomes_by}
use Rattle.same_outcomes.specs.EitherWidth.{NoLongRetailer}

-- a record or a notice of premise 7 by its kind or code, detail, day and reference, and its bytes from 16 on
abbrev bytes_of7 : ℕ → ℕ → ℕ → ℕ → List ℕ → List ℕ
bytes_of7 kind detail day reference retailer =
    kind ∷ detail ∷ day ∷ 0 ∷ reference ∷ 0 ∷ 0 ∷ 0 ∷ 7 ∷ 0 ∷ 0 ∷ 0 ∷ 0 ∷ 0 ∷ 0 ∷ 0 ∷ retailer

-- a record with the shortest buffer that is taken
unfoldable pub asking : List ℕ → ToMake
asking bytes = record { bytes = bytes; lent = lent }

-- eight bytes of 999,999,999, of 1,000,000,000, of 4,294,967,297, of 9,999,999,999,999 and of 10,000,000,000,000
abbrev pub nine_nines : List ℕ
nine_nines = 255 ∷ 201 ∷ 154 ∷ 59 ∷ 0 ∷ 0 ∷ 0 ∷ 0 ∷ []

abbrev pub ten_digits : List ℕ
ten_digits = 0 ∷ 202 ∷ 154 ∷ 59 ∷ 0 ∷ 0 ∷ 0 ∷ 0 ∷ []

abbrev pub like_one : List ℕ
like_one = 1 ∷ 0 ∷ 0 ∷ 0 ∷ 1 ∷ 0 ∷ 0 ∷ 0 ∷ []

abbrev pub thirteen_nines : List ℕ
thirteen_nines = 255 ∷ 159 ∷ 114 ∷ 78 ∷ 24 ∷ 9 ∷ 0 ∷ 0 ∷ []

abbrev pub fourteen_digits : List ℕ
fourteen_digits = 0 ∷ 160 ∷ 114 ∷ 78 ∷ 24 ∷ 9 ∷ 0 ∷ 0 ∷ []

-- create premise 7 with a retailer
unfoldable pub create : List ℕ → ToMake
create retailer = asking (bytes_of7 1 0 0 0 retailer)

-- ---- nine digits at most
-- a move in of retailer 202 for day 40, reference 1, and that day for it changed to 50, with the last counter in 16 to 19
unfoldable pub move_in : ToMake
move_in = asking (plain 3 1 40 0 1 7 202)

unfoldable pub redated : ToMake
redated = asking (bytes_of7 11 0 50 1 (255 ∷ 255 ∷ 255 ∷ 255 ∷ 0 ∷ 0 ∷ 0 ∷ 0 ∷ []))

-- scheduled for day 11, which is in window
unfoldable pub scheduled : ToMake
scheduled = asking (plain 4 0 11 0 1 7 0)

-- an agreement with 201
unfoldable pub established : ToMake
established = asking (plain 12 1 0 0 0 7 201)

-- the mark of day 11, with a buffer that is too short and with one that is taken
unfoldable pub short_mark : ToMake
short_mark = record { bytes = plain 10 0 11 0 0 0 0; lent = 9 ∷ [] }

unfoldable pub mark : ToMake
mark = asking (plain 10 0 11 0 0 0 0)

-- bytes that are malformed: a create of 25 bytes with one in 20 to 23, of which nothing is asked, and a retire with a retailer
unfoldable pub too_long : ToMake
too_long = asking (bytes_of7 1 0 0 0 (1 ∷ 0 ∷ 0 ∷ 0 ∷ 1 ∷ 0 ∷ 0 ∷ 0 ∷ 0 ∷ []))

unfoldable pub retire_of5 : ToMake
retire_of5 = asking (plain 2 0 0 0 0 7 5)

unfoldable pub nine_digits : List ToMake
nine_digits =
    create nine_nines ∷ move_in ∷ redated ∷ short_mark ∷ too_long ∷ retire_of5 ∷ established ∷ scheduled ∷ mark ∷ []

-- ---- more digits
-- a switch of a thirteen-digit retailer for day 11, reference 1
unfoldable pub long_switch : ToMake
long_switch = asking (bytes_of7 3 4 11 1 thirteen_nines)

-- a date change with 4,294,967,296 in 16 to 23, and a retire with a byte in 20 to 23
unfoldable pub wide_counter : ToMake
wide_counter = asking (bytes_of7 11 0 50 1 (0 ∷ 0 ∷ 0 ∷ 0 ∷ 1 ∷ 0 ∷ 0 ∷ 0 ∷ []))

unfoldable pub retire_of_rest : ToMake
retire_of_rest = asking (bytes_of7 2 0 0 0 (0 ∷ 0 ∷ 0 ∷ 0 ∷ 0 ∷ 0 ∷ 0 ∷ 1 ∷ []))

unfoldable pub more_digits : List ToMake
more_digits =
    create fourteen_digits ∷ create ten_digits ∷ long_switch ∷ scheduled ∷ wide_counter ∷ retire_of_rest ∷ []

-- ---- played from day 10 on, every day a business day
unfoldable pub outcomes : Layout → List ToMake → List Outcome
outcomes layout cs = outcomes_by layout kept_width (replicate 20 0) (fresh_book 10) cs

unfoldable pub answers : List Outcome → List ℕ
answers xs = map (λ (x : Outcome). x.answer) xs

-- the notices in each buffer on return
unfoldable pub told : List Outcome → List (List (List ℕ))
told xs = map (λ (x : Outcome). rows x.sent x.after) xs

-- the book that the wide rules leave after a create with a retailer, and a mark on it by a layout
unfoldable pub book_with : List ℕ → Book
book_with retailer = (call_by wide kept_width [] (fresh_book 10) (create retailer).bytes lent).book

unfoldable pub marked : Layout → List ℕ → List ℕ
marked layout retailer = answers (outcomes_by layout kept_width [] (book_with retailer) (mark ∷ []))

-- ---- the notices: of the move in and its new day to the TDSP, of the agreement to 201, of the scheduled day to 202 and 999,999,999
unfoldable pub told_of_nine : List (List (List ℕ))
told_of_nine =
    [] ∷ (plain 1 1 40 0 1 7 0 ∷ []) ∷ (plain 9 1 50 0 1 7 0 ∷ []) ∷ [] ∷ [] ∷ [] ∷ (plain 11 0 0 0 0 7 201 ∷ [])
    ∷ (plain 3 1 11 0 1 7 202 ∷ bytes_of7 4 1 11 1 nine_nines ∷ [])
    ∷ [] ∷ []

-- of the long switch to the TDSP, and of its day to its retailer and to 1,000,000,000
unfoldable pub told_of_more : List (List (List ℕ))
told_of_more =
    [] ∷ [] ∷ (plain 1 4 11 0 1 7 0 ∷ []) ∷ (bytes_of7 3 4 11 1 thirteen_nines ∷ bytes_of7 4 4 11 1 ten_digits ∷ []) ∷ [] ∷ [] ∷ []

pub record Comes : Type 0 where
  -- the theorem's premise is met, and it is about something
  pub nine : NoLongRetailer nine_digits
  pub answered : answers (outcomes narrow nine_digits) ≡ 0 ∷ 0 ∷ 0 ∷ 1 ∷ 3 ∷ 3 ∷ 0 ∷ 0 ∷ 0 ∷ []
  pub by_narrow : told (outcomes narrow nine_digits) ≡ told_of_nine
  -- 1,000,000,000 gets 3 by the narrow rules and is taken by the wide ones ..
  pub ten_refused : answers (outcomes narrow (create ten_digits ∷ [])) ≡ 3 ∷ []
  pub ten_taken : answers (outcomes wide (create ten_digits ∷ [])) ≡ 0 ∷ []
  -- .. which take and tell all up to thirteen digits
  pub narrow_refuses : answers (outcomes narrow more_digits) ≡ 3 ∷ 3 ∷ 3 ∷ 4 ∷ 3 ∷ 3 ∷ []
  pub wide_takes : answers (outcomes wide more_digits) ≡ 3 ∷ 0 ∷ 0 ∷ 0 ∷ 3 ∷ 3 ∷ []
  pub by_wide : told (outcomes wide more_digits) ≡ told_of_more
  -- bytes in 20 to 23 alone tell the two apart
  pub rest_refused : answers (outcomes narrow (create like_one ∷ [])) ≡ 3 ∷ []
  pub rest_taken : answers (outcomes wide (create like_one ∷ [])) ≡ 0 ∷ []
  -- a book with a retailer of more digits is well kept by the wide rules, and gets 2 by the narrow ones
  pub book_damaged : marked narrow ten_digits ≡ 2 ∷ []
  pub book_kept_lem : marked wide ten_digits ≡ 0 ∷ []
  pub both_kept : marked narrow nine_nines ≡ 0 ∷ []

-- The premise is needed: with more digits, or with bytes in 20 to 23, the two sides are not the same.
abbrev pub WidthTells : Type 0
WidthTells = outcomes narrow (create ten_digits ∷ []) ≡ outcomes wide (create ten_digits ∷ []) → ⊥

abbrev pub RestTells : Type 0
RestTells = outcomes narrow (create like_one ∷ []) ≡ outcomes wide (create like_one ∷ []) → ⊥
