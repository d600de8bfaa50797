-- Pairs of tapes, computed: what is compared, and what must be said. The records are those of demand 3's sample.
use Rattle.std.specs.Prelude.{ℕ, zero, suc, ◌≡◌, List, [], ◌∷◌, ◌++◌, map, Bool, true, false, cond, not, ◌&&◌, eqb, length, replicate}
use Rattle.lists.specs.Search.{all_of}
use Rattle.records.specs.Layout.{record_length}
use Rattle.premise.specs.Refusals.{number}
use Rattle.book.specs.Book.{files_of, fresh_book}
use Rattle.demands.specs.Demand3.{Made, last_book, SameBooks}
use Rattle.demands.specs.Sample.{plays, plain, create7, create5, order7, order5, scheduled7, scheduled5, mark1, malformed, calendar}
use Rattle.tape_agreement_rules.specs.declared.Agreement.TheVariants.{Same}
use Rattle.tape_agreement_rules.specs.Agreement.{says_yes, number_given, agreement, Compared}

-- a tape of some records
abbrev pub joined : List (List ℕ) → List ℕ
joined [] = []
joined (bytes ∷ rest) = bytes ++ joined rest

-- 24 bytes of no kind
abbrev pub no_kind : List ℕ
no_kind = replicate record_length 0

-- demand 3's sample as a tape, and its shuffle, which has more malformed ones, the last of them short
abbrev pub sample : List (List ℕ)
sample = create7 ∷ create5 ∷ order7 ∷ create7 ∷ order5 ∷ no_kind ∷ scheduled5 ∷ scheduled7 ∷ mark1 ∷ mark1 ∷ []

abbrev pub shuffled : List (List ℕ)
shuffled = create5 ∷ order5 ∷ create7 ∷ no_kind ∷ no_kind ∷ order7 ∷ scheduled5 ∷ create7 ∷ scheduled7 ∷ mark1 ∷ mark1 ∷ malformed ∷ []

-- the sample with premise 5's create behind its order
abbrev pub turned : List (List ℕ)
turned = create7 ∷ order5 ∷ order7 ∷ create7 ∷ create5 ∷ no_kind ∷ scheduled5 ∷ scheduled7 ∷ mark1 ∷ mark1 ∷ []

-- the mark of day 2; creates of premise 5 with a retailer that has another fourth byte, and of the first and the last premise there is
abbrev pub mark2 : List ℕ
mark2 = plain 10 0 2 0 0 0 0

abbrev pub created : List ℕ → List ℕ → List ℕ
created premise retailer = (1 ∷ 0 ∷ 0 ∷ 0 ∷ 0 ∷ 0 ∷ 0 ∷ 0 ∷ []) ++ premise ++ retailer ++ (0 ∷ 0 ∷ 0 ∷ 0 ∷ [])

abbrev pub elsewhere5 : List ℕ
elsewhere5 = created (5 ∷ replicate 7 0) (102 ∷ 0 ∷ 0 ∷ 1 ∷ [])

abbrev pub create_first : List ℕ
create_first = created (1 ∷ replicate 7 0) (replicate 4 0)

abbrev pub create_last : List ℕ
create_last = created (replicate 8 255) (replicate 4 0)

-- 64 creates, a retire of the first, and a 65th create: the last two either way round
abbrev pub creates : ℕ → ℕ → List (List ℕ)
creates zero from = []
creates (suc many) from = plain 1 0 0 0 0 from 0 ∷ creates many (suc from)

abbrev pub retire_then_create : List (List ℕ)
retire_then_create = creates 64 1 ++ (plain 2 0 0 0 0 1 0 ∷ creates 1 65)

abbrev pub create_then_retire : List (List ℕ)
create_then_retire = creates 65 1 ++ (plain 2 0 0 0 0 1 0 ∷ [])

-- ---- the cases
pub record Case : Type 0 where
  pub ours : List (List ℕ)
  pub theirs : List (List ℕ)
  pub yes : Bool
  pub number : ℕ

abbrev pub yes : List (List ℕ) → List (List ℕ) → Case
yes ours theirs = record { ours = ours; theirs = theirs; yes = true; number = 0 }

abbrev pub no : ℕ → List (List ℕ) → List (List ℕ) → Case
no number ours theirs = record { ours = ours; theirs = theirs; yes = false; number = number }

abbrev pub cases : List Case
cases =
    yes sample shuffled
    ∷ no 5 sample turned
    ∷ no 0 sample (sample ++ (mark1 ∷ []))
    ∷ no 0 (sample ++ (mark1 ∷ [])) turned
    ∷ no 0 (mark1 ∷ []) (mark2 ∷ [])
    ∷ no 5 (create5 ∷ mark1 ∷ []) (mark1 ∷ create5 ∷ [])
    ∷ no 5 (create7 ∷ create5 ∷ []) []
    ∷ no 5 [] (create7 ∷ create5 ∷ [])
    ∷ no 5 (create5 ∷ create7 ∷ []) (create_last ∷ [])
    ∷ no 5 (create5 ∷ []) (elsewhere5 ∷ [])
    ∷ no 5 (order5 ∷ []) (order5 ∷ order5 ∷ [])
    ∷ no 1 (create_first ∷ []) []
    ∷ no 18446744073709551615 [] (create_last ∷ [])
    ∷ yes (no_kind ∷ malformed ∷ []) []
    ∷ yes [] []
    ∷ yes retire_then_create create_then_retire
    ∷ []

abbrev pub same : Bool → Bool → Bool
same a b = cond a b (not b)

abbrev pub holds : Case → Bool
holds c =
    let came = agreement (joined c.ours) (joined c.theirs) in
    same (says_yes came) c.yes && eqb (number_given came) c.number

abbrev pub all_hold : Bool
all_hold = all_of holds cases

-- ---- books
-- calls on some records from a fresh book, by the definition of the call; the answers, and how many files the last book has
abbrev pub called : List ℕ → List (List ℕ) → List Made
called days records = plays days (fresh_book 0) records

abbrev pub answered : List Made → List ℕ
answered ms = map (λ (m : Made). number m.reply.answer) ms

abbrev pub files_left : List Made → ℕ
files_left ms = length (files_of (last_book (fresh_book 0) ms))

-- The sample and its shuffle: the answer is yes, and from that answer their books are equal. Of a create in front of the retire that makes
-- room for it the answer is yes too; but the create is answered 6, and the books differ: so no yes speaks of tapes that are answered 6.
pub record Comes : Type 0 where
  pub same : Compared (joined sample) (joined shuffled) Same
  pub books : SameBooks 0 (called calendar sample) (called calendar shuffled)
  pub room : answered (called [] retire_then_create) ≡ replicate 66 0
  pub full : answered (called [] create_then_retire) ≡ replicate 64 0 ++ (6 ∷ 0 ∷ [])
  pub left : files_left (called [] retire_then_create) ≡ 64
  pub fewer : files_left (called [] create_then_retire) ≡ 63
