-- Stretches of tape, computed: what is handed in, and what must come back. The records are those of demand 3's sample.
use Rattle.std.specs.Prelude.{ℕ, ◌+◌, ◌*◌, ◌≡◌, List, [], ◌∷◌, ◌++◌, Bool, true, false, ◌&&◌, eqb, length, take, drop, replicate}
use Rattle.lists.specs.Search.{all_of}
use Rattle.records.specs.Layout.{record_length}
use Rattle.records.specs.Notices.{encode_all}
use Rattle.premise.specs.declared.File.{File}
use Rattle.premise.specs.Steps.{new_file}
use Rattle.book.specs.declared.Book.{Book}
use Rattle.book.specs.Book.{files_of, book_of, fresh_book}
use Rattle.book.specs.Calls.{notice_bytes}
use Rattle.book.specs.CallsInRow.{answers_of, notices_of}
use Rattle.demands.specs.Demand3.{last_book}
use Rattle.demands.specs.Sample.{plays, create7, create5, order7, order5, scheduled7, scheduled5, mark1, malformed, calendar}
use Rattle.demands.specs.Sample.{ordered7, ordered5, dated7, dated5, losing7, losing5}
use Rattle.stretch_rules.specs.Stretch.{number, joined, Outcome, stretch_call}
use Rattle.stretch_rules.specs.Stretches.{MadeStretch, answers_given, SameBooksOfStretches}

-- ---- the tape
-- 24 bytes of no kind
abbrev pub no_kind : List ℕ
no_kind = replicate record_length 0

abbrev pub sample : List (List ℕ)
sample = create7 ∷ create5 ∷ order7 ∷ create7 ∷ order5 ∷ no_kind ∷ scheduled5 ∷ scheduled7 ∷ mark1 ∷ mark1 ∷ []

-- as one stretch
abbrev pub ten : List ℕ
ten = joined sample

-- ---- books: a fresh one, and one in which a premise stands twice, which is not well kept
abbrev pub file_of : ℕ → File
file_of premise = new_file (record { kind = 1; detail = 0; day = 0; reference = 0; premise = premise; retailer = 101 })

abbrev pub damaged : Book
damaged = book_of 5 (file_of 10 ∷ file_of 10 ∷ [])

-- ---- the cases: a book, a stretch, how many answer bytes and how many notice bytes are lent; the number, the answers of the records
-- played and the bytes of their notices that must come back
pub record Case : Type 0 where
  pub book : Book
  pub tape : List ℕ
  pub places : ℕ
  pub free : ℕ
  pub answer : ℕ
  pub answers : List ℕ
  pub notices : List ℕ

abbrev pub case : Book → List ℕ → ℕ → ℕ → ℕ → List ℕ → List ℕ → Case
case book tape places free answer answers notices =
    record { book = book; tape = tape; places = places; free = free; answer = answer; answers = answers; notices = notices }

abbrev pub cases : List Case
cases =
    -- the third notice leaves fewer than 24,576 bytes: seven records of ten are played
    case (fresh_book 0) ten 10 (notice_bytes + record_length * 2) 0 (0 ∷ 0 ∷ 0 ∷ 5 ∷ 0 ∷ 3 ∷ 0 ∷ []) (ordered7 ++ ordered5 ++ dated5)
    -- room for all of them and more answers than records; a short rest is not played
    ∷ case (fresh_book 0) (ten ++ malformed) 12 (notice_bytes + record_length * 6) 0 (0 ∷ 0 ∷ 0 ∷ 5 ∷ 0 ∷ 3 ∷ 0 ∷ 0 ∷ 0 ∷ 15 ∷ [])
    (ordered7 ++ ordered5 ++ dated5 ++ dated7 ++ losing5 ++ losing7)
    -- after the first notice fewer are free: the create that would be refused, and would give none, is not played either
    ∷ case (fresh_book 0) ten 10 notice_bytes 0 (0 ∷ 0 ∷ 0 ∷ []) ordered7
    ∷ case (fresh_book 0) ten 10 (notice_bytes + 23) 0 (0 ∷ 0 ∷ 0 ∷ []) ordered7
    -- with a byte less none is played; nor of fewer than 24 bytes of tape
    ∷ case (fresh_book 0) ten 10 24575 0 [] []
    ∷ case (fresh_book 0) (take 23 create7) 0 notice_bytes 0 [] []
    ∷ case (fresh_book 0) [] 0 0 0 [] []
    -- an answer buffer of nine: 19, though seven would be played, and also where none would be, or the book is not well kept
    ∷ case (fresh_book 0) ten 9 (notice_bytes + record_length * 2) 19 [] []
    ∷ case (fresh_book 0) ten 9 0 19 [] []
    ∷ case damaged ten 9 notice_bytes 19 [] []
    -- a damaged book: every record is answered 2; without room none is
    ∷ case damaged (joined (create7 ∷ no_kind ∷ mark1 ∷ []) ++ malformed) 3 notice_bytes 0 (2 ∷ 2 ∷ 2 ∷ []) []
    ∷ case damaged (joined (create7 ∷ no_kind ∷ mark1 ∷ [])) 3 24575 0 [] []
    ∷ []

abbrev pub same_numbers : List ℕ → List ℕ → Bool
same_numbers [] [] = true
same_numbers [] (y ∷ ys) = false
same_numbers (x ∷ xs) [] = false
same_numbers (x ∷ xs) (y ∷ ys) = eqb x y && same_numbers xs ys

abbrev pub holds : Case → Bool
holds c =
    let came : Outcome = stretch_call calendar c.book c.tape c.places c.free in
    let results = came.course.results in
    eqb (number came.answer) c.answer && (same_numbers (answers_of results) c.answers
    && same_numbers (encode_all (notices_of results)) c.notices)

abbrev pub all_hold : Bool
all_hold = all_of holds cases

-- ---- the book: that of single calls on the seven records, each with a buffer of its own; a damaged one as it was
pub record Books : Type 0 where
  pub seven : (stretch_call calendar (fresh_book 0) ten 10 (notice_bytes + record_length * 2)).course.book
      ≡ last_book (fresh_book 0) (plays calendar (fresh_book 0) (take 7 sample))
  pub files : length (files_of (stretch_call calendar (fresh_book 0) ten 10 (notice_bytes + record_length * 2)).course.book) ≡ 2
  pub same : (stretch_call calendar damaged (joined (create7 ∷ no_kind ∷ mark1 ∷ [])) 3 notice_bytes).course.book ≡ damaged

-- ---- demand 3 of stretches: the sample as one, and a shuffle of it as two, each made by the definition of the call
-- buffers that are long enough for each
abbrev pub answers_lent : List ℕ
answers_lent = replicate 12 165

unfoldable pub notices_lent : List ℕ
notices_lent = replicate (notice_bytes + record_length * 6) 165

unfoldable pub made_stretch : Book → List ℕ → MadeStretch
made_stretch b tape =
    let x = stretch_call calendar b tape (length answers_lent) (length notices_lent) in
    let results = x.course.results in
    record {
      tape = tape;
      answers_lent = answers_lent;
      notices_lent = notices_lent;
      replies = record {
        answer = x.answer;
        played = length results;
        sent = length (notices_of results);
        book = x.course.book;
      };
      answers_after = answers_of results ++ drop (length (answers_of results)) answers_lent;
      notices_after = encode_all (notices_of results) ++ drop (record_length * length (notices_of results)) notices_lent;
    }

abbrev pub stretches : Book → List (List ℕ) → List MadeStretch
stretches b [] = []
stretches b (tape ∷ tapes) = let s = made_stretch b tape in s ∷ stretches s.replies.book tapes

-- premise 5 comes first, and the stretch ends behind a record of no kind
abbrev pub first : List (List ℕ)
first = create5 ∷ order5 ∷ create7 ∷ no_kind ∷ []

abbrev pub second : List (List ℕ)
second = order7 ∷ scheduled5 ∷ create7 ∷ scheduled7 ∷ mark1 ∷ mark1 ∷ []

abbrev pub whole : List MadeStretch
whole = stretches (fresh_book 0) (ten ∷ [])

abbrev pub cut : List MadeStretch
cut = stretches (fresh_book 0) (joined first ∷ joined second ∷ [])

abbrev pub whole_answers : List ℕ
whole_answers = 0 ∷ 0 ∷ 0 ∷ 5 ∷ 0 ∷ 3 ∷ 0 ∷ 0 ∷ 0 ∷ 15 ∷ []

abbrev pub cut_answers : List ℕ
cut_answers = 0 ∷ 0 ∷ 0 ∷ 3 ∷ 0 ∷ 0 ∷ 5 ∷ 0 ∷ 0 ∷ 15 ∷ []

pub record Shuffled : Type 0 where
  pub one : answers_given whole ≡ whole_answers
  pub two : answers_given cut ≡ cut_answers
  pub same : SameBooksOfStretches 0 whole cut
