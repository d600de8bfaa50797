-- The output in stretches. A stretch plays records in a row, as many as surely find room for their text, and then puts that text into a
-- buffer of a fixed length; behind the last record's text comes the end, if it finds room.
use Rattle.std.specs.Prelude.{ℕ, zero, suc, ◌+◌, ◌*◌, ◌-◌, ◌≤◌, ◌<◌, ◌≡◌, List, [], ◌∷◌, ◌++◌, Bool, true, false, cond, leb, length, take, drop}
use Rattle.records.specs.Layout.{record_length}
use Rattle.book.specs.Book.{most_files, book_kept}
use Rattle.book.specs.Calls.{Result, notice_bytes}
use Rattle.book.specs.CallsInRow.{records_of, Course, calls_in_row, answers_of}
use Rattle.tape_text.specs.Numbers.{Puts}
use Rattle.tape_reader.specs.declared.Reader.{Reader}
use Rattle.tape_reader.specs.Counts.{most_records, counted, Sound}
use Rattle.tape_output.specs.Lengths.{most_notices, record_line_most, notice_line_most, file_line_most, total_line_most}
use Rattle.tape_output.specs.declared.Playing.{Playing}
use Rattle.tape_output.specs.declared.Stretch.{Stretch}
use Rattle.tape_output.specs.Output.{result_text, ending, starting, output, calendar_most, tape_most}

-- ---- room
-- the most that a record's text takes, and the end's
abbrev pub record_text_most : ℕ
record_text_most = record_line_most + notice_line_most * most_notices

abbrev pub ending_most : ℕ
ending_most = file_line_most * most_files + total_line_most

-- a stretch plays at most so many records, with notice bytes for two calls; the most that their text takes, with the end
abbrev pub stretch_records : ℕ
stretch_records = 256

abbrev pub stretch_notices : ℕ
stretch_notices = 2 * notice_bytes

abbrev pub stretch_text_most : ℕ
stretch_text_most = record_line_most * stretch_records + notice_line_most * (2 * most_notices) + ending_most

-- how many records are played at once, by the room for text: so many where there is room for their text and the end, else one where
-- there is room for its text
abbrev pub one_or_none : ℕ → ℕ
one_or_none room = cond (leb record_text_most room) 1 0

abbrev pub at_once : ℕ → ℕ
at_once room = cond (leb stretch_text_most room) stretch_records (one_or_none room)

-- ---- calls in a row, and their text
-- a reader after records with these answers
abbrev pub counted_all : Reader → List ℕ → Reader
counted_all reader [] = reader
counted_all reader (answer ∷ answers) = counted_all (counted reader answer) answers

abbrev pub after_calls : Reader → Course → Playing
after_calls reader course = record { reader = counted_all reader (answers_of course.results); book = course.book }

-- their text, behind a place of the tape
abbrev pub results_text : ℕ → List Result → List ℕ
results_text place [] = []
results_text place (x ∷ xs) = result_text (place + 1) x ++ results_text (place + 1) xs

-- ---- a stretch
-- what a stretch gives: its text, the tape after it, the records that are left, and whether the end is among its text
pub record Stretched : Type 0 where
  pub text : List ℕ
  pub playing : Playing
  pub left : List (List ℕ)
  pub done : Bool

abbrev pub nothing_more : Playing → List (List ℕ) → Stretched
nothing_more p left = record { text = []; playing = p; left = left; done = false }

abbrev pub ended : Playing → Stretched
ended p = record { text = ending p; playing = p; left = []; done = true }

abbrev pub behind : List ℕ → Stretched → Stretched
behind text s = record { text = text ++ s.text; playing = s.playing; left = s.left; done = s.done }

-- the end where no record is left and it finds room
abbrev pub closing : ℕ → Playing → List (List ℕ) → Stretched
closing room p [] = cond (leb ending_most room) (ended p) (nothing_more p [])
closing room p (bytes ∷ rest) = nothing_more p (bytes ∷ rest)

-- the text of some calls in a row, then what closes, by the records that are left with those behind them
abbrev pub text_then : ℕ → Reader → Course → List (List ℕ) → Stretched
text_then room reader course others =
    behind (results_text reader.place course.results)
    (closing (room - length (results_text reader.place course.results)) (after_calls reader course) (course.left ++ others))

abbrev pub stretch : List ℕ → ℕ → Playing → List (List ℕ) → Stretched
stretch calendar room p records =
    text_then room p.reader (calls_in_row calendar stretch_notices p.book (take (at_once room) records)) (drop (at_once room) records)

-- the records of a tape that the reader has not played
abbrev pub left : Playing → List ℕ → List (List ℕ)
left p tape = records_of (most_records - p.reader.place) (drop (record_length * p.reader.place) tape)

-- ---- what is asked of a tape that is being played: a well_kept book, which a fresh one is and every call leaves, and a sound reader
-- that has not gone past a tape's last record
pub record Ready (p : Playing) : Type 0 where
  pub kept : book_kept p.book ≡ true
  pub sound : Sound p.reader
  pub within : p.reader.place ≤ most_records

-- .. and of the buffers: places for the answers and counts of a stretch and bytes for its notices, no more, so that its records are
-- those of the definition; and room for its text
pub record Roomy (answers₀ counts₀ notices₀ out : List ℕ) : Type 0 where
  pub answers : length answers₀ ≡ stretch_records
  pub counts : stretch_records ≤ length counts₀
  pub notices : length notices₀ ≡ stretch_notices
  pub text : stretch_text_most ≤ length out

-- ---- what is promised after a stretch, or of its close: the tape, its text in the buffer from a start on, and whether it is the last
pub record Plays (start : ℕ) (s : Stretched) (r : Stretch) (before after : List ℕ) : Type 0 where
  pub playing : r.playing ≡ s.playing
  pub text : Puts start before after r.stop s.text
  pub done : r.done ≡ s.done

-- ---- the stretches of a tape, one after another, up to the one with the end; proofs/Stretches.antt proves what follows
abbrev pub pieces : ℕ → List ℕ → ℕ → Playing → List (List ℕ) → List (List ℕ)
pieces zero calendar room p records = []
pieces (suc most) calendar room p records =
    (stretch calendar room p records).text
    ∷ cond (stretch calendar room p records).done []
    (pieces most calendar room (stretch calendar room p records).playing (stretch calendar room p records).left)

abbrev pub joined : List (List ℕ) → List ℕ
joined [] = []
joined (xs ∷ xss) = xs ++ joined xss

-- What is handed to be written, piece by piece, is the whole output: every tape ends within one stretch more than it has records.
abbrev pub PiecesAreOutput : Type 0
PiecesAreOutput =
    (calendar tape : List ℕ) (room : ℕ) → record_text_most ≤ room
    → joined (pieces (most_records + 1) (take calendar_most calendar) room starting (records_of most_records (take tape_most tape)))
    ≡ output calendar tape

-- A stretch leaves the records that its reader has not played, and a tape that can be played on.
pub record GoesOn (tape : List ℕ) (s : Stretched) : Type 0 where
  pub left : s.left ≡ left s.playing tape
  pub ready : Ready s.playing

abbrev pub StretchGoesOn : Type 0
StretchGoesOn =
    (calendar tape : List ℕ) (room : ℕ) (p : Playing) → length tape ≤ tape_most → Ready p
    → GoesOn tape (stretch calendar room p (left p tape))

-- A stretch that is not the last plays a record at least, so that the program ends.
abbrev pub StretchMoves : Type 0
StretchMoves =
    (calendar tape : List ℕ) (room : ℕ) (p : Playing) → record_text_most ≤ room
    → (stretch calendar room p (left p tape)).done ≡ false → p.reader.place < (stretch calendar room p (left p tape)).playing.reader.place

-- The text of every stretch finds room.
abbrev pub StretchFits : Type 0
StretchFits =
    (calendar tape : List ℕ) (room : ℕ) (p : Playing) → Ready p → length (stretch calendar room p (left p tape)).text ≤ room
