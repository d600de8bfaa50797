-- A day mark on a tidy book, file by file: what it asks, what stands after some files, and at the end. Assumes nothing.
use Prim.Native.Nat.{ℕ, ◌*◌, ◌-◌, ◌≤◌}
use mathlib.Core.Path.{◌≡◌, sym, ap, ap₂, subst, subst⁻¹, ◌∙◌}
use mathlib.Core.List.{List, ◌++◌, append-nil}
use native.Mathlib.Omega.{arith}
use lib.ListN.{take, drop, length, take-append-drop, length-map}
use lib.Seq.{take_all}
use Rattle.lists.specs.Search.{Each}
use Rattle.lists.proofs.Find.{drop-none}
use Rattle.records.specs.declared.Notice.{Notice}
use Rattle.records.specs.Layout.{record_length}
use Rattle.premise.specs.declared.File.{File}
use Rattle.premise.specs.OnePremise.{marked}
use Rattle.premise.specs.WellKept.{FileKept}
use Rattle.premise.specs.Promises.{Room, Writes}
use Rattle.premise_laws.proofs.Writes.{writes_none, writes_length, room_first}
use Rattle.book.specs.declared.Book.{Book}
use Rattle.book.specs.Totals.{waiting_in}
use Rattle.book.specs.Book.{most_files, files_of, book_of}
use Rattle.book.specs.Calls.{notice_bytes, marked_files, marked_notices}
use Rattle.book.specs.Laws.{TidyBook, BookKept}
use Rattle.book.proofs.Few.{mark_all_few}
use Rattle.book.proofs.Kept.{count_is, totals_are}
use Rattle.book.proofs.Marks.{mark_tells_in_order}
use Rattle.book_files.proofs.Tidy.{spare, unused, book_is}

-- a book on another day
abbrev pub dated : ℕ → Book → Book
dated day b = record { today = day; count = b.count; waiting = b.waiting; files = b.files }

dated_tidy : (day : ℕ) (b : Book) → TidyBook b → TidyBook (dated day b)
unfolding book_of
dated_tidy day b tidy = record { few = tidy.few; whole = ap (dated day) tidy.whole }

-- what a mark asks of a book and of the buffer for its notices, in which some stand already
abbrev pub Asked : List ℕ → ℕ → Book → ℕ → List ℕ → Type 0
Asked calendar day b standing buffer =
    TidyBook b × Each FileKept (files_of b) × Room standing (marked_notices calendar day (files_of b)) buffer

pub mark_asks : (calendar : List ℕ) (b : Book) (day standing : ℕ) (buffer : List ℕ) → BookKept b
    → notice_bytes ≤ length buffer - record_length * standing → Asked calendar day b standing buffer
mark_asks calendar b day standing buffer k room = (k.tidy, k.files, omega (arith, mark_all_few calendar b day k, room))

-- the files after the first i have been marked
abbrev pub marked_to : List ℕ → ℕ → ℕ → List File → List File → List File
marked_to calendar day i fs places = marked_files calendar day (take i fs) ++ drop i places

-- a mark after i files, on a book that has the new day: the first i files are done, the totals moved with them, their notices sent
pub record Marking (calendar : List ℕ) (day : ℕ) (b : Book) (standing : ℕ) (buffer : List ℕ) (i sent : ℕ) (c : Book) (after : List ℕ)
    : Type 0 where
  pub asked : Asked calendar day b standing buffer
  pub within : i ≤ b.count
  pub here : c ≡ record {
    today = day;
    count = b.count;
    waiting = waiting_in (marked_to calendar day i (files_of b) (files_of b));
    files = marked_to calendar day i (files_of b) b.files;
  }
  pub wrote : Writes standing buffer after sent (marked_notices calendar day (take i (files_of b)))

pub mark_none : (calendar : List ℕ) (day : ℕ) (b : Book) (standing : ℕ) (buffer : List ℕ) → Asked calendar day b standing buffer
    → Marking calendar day (dated day b) standing buffer 0 standing (dated day b) buffer
mark_none calendar day b standing buffer asked =
    record {
      asked = (dated_tidy day b asked.0, asked.1, asked.2);
      within = omega arith;
      here = λ j. record { today = day; count = b.count; waiting = totals_are b asked.0 j; files = b.files };
      wrote = writes_none standing buffer;
    }

pub marking_as : {calendar : List ℕ} {day : ℕ} {b : Book} {standing : ℕ} {buffer : List ℕ} {i sent sent' : ℕ} {c c' : Book} {after after' : List ℕ}
    → sent ≡ sent' → c ≡ c' → after ≡ after' → Marking calendar day b standing buffer i sent' c' after'
    → Marking calendar day b standing buffer i sent c after
marking_as {calendar} {day} {b} {standing} {buffer} {i} {sent} {sent'} {c} {c'} {after} {after'} e f g m =
    subst⁻¹ (λ (n : ℕ). Marking calendar day b standing buffer i n c after) e
    (subst⁻¹ (λ (x : Book). Marking calendar day b standing buffer i sent' x after) f
    (subst⁻¹ (Marking calendar day b standing buffer i sent' c') g m))

pub length_marked : (calendar : List ℕ) (day : ℕ) (xs : List File) → length (marked_files calendar day xs) ≡ length xs
length_marked calendar day xs = length-map xs (λ (f : File). (marked calendar day f).file)

module _ {calendar : List ℕ} {day : ℕ} {b : Book} {standing : ℕ} {buffer : List ℕ} {i sent : ℕ} {c : Book}
    {after : List ℕ} (m : Marking calendar day b standing buffer i sent c after) where
  -- room for the notices of the first k files
  pub room_for : (k : ℕ) → Room standing (marked_notices calendar day (take k (files_of b))) buffer
  room_for k =
      room_first standing buffer (marked_notices calendar day (take k (files_of b))) (marked_notices calendar day (drop k (files_of b)))
      (subst (λ (l : List Notice). Room standing l buffer)
      (ap (marked_notices calendar day) (sym (take-append-drop k (files_of b)))
      ∙ mark_tells_in_order calendar day (take k (files_of b)) (drop k (files_of b)))
      m.asked.2)

  pub mark-length : length after ≡ length buffer
  mark-length = writes_length standing buffer (marked_notices calendar day (take i (files_of b))) (room_for i) after sent m.wrote

  -- no file is left: the mark is done
  module _ (e : b.count ≤ i) where
    all_files : take i (files_of b) ≡ files_of b
    all_files = take_all i (files_of b) (omega (arith, count_is b m.asked.0))

    pub mark_book : c ≡ book_of day (marked_files calendar day (files_of b))
    mark_book =
        let n : b.count ≡ length (marked_files calendar day (files_of b)) =
        sym (length_marked calendar day (files_of b) ∙ count_is b m.asked.0) in
        let all : i ≡ b.count = omega (arith, m.within) in
        let none_left = drop-none (files_of b) i (omega (arith, count_is b m.asked.0, e)) in
        m.here
        ∙ book_is day b.count (waiting_in (marked_to calendar day i (files_of b) (files_of b)))
        (marked_to calendar day i (files_of b) b.files) (marked_files calendar day (files_of b))
        n
        (ap waiting_in
        (ap₂ (λ (l r : List File). marked_files calendar day l ++ r) all_files none_left
        ∙ append-nil (marked_files calendar day (files_of b))))
        (ap₂ (λ (l r : List File). marked_files calendar day l ++ r) all_files
        (ap (λ (k : ℕ). drop k b.files) all ∙ unused b m.asked.0 ∙ ap (λ (k : ℕ). spare (most_files - k)) n))

    pub mark_wrote : Writes standing buffer after sent (marked_notices calendar day (files_of b))
    mark_wrote = subst (λ (l : List File). Writes standing buffer after sent (marked_notices calendar day l)) all_files m.wrote
