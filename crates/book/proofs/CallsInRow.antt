-- Record calls in a row: the records of a stretch of tape, the single call of each, and their course. Assumes nothing.
use Prim.Native.Nat.{ℕ, zero, suc, ◌+◌, ◌*◌, ◌-◌, ◌≤◌, ◌<◌, min}
use mathlib.Core.Path.{◌≡◌, refl, sym, ap, ap₂, ◌∙◌}
use mathlib.Core.List.{List, [], ◌∷◌, ◌++◌, append_assoc}
use mathlib.Core.Bool.{Bool, true, false, cond}
use native.Mathlib.Omega.{arith}
use lib.Dec.{ltb}
use lib.ListN.{length, take, drop, replicate, length-replicate, length-drop, length-append}
use lib.Seq.{take-nil, drop-drop, drop-nil}
use borrow.Author.Tests.{ltb-true, ltb-false, lt-ltb, le-ltb}
use Rattle.lists.specs.Search.{Each}
use Rattle.lists.proofs.Find.{drop-none}
use Rattle.records.specs.declared.Notice.{Notice}
use Rattle.records.specs.Layout.{Bytes, record_length}
use Rattle.records.proofs.Fields.{bytes_drop, bytes_take}
use Rattle.std.specs.Prelude.{Err}
use Rattle.premise.specs.declared.Refusal.TheVariants.{NotWellKept}
use Rattle.book.specs.declared.Book.{Book}
use Rattle.book.specs.Book.{book_kept}
use Rattle.book.specs.Calls.{notice_bytes, Result, refusal, call}
use Rattle.book.specs.CallsInRow.{records_of, called, Course, stopped, and_then, calls_in_row, notices_of}
use Rattle.book.proofs.RowsInOrder.{call_not_kept, call_sees_room}
use Rattle.book.proofs.Keeps.{call_keeps}
use Rattle.book.proofs.Few.{call_few}

-- ---- the records of a stretch: none, or one and the others
pub records_few : (most : ℕ) (tape : List ℕ) → length (records_of most tape) ≤ most
records_few zero tape = omega arith
records_few (suc most) [] = omega arith
records_few (suc most) (byte ∷ tape) = omega (arith, records_few most (drop record_length (byte ∷ tape)))

pub records_none : (most : ℕ) → records_of most [] ≡ []
records_none zero = refl
records_none (suc most) = refl

pub records_over : (most from : ℕ) (tape : List ℕ) → length tape ≤ from → records_of most (drop from tape) ≡ []
records_over most from tape h = ap (records_of most) (drop-none tape from h) ∙ records_none most

pub records_next : (most : ℕ) (tape : List ℕ) → 0 < most → 0 < length tape
    → records_of most tape ≡ take record_length tape ∷ records_of (most - 1) (drop record_length tape)
records_next zero tape h k = absurd (omega arith)
records_next (suc most) [] h k = absurd (omega arith)
records_next (suc most) (byte ∷ tape) h k =
    let e : most ≡ suc most - 1 = omega arith in
    ap (λ (m : ℕ). take record_length (byte ∷ tape) ∷ records_of m (drop record_length (byte ∷ tape))) e

-- those after the first n are the records of the bytes after them
pub records_after : (n most : ℕ) (tape : List ℕ) → drop n (records_of most tape) ≡ records_of (most - n) (drop (record_length * n) tape)
records_after zero most tape = let e : most - 0 ≡ most = omega arith in ap (λ (m : ℕ). records_of m tape) (sym e)
records_after (suc n) zero tape = let e : 0 - suc n ≡ 0 = omega arith in rw e refl
records_after (suc n) (suc most) [] =
    sym (ap (records_of (suc most - suc n)) (drop-nil (record_length * suc n)) ∙ records_none (suc most - suc n))
records_after (suc n) (suc most) (byte ∷ tape) =
    let e : most - n ≡ suc most - suc n = omega arith in
    let f : record_length + record_length * n ≡ record_length * suc n = omega arith in
    records_after n most (drop record_length (byte ∷ tape))
    ∙ ap₂ records_of e (drop-drop (record_length * n) record_length (byte ∷ tape) ∙ ap (λ (m : ℕ). drop m (byte ∷ tape)) f)

-- the first n, and those after them
pub records_parts : (n more : ℕ) (tape : List ℕ)
    → records_of (n + more) tape ≡ records_of n tape ++ records_of more (drop (record_length * n) tape)
records_parts zero more tape = let e : 0 + more ≡ more = omega arith in ap (λ (m : ℕ). records_of m tape) e
records_parts (suc n) more [] =
    let none = ap (records_of more) (drop-nil {A = ℕ} (record_length * suc n)) ∙ records_none more in
    records_none (suc n + more) ∙ sym none
records_parts (suc n) more (byte ∷ tape) =
    let e : suc n + more ≡ suc (n + more) = omega arith in
    let f : record_length + record_length * n ≡ record_length * suc n = omega arith in
    ap (λ (m : ℕ). records_of m (byte ∷ tape)) e
    ∙ ap (λ (l : List (List ℕ)). take record_length (byte ∷ tape) ∷ l)
    (records_parts n more (drop record_length (byte ∷ tape))
    ∙ ap (λ (l : List ℕ). records_of n (drop record_length (byte ∷ tape)) ++ records_of more l)
    (drop-drop (record_length * n) record_length (byte ∷ tape) ∙ ap (λ (m : ℕ). drop m (byte ∷ tape)) f))

-- as many as are asked for, where the bytes go so far
pub records_many : (n : ℕ) (tape : List ℕ) → record_length * n ≤ length tape → length (records_of n tape) ≡ n
records_many zero tape h = refl
records_many (suc n) [] h = absurd (omega arith)
records_many (suc n) (byte ∷ tape) h =
    ap suc (records_many n (drop record_length (byte ∷ tape)) (omega (arith, length-drop record_length (byte ∷ tape))))

-- every record of a tape of bytes is bytes
pub records_bytes : (most : ℕ) (tape : List ℕ) → Bytes tape → Each Bytes (records_of most tape)
records_bytes zero tape real = tt
records_bytes (suc most) [] real = tt
records_bytes (suc most) (byte ∷ tape) real = (
  bytes_take record_length (byte ∷ tape) real,
  records_bytes most (drop record_length (byte ∷ tape)) (bytes_drop record_length (byte ∷ tape) real),
)

-- ---- a record's bytes, of which the last may have fewer than 24, as code lends them
take_within : {X : Type 0} (m n : ℕ) (l : List X) → min m (length l) ≡ min n (length l) → take m l ≡ take n l
take_within m n [] e = take-nil m ∙ sym (take-nil n)
take_within zero zero (x ∷ l) e = refl
take_within zero (suc n) (x ∷ l) e = absurd (omega arith)
take_within (suc m) zero (x ∷ l) e = absurd (omega arith)
take_within {X} (suc m) (suc n) (x ∷ l) e = ap (λ (k : List X). x ∷ k) (take_within m n l (omega arith))

pub lent_record : (tape : List ℕ) (from to : ℕ) → to ≡ min (from + record_length) (length tape)
    → take (to - from) (drop from tape) ≡ take record_length (drop from tape)
lent_record tape from to e = take_within (to - from) record_length (drop from tape) (omega (arith, length-drop from tape))

-- ---- the single call of a record
pub called_room : notice_bytes ≤ length {A = ℕ} (replicate notice_bytes 0)
called_room = omega (arith, length-replicate {A = ℕ} notice_bytes 0)

-- any buffer that is long enough will do, whatever the book
pub called_lent : (calendar : List ℕ) (b : Book) (bytes lent : List ℕ) → notice_bytes ≤ length lent
    → call calendar b bytes lent ≡ called calendar b bytes
called_lent calendar b bytes lent room =
    call_sees_room calendar b bytes lent (replicate notice_bytes 0)
    (le-ltb (length lent) notice_bytes room ∙ sym (le-ltb (length {A = ℕ} (replicate notice_bytes 0)) notice_bytes called_room))

-- a book that is not well kept gets 2
pub called_unkept : (calendar : List ℕ) (b : Book) (bytes : List ℕ) → book_kept b ≡ false → called calendar b bytes ≡ refusal (Err NotWellKept) b
called_unkept calendar b bytes damaged = call_not_kept calendar b bytes (replicate notice_bytes 0) called_room damaged

pub called_few : (calendar : List ℕ) (b : Book) (bytes : List ℕ) → record_length * length (called calendar b bytes).notices ≤ notice_bytes
called_few calendar b bytes =
    omega (arith, call_few calendar b bytes (replicate notice_bytes 0), length-replicate {A = ℕ} notice_bytes 0)

pub called_keeps : (calendar : List ℕ) (b : Book) (bytes : List ℕ) → book_kept b ≡ true → book_kept (called calendar b bytes).book ≡ true
called_keeps calendar b bytes kept = call_keeps calendar b bytes (replicate notice_bytes 0) kept

-- ---- the notices of calls in two parts
pub notices_parts : (results others : List Result) → notices_of (results ++ others) ≡ notices_of results ++ notices_of others
notices_parts [] others = refl
notices_parts (x ∷ xs) others =
    ap (λ (l : List Notice). x.notices ++ l) (notices_parts xs others) ∙ sym (append_assoc x.notices (notices_of xs) (notices_of others))

-- ---- the course of calls in a row
-- what is left free of some bytes after a record's call
abbrev pub free_after : List ℕ → ℕ → Book → List ℕ → ℕ
free_after calendar free b bytes = free - record_length * length (called calendar b bytes).notices

module _ (calendar : List ℕ) (free : ℕ) (b : Book) where
  -- no record is left
  pub row_none : calls_in_row calendar free b [] ≡ stopped b []
  unfolding calls_in_row
  row_none = refl

  -- a record is played, and the others after it
  pub row_next : (bytes : List ℕ) (rest : List (List ℕ)) → notice_bytes ≤ free
      → calls_in_row calendar free b (bytes ∷ rest)
      ≡ and_then (called calendar b bytes) (calls_in_row calendar (free_after calendar free b bytes) (called calendar b bytes).book rest)
  unfolding calls_in_row
  row_next bytes rest h = rw (le-ltb free notice_bytes h)

  -- fewer than 24,576 bytes are free: no other is played
  pub row_stops : (records : List (List ℕ)) → free < notice_bytes → calls_in_row calendar free b records ≡ stopped b records
  unfolding calls_in_row
  row_stops [] h = refl
  row_stops (bytes ∷ rest) h = rw (lt-ltb free notice_bytes h)

-- calls behind others
abbrev pub behind : List Result → Course → Course
behind results course = record { results = results ++ course.results; book = course.book; left = course.left }

-- What holds of a course that stops at once, and of a call and the others after it where it holds of these, holds of every course.
pub by_row : (P : ℕ → Book → List (List ℕ) → Course → Type 0) (calendar : List ℕ)
    → ((free : ℕ) (b : Book) (records : List (List ℕ)) → P free b records (stopped b records))
    → ((free : ℕ) (b : Book) (bytes : List ℕ) (rest : List (List ℕ)) (c : Course) → notice_bytes ≤ free
    → P (free_after calendar free b bytes) (called calendar b bytes).book rest c
    → P free b (bytes ∷ rest) (and_then (called calendar b bytes) c))
    → (free : ℕ) (b : Book) (records : List (List ℕ)) → P free b records (calls_in_row calendar free b records)
unfolding calls_in_row
by_row P calendar stop more free b [] = stop free b []
by_row P calendar stop more free b (bytes ∷ rest) =
    go (ltb free notice_bytes) refl (by_row P calendar stop more (free_after calendar free b bytes) (called calendar b bytes).book rest)
  where
    go : (full : Bool) → ltb free notice_bytes ≡ full
        → P (free_after calendar free b bytes) (called calendar b bytes).book rest
        (calls_in_row calendar (free_after calendar free b bytes) (called calendar b bytes).book rest)
        → P free b (bytes ∷ rest) (calls_in_row calendar free b (bytes ∷ rest))
    go true t ih = rw t (stop free b (bytes ∷ rest))
    go false t ih = rw t (more free b bytes rest _ (ltb-false free notice_bytes t) ih)

module _ (calendar : List ℕ) where
  -- every call leaves a well_kept book
  pub row_keeps : (free : ℕ) (b : Book) (records : List (List ℕ)) → book_kept b ≡ true
      → book_kept (calls_in_row calendar free b records).book ≡ true
  row_keeps = by_row (λ free b records c. book_kept b ≡ true → book_kept c.book ≡ true) calendar (λ free b records k. k)
      (λ free b bytes rest c h ih k. ih (called_keeps calendar b bytes k))

  -- the notices fit, and those of each call are few
  pub row_few : (free : ℕ) (b : Book) (records : List (List ℕ))
      → record_length * length (notices_of (calls_in_row calendar free b records).results) ≤ free
  row_few = by_row (λ free b records c. record_length * length (notices_of c.results) ≤ free) calendar (λ free b records. omega arith)
      (λ free b bytes rest c h ih. omega (
        arith,
        h,
        ih,
        called_few calendar b bytes,
        length-append (called calendar b bytes).notices (notices_of c.results),
      ))

  pub row_each_few : (free : ℕ) (b : Book) (records : List (List ℕ))
      → Each (λ (x : Result). record_length * length x.notices ≤ notice_bytes) (calls_in_row calendar free b records).results
  row_each_few = by_row (λ free b records c. Each (λ (x : Result). record_length * length x.notices ≤ notice_bytes) c.results) calendar
      (λ free b records. tt) (λ free b bytes rest c h ih. (called_few calendar b bytes, ih))

  -- each record is played or left
  pub row_left : (free : ℕ) (b : Book) (records : List (List ℕ))
      → (calls_in_row calendar free b records).left ≡ drop (length (calls_in_row calendar free b records).results) records
  row_left = by_row (λ free b records c. c.left ≡ drop (length c.results) records) calendar (λ free b records. refl)
      (λ free b bytes rest c h ih. ih)

  pub row_played : (free : ℕ) (b : Book) (records : List (List ℕ))
      → length (calls_in_row calendar free b records).results ≤ length records
  row_played = by_row (λ free b records c. length c.results ≤ length records) calendar (λ free b records. omega arith)
      (λ free b bytes rest c h ih. omega (arith, ih))

  -- where there is room, the first record is played
  pub row_some : (free : ℕ) (b : Book) (records : List (List ℕ)) → notice_bytes ≤ free → 0 < length records
      → 0 < length (calls_in_row calendar free b records).results
  row_some free b [] room some = absurd (omega (arith, some))
  row_some free b (bytes ∷ rest) room some =
      omega (arith, ap (λ (c : Course). length c.results) (row_next calendar free b bytes rest room))

  -- Where fewer are played than there are, the next would have found fewer than 24,576 bytes free.
  pub row_short : (free : ℕ) (b : Book) (records : List (List ℕ))
      → length (calls_in_row calendar free b records).results < length records
      → free - record_length * length (notices_of (calls_in_row calendar free b records).results) < notice_bytes
  unfolding calls_in_row
  row_short free b [] h = absurd (omega (arith, h))
  row_short free b (bytes ∷ rest) h =
      go (ltb free notice_bytes) refl (calls_in_row calendar (free_after calendar free b bytes) (called calendar b bytes).book rest)
      (row_short (free_after calendar free b bytes) (called calendar b bytes).book rest) h
    where
      go : (full : Bool) → ltb free notice_bytes ≡ full → (on : Course)
          → (length on.results < length rest
          → free_after calendar free b bytes - record_length * length (notices_of on.results) < notice_bytes)
          → length (cond full (stopped b (bytes ∷ rest)) (and_then (called calendar b bytes) on)).results < length (bytes ∷ rest)
          → free - record_length * length (notices_of (cond full (stopped b (bytes ∷ rest)) (and_then (called calendar b bytes) on)).results)
          < notice_bytes
      go true t on ih h = omega (arith, ltb-true free notice_bytes t)
      go false t on ih h =
          omega (arith, ih (omega (arith, h)), length-append (called calendar b bytes).notices (notices_of on.results))

  -- ---- a row of two parts is the two rows, one after the other
  pub row_parts : (free : ℕ) (b : Book) (records others : List (List ℕ))
      → calls_in_row calendar free b (records ++ others)
      ≡ behind (calls_in_row calendar free b records).results
      (calls_in_row calendar (free - record_length * length (notices_of (calls_in_row calendar free b records).results))
      (calls_in_row calendar free b records).book ((calls_in_row calendar free b records).left ++ others))
  row_parts free b records others =
      by_row (λ free b records c. calls_in_row calendar free b (records ++ others)
      ≡ behind c.results
      (calls_in_row calendar (free - record_length * length (notices_of c.results)) c.book (c.left ++ others)))
      calendar
      (λ free b records. let all : free ≡ free - record_length * 0 = omega arith in
      ap (λ (n : ℕ). calls_in_row calendar n b (records ++ others)) all)
      (λ free b bytes rest c h ih.
      let x = called calendar b bytes in
      let on : free_after calendar free b bytes - record_length * length (notices_of c.results)
      ≡ free - record_length * length (notices_of (x ∷ c.results)) =
      omega (arith, length-append x.notices (notices_of c.results)) in
      row_next calendar free b bytes (rest ++ others) h ∙ ap (and_then x) ih
      ∙ ap (λ (n : ℕ). and_then x (behind c.results (calls_in_row calendar n c.book (c.left ++ others)))) on)
      free b records

  -- ---- every record on a book that is not well kept gets 2, and leaves it as it was
  pub row_unkept : (free : ℕ) (b : Book) (records : List (List ℕ)) → book_kept b ≡ false → notice_bytes ≤ free
      → calls_in_row calendar free b records
      ≡ record { results = replicate (length records) (refusal (Err NotWellKept) b); book = b; left = [] }
  row_unkept free b [] damaged room = row_none calendar free b
  row_unkept free b (bytes ∷ rest) damaged room =
      let all : free - record_length * 0 ≡ free = omega arith in
      row_next calendar free b bytes rest room
      ∙ ap (λ (x : Result). and_then x (calls_in_row calendar (free - record_length * length x.notices) x.book rest))
      (called_unkept calendar b bytes damaged)
      ∙ ap (λ (n : ℕ). and_then (refusal (Err NotWellKept) b) (calls_in_row calendar n b rest)) all
      ∙ ap (and_then (refusal (Err NotWellKept) b)) (row_unkept free b rest damaged room)
