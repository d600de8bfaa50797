-- What record calls in a row leave is what single record calls returned. Assumes nothing.
use Prim.Native.Nat.{ℕ, zero, suc, ◌*◌, ◌≤◌}
use mathlib.Core.Path.{◌≡◌, refl, sym, ap, ap₂, subst⁻¹, ◌∙◌}
use mathlib.Core.List.{List, [], ◌∷◌, ◌++◌, map, map-append}
use lib.ListN.{length, take, drop, replicate}
use Rattle.lists.specs.Search.{Each}
use Rattle.records.specs.Layout.{record_length}
use Rattle.records.specs.Notices.{encode, encode_all, Emits, rows}
use Rattle.records.proofs.Emits.{emits_rows}
use Rattle.premise.specs.Refusals.{number}
use Rattle.book.specs.declared.Book.{Book}
use Rattle.book.specs.Calls.{notice_bytes}
use Rattle.book.specs.CallsInRow.{called, Course, calls_in_row, answers_of, counts_of, notices_of, Noted}
use Rattle.book.proofs.CallsInRow.{called_room, by_row}
use Rattle.demands.specs.Demand3.{Made, Played, last_book}
use Rattle.demands.specs.CallsInRow.{notice_rows, RowIsCalls, CoursesCanBePlayed}

-- ---- a single call
abbrev single : List ℕ → Book → List ℕ → Made
single calendar b bytes =
    record {
      bytes = bytes;
      lent = replicate notice_bytes 0;
      reply = record {
        answer = (called calendar b bytes).answer;
        sent = length (called calendar b bytes).notices;
        book = (called calendar b bytes).book;
      };
      after = encode_all (called calendar b bytes).notices
          ++ drop (record_length * length (called calendar b bytes).notices) (replicate notice_bytes 0);
    }

-- its notices, read back from its buffer
single_rows : (calendar : List ℕ) (b : Book) (bytes : List ℕ)
    → rows (single calendar b bytes).reply.sent (single calendar b bytes).after ≡ map encode (called calendar b bytes).notices
single_rows calendar b bytes =
    let m : Made = single calendar b bytes in
    let e : Emits m.lent m.after m.reply.sent (called calendar b bytes).notices = record { count = refl; bytes = refl } in
    emits_rows e

-- ---- those of the first n records
abbrev calls : List ℕ → ℕ → Book → List (List ℕ) → List Made
calls calendar zero b records = []
calls calendar (suc n) b [] = []
calls calendar (suc n) b (bytes ∷ rest) = single calendar b bytes ∷ calls calendar n (called calendar b bytes).book rest

-- what they say of a course
record Says (calendar : List ℕ) (b : Book) (records : List (List ℕ)) (c : Course) (ms : List Made) : Type 0 where
  played : Played calendar b ms
  room : Each (λ (m : Made). notice_bytes ≤ length m.lent) ms
  bytes : map (λ (m : Made). m.bytes) ms ≡ take (length c.results) records
  answers : map (λ (m : Made). number m.reply.answer) ms ≡ answers_of c.results
  counts : map (λ (m : Made). m.reply.sent) ms ≡ counts_of c.results
  notices : notice_rows ms ≡ map encode (notices_of c.results)
  book : last_book b ms ≡ c.book

says : (calendar : List ℕ) (free : ℕ) (b : Book) (records : List (List ℕ))
    → Says calendar b records (calls_in_row calendar free b records)
    (calls calendar (length (calls_in_row calendar free b records).results) b records)
says calendar =
    by_row (λ free b records c. Says calendar b records c (calls calendar (length c.results) b records)) calendar
    (λ free b records. record { played = tt; room = tt; bytes = refl; answers = refl; counts = refl; notices = refl; book = refl })
    (λ free b bytes rest c h ih. record {
      played = (record { answer = refl; book = refl; notices = record { count = refl; bytes = refl } }, ih.played);
      room = (called_room, ih.room);
      bytes = ap (λ (l : List (List ℕ)). bytes ∷ l) ih.bytes;
      answers = ap (λ (l : List ℕ). number (called calendar b bytes).answer ∷ l) ih.answers;
      counts = ap (λ (l : List ℕ). length (called calendar b bytes).notices ∷ l) ih.counts;
      notices =
          ap₂ (λ (l r : List (List ℕ)). l ++ r) (single_rows calendar b bytes) ih.notices
          ∙ sym (map-append encode (called calendar b bytes).notices (notices_of c.results));
      book = ih.book;
    })

pub row_is_calls : RowIsCalls
row_is_calls calendar free b records r answers₀ answers₁ counts₀ counts₁ notices₀ notices₁ p =
    let c : Course = calls_in_row calendar free b records in
    let s = says calendar free b records in (
      calls calendar (length c.results) b records,
      record {
        played = s.played;
        room = s.room;
        bytes = s.bytes ∙ ap (λ (n : ℕ). take n records) (sym p.played);
        answers = subst⁻¹ (λ (l : List ℕ). Noted l answers₀ answers₁) s.answers p.answers;
        counts = subst⁻¹ (λ (l : List ℕ). Noted l counts₀ counts₁) s.counts p.counts;
        notices = emits_rows p.notices ∙ sym s.notices;
        book = p.book ∙ sym s.book;
      },
    )

pub courses_can_be_played : CoursesCanBePlayed
courses_can_be_played c answers counts notices =
    record { book = refl; played = refl; last = refl; answers = refl; counts = refl; notices = record { count = refl; bytes = refl } }
