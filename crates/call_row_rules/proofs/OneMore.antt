-- Calls that were made, and one more. Assumes nothing.
use Prim.Native.Nat.{ℕ, ◌+◌, ◌*◌, ◌≤◌}
use mathlib.Core.Path.{◌≡◌, refl, sym, ap, ◌∙◌}
use mathlib.Core.List.{List, [], ◌∷◌, ◌++◌, append_assoc, append-nil, map-append}
use native.Mathlib.Omega.{arith}
use lib.ListN.{length, take, drop}
use lib.Seq.{drop-drop}
use Rattle.records.specs.Layout.{record_length}
use Rattle.premise.specs.Refusals.{Answer}
use Rattle.premise.specs.Refusals.{number}
use Rattle.book.specs.declared.Book.{Book}
use Rattle.book.specs.Calls.{notice_bytes}
use Rattle.book.specs.Promise.{Promised}
use Rattle.demands.specs.Demand3.{Made, Played, last_book}
use Rattle.demands.specs.Tapes.{tape_of}
use Rattle.call_row_rules.specs.CallsMade.{numbers_given, counts_given, sent_by, bytes_sent, last_given, Lent}

module _ (m : Made) where
  abbrev with : List Made → List Made
  with ms = ms ++ (m ∷ [])

  pub calls_more : (calendar : List ℕ) (b : Book) (ms : List Made) → Played calendar b ms
      → Promised calendar (last_book b ms) m.bytes m.lent m.reply m.after → Played calendar b (with ms)
  calls_more calendar b [] calls kept = (kept, tt)
  calls_more calendar b (x ∷ xs) calls kept = (calls.0, calls_more calendar x.reply.book xs calls.1 kept)

  pub lent_more : (free : List ℕ) (ms : List Made) → Lent free ms → m.lent ≡ drop (record_length * sent_by ms) free
      → notice_bytes ≤ length m.lent → Lent free (with ms)
  lent_more free [] lent is long = (is, long, tt)
  lent_more free (x ∷ xs) lent is long =
      let n = record_length * x.reply.sent in
      let all : record_length * (x.reply.sent + sent_by xs) ≡ n + record_length * sent_by xs = omega arith in (
        lent.0,
        lent.1,
        lent_more (drop n free) xs lent.2
            (is ∙ ap (λ (k : ℕ). drop k free) all ∙ sym (drop-drop (record_length * sent_by xs) n free)) long,
      )

  pub tape_more : (ms : List Made) → tape_of (with ms) ≡ tape_of ms ++ (m.bytes ∷ [])
  tape_more ms = map-append (λ (x : Made). x.bytes) ms (m ∷ [])

  pub numbers_more : (ms : List Made) → numbers_given (with ms) ≡ numbers_given ms ++ (number m.reply.answer ∷ [])
  numbers_more ms = map-append (λ (x : Made). number x.reply.answer) ms (m ∷ [])

  pub counts_more : (ms : List Made) → counts_given (with ms) ≡ counts_given ms ++ (m.reply.sent ∷ [])
  counts_more ms = map-append (λ (x : Made). x.reply.sent) ms (m ∷ [])

  pub sent_more : (ms : List Made) → sent_by (with ms) ≡ sent_by ms + m.reply.sent
  sent_more [] = omega arith
  sent_more (x ∷ xs) = omega (arith, sent_more xs)

  abbrev bytes : List ℕ
  bytes = take (record_length * m.reply.sent) m.after

  pub bytes_more : (ms : List Made) → bytes_sent (with ms) ≡ bytes_sent ms ++ bytes
  bytes_more [] = append-nil bytes
  bytes_more (x ∷ xs) =
      let first = take (record_length * x.reply.sent) x.after in
      ap (λ (l : List ℕ). first ++ l) (bytes_more xs) ∙ sym (append_assoc first (bytes_sent xs) bytes)

  pub last_more : (answer : Answer) (ms : List Made) → last_given answer (with ms) ≡ m.reply.answer
  last_more answer [] = refl
  last_more answer (x ∷ xs) = last_more x.reply.answer xs

  pub book_more : (b : Book) (ms : List Made) → last_book b (with ms) ≡ m.reply.book
  book_more b [] = refl
  book_more b (x ∷ xs) = book_more x.reply.book xs
