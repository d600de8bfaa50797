-- One record played is one record call. Assumes nothing.
use Prim.Native.Nat.{ℕ, ◌≤◌}
use mathlib.Core.Path.{◌≡◌, sym, ap, subst, ◌∙◌}
use mathlib.Core.List.{List, [], ◌∷◌, append-nil}
use native.Mathlib.Omega.{arith}
use lib.ListN.{length}
use lib.Seq.{take_all}
use Rattle.records.specs.Layout.{record_length}
use Rattle.records.proofs.Emits.{emits_as}
use Rattle.book.specs.declared.Book.{Book}
use Rattle.book.specs.declared.Playback.{Playback}
use Rattle.book.specs.Calls.{notice_bytes, Result}
use Rattle.book.specs.CallsInRow.{records_of, called, Course, stopped, and_then, calls_in_row, Plays}
use Rattle.book.specs.Promise.{Promised}
use Rattle.book.proofs.CallsInRow.{records_next, called_lent, free_after, row_none, row_next}

module _ (calendar : List ℕ) (b : Book) (bytes lent : List ℕ) (room : notice_bytes ≤ length lent) (whole : length bytes ≡ record_length) where
  -- its course
  one : calls_in_row calendar (length lent) b (records_of 1 bytes)
      ≡ and_then (called calendar b bytes) (stopped (called calendar b bytes).book [])
  one =
      ap (calls_in_row calendar (length lent) b)
      (records_next 1 bytes (omega arith) (omega (arith, whole))
      ∙ ap (λ (l : List ℕ). l ∷ []) (take_all record_length bytes (omega (arith, whole))))
      ∙ row_next calendar (length lent) b bytes [] room
      ∙ ap (and_then (called calendar b bytes))
      (row_none calendar (free_after calendar (length lent) b bytes) (called calendar b bytes).book)

  pub one_call : {most : ℕ} → most ≡ 1 → {p : Playback} {answers₀ answers counts₀ counts after : List ℕ}
      → Plays (calls_in_row calendar (length lent) b (records_of most bytes)) p answers₀ answers counts₀ counts lent after
      → Promised calendar b bytes lent (record { answer = p.last; sent = p.sent; book = p.book }) after
  one_call alone {p} {answers₀} {answers} {counts₀} {counts} {after} plays =
      let same = called_lent calendar b bytes lent room in
      let course : Course = and_then (called calendar b bytes) (stopped (called calendar b bytes).book []) in
      let q : Plays course p answers₀ answers counts₀ counts lent after =
      subst (λ (c : Course). Plays c p answers₀ answers counts₀ counts lent after)
      (ap (λ (m : ℕ). calls_in_row calendar (length lent) b (records_of m bytes)) alone ∙ one) plays in
      record {
        answer = q.last ∙ sym (ap (λ (x : Result). x.answer) same);
        book = q.book ∙ sym (ap (λ (x : Result). x.book) same);
        notices = emits_as (append-nil (called calendar b bytes).notices ∙ sym (ap (λ (x : Result). x.notices) same)) q.notices;
      }
