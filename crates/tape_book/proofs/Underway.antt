-- A tape played record by record: what is left of it leads from the book reached to the book after all of it. Assumes nothing.
use Prim.Native.Nat.{ℕ, ◌-◌, ◌≤◌, ◌<◌, min}
use mathlib.Core.Path.{◌≡◌, sym, ap, ap₂, ◌∙◌}
use mathlib.Core.List.{List, [], ◌∷◌, ◌++◌, append-nil}
use native.Mathlib.Omega.{arith}
use lib.ListN.{length, take, drop, length-append}
use lib.Seq.{take_all, take_at, drop_at}
use Rattle.lists.proofs.Find.{drop-none}
use Rattle.records.specs.Layout.{record_length}
use Rattle.book.specs.declared.Book.{Book}
use Rattle.book.specs.declared.Reply.{Reply}
use Rattle.book.specs.Book.{fresh_book}
use Rattle.book.specs.Calls.{notice_bytes, Result}
use Rattle.book.specs.CallsInRow.{records_of, called}
use Rattle.book.specs.Promise.{Promised}
use Rattle.book.proofs.CallsInRow.{records_over, records_next, called_lent}
use Rattle.tape_book.specs.Played.{book_after}

-- the first bytes, as many as there are at most, and what is behind them
module _ (many : ℕ) (row : List ℕ) where
  first : (others : List ℕ) → length row ≡ min many (length (row ++ others)) → take many (row ++ others) ≡ row
  first [] h = take_all many (row ++ []) (omega (arith, h, length-append row [])) ∙ append-nil row
  first (x ∷ xs) h = take_at row (x ∷ xs) many (omega (arith, h, length-append row (x ∷ xs)))

  behind : (others : List ℕ) → length row ≡ min many (length (row ++ others)) → drop many (row ++ others) ≡ others
  behind [] h = drop-none (row ++ []) many (omega (arith, h, length-append row []))
  behind (x ∷ xs) h = drop_at row (x ∷ xs) many (omega (arith, h, length-append row (x ∷ xs)))

pub record Underway (calendar tape notices : List ℕ) (b : Book) (rest : List ℕ) : Type 0 where
  pub room : notice_bytes ≤ length notices
  pub most : ℕ
  pub enough : length rest ≤ most
  pub same : book_after calendar b (records_of most rest) ≡ book_after calendar (fresh_book 0) (records_of (length tape) tape)

pub begun : (calendar tape notices : List ℕ) (b : Book) (rest : List ℕ) → b ≡ fresh_book 0 → rest ≡ tape
    → notice_bytes ≤ length notices → Underway calendar tape notices b rest
begun calendar tape notices b rest e f room =
    record {
      room = room;
      most = length tape;
      enough = omega (arith, ap length f);
      same = ap₂ (λ (c : Book) (l : List ℕ). book_after calendar c (records_of (length tape) l)) e f;
    }

module _ {calendar tape notices : List ℕ} {b : Book} {rest : List ℕ} (u : Underway calendar tape notices b rest) where
  pub played_on_lem : (row others : List ℕ) → rest ≡ row ++ others → length row ≡ min record_length (length rest) → 0 < length rest
      → (reply : Reply) (after : List ℕ) → Promised calendar b row notices reply after → length after ≡ length notices
      → Underway calendar tape after reply.book others
  played_on_lem row others e wide some reply after promised l =
      let width : length row ≡ min record_length (length (row ++ others)) = omega (arith, wide, ap length e) in
      let bytes : row ≡ take record_length rest = sym (ap (take record_length) e ∙ first record_length row others width) in
      let left : others ≡ drop record_length rest = sym (ap (drop record_length) e ∙ behind record_length row others width) in
      let call : reply.book ≡ (called calendar b (take record_length rest)).book =
      promised.book
      ∙ ap (λ (x : Result). x.book) (called_lent calendar b row notices u.room)
      ∙ ap (λ (x : List ℕ). (called calendar b x).book) bytes in
      let next = records_next u.most rest (omega (arith, some, u.enough)) some in
      record {
        room = omega (arith, u.room, l);
        most = u.most - 1;
        enough = omega (arith, u.enough, some, wide, ap length e, length-append row others);
        same =
            ap₂ (λ (c : Book) (x : List ℕ). book_after calendar c (records_of (u.most - 1) x)) call left
            ∙ ap (book_after calendar b) (sym next)
            ∙ u.same;
      }

  pub played_all : length rest ≡ 0 → b ≡ book_after calendar (fresh_book 0) (records_of (length tape) tape)
  played_all h = ap (book_after calendar b) (sym (records_over u.most 0 rest (omega (arith, h)))) ∙ u.same
