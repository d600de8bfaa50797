-- Lists of calls that are played by the definition of the call: each keeps the record call's promise, and a short tape of bytes is
-- allowed. Assumes nothing.
use Prim.Native.Nat.{ℕ, ◌≤◌}
use mathlib.Core.Path.{◌≡◌, refl, ap, sym, subst}
use mathlib.Core.List.{List, [], ◌∷◌}
use mathlib.Core.Bool.{Bool, true}
use native.Mathlib.Omega.{arith}
use lib.Dec.{ltb, lit≤}
use lib.ListN.{length, length-map}
use borrow.Author.Tests.{ltb-true}
use Rattle.lists.specs.Search.{all_of, Each}
use Rattle.lists.proofs.TestLaws.{and_left, and_right}
use Rattle.records.specs.Layout.{Bytes}
use Rattle.book.specs.declared.Book.{Book}
use Rattle.book.specs.Book.{most_files, fresh_book}
use Rattle.book.specs.Calls.{notice_bytes, call}
use Rattle.demands.specs.Demand3.{Made, Played}
use Rattle.demands.specs.Sample.{lent, made, plays}
use Rattle.demands.specs.Tapes.{tape_of, Plays}
use Rattle.demands.proofs.Callers.{at_most_64_calls}

-- a tape that demand 3 takes without a look at the books on the way: bytes, and at most 64 records
abbrev pub byte_test : List ℕ → Bool
byte_test bytes = all_of (λ (x : ℕ). ltb x 256) bytes

pub record Short (tape : List (List ℕ)) : Type 0 where
  pub real : all_of byte_test tape ≡ true
  pub few : length tape ≤ most_files

pub are_bytes : (xs : List ℕ) → byte_test xs ≡ true → Bytes xs
are_bytes [] e = tt
are_bytes (x ∷ xs) e =
    (ltb-true x 256 (and_left (ltb x 256) (byte_test xs) e), are_bytes xs (and_right (ltb x 256) (byte_test xs) e))

all_bytes : (tape : List (List ℕ)) → all_of byte_test tape ≡ true → Each Bytes tape
all_bytes [] e = tt
all_bytes (bytes ∷ tape) e =
    let rest : Bool = all_of byte_test tape in
    (are_bytes bytes (and_left (byte_test bytes) rest e), all_bytes tape (and_right (byte_test bytes) rest e))

of_made : (ms : List Made) → Each Bytes (tape_of ms) → Each (λ (m : Made). Bytes m.bytes) ms
of_made [] u = tt
of_made (m ∷ ms) u = (u.0, of_made ms u.1)

pub short_plays : (calendar : List ℕ) (start : ℕ) (tape : List (List ℕ)) (ms : List Made) → Short tape → tape_of ms ≡ tape
    → Played calendar (fresh_book start) ms → Each (λ (m : Made). notice_bytes ≤ length m.lent) ms
    → Plays calendar start tape ms
short_plays calendar start tape ms s fed p room =
    record {
      fed = fed;
      played = p;
      allowed =
          at_most_64_calls calendar start ms p (of_made ms (subst (Each Bytes) (sym fed) (all_bytes tape s.real))) room
          (omega (arith, s.few, ap length fed, length-map ms (λ (m : Made). m.bytes)));
    }

-- ---- played by definition
module _ (calendar : List ℕ) where
  pub promised : (b : Book) (tape : List (List ℕ)) → Played calendar b (plays calendar b tape)
  unfolding made plays
  promised b [] = tt
  promised b (bytes ∷ tape) = (
    record { answer = refl; book = refl; notices = record { count = refl; bytes = refl } },
    promised (call calendar b bytes lent).book tape,
  )

  pub fed_to : (b : Book) (tape : List (List ℕ)) → tape_of (plays calendar b tape) ≡ tape
  unfolding made plays
  fed_to b [] = refl
  fed_to b (bytes ∷ tape) = ap (λ (l : List (List ℕ)). bytes ∷ l) (fed_to (call calendar b bytes lent).book tape)

  pub rooms : (b : Book) (tape : List (List ℕ)) → Each (λ (m : Made). notice_bytes ≤ length m.lent) (plays calendar b tape)
  unfolding made plays lent
  rooms b [] = tt
  rooms b (bytes ∷ tape) = (lit≤ tt, rooms (call calendar b bytes lent).book tape)

  pub by_definition : (start : ℕ) (tape : List (List ℕ)) → Short tape → Plays calendar start tape (plays calendar (fresh_book start) tape)
  by_definition start tape s =
      short_plays calendar start tape (plays calendar (fresh_book start) tape) s (fed_to (fresh_book start) tape)
      (promised (fresh_book start) tape) (rooms (fresh_book start) tape)
