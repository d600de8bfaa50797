-- Lists of calls that are played by the definition of the call keep the record call's promise; what a test over a list says. Assumes
-- nothing.
use Prim.Native.Nat.{ℕ}
use mathlib.Core.Path.{◌≡◌, refl}
use mathlib.Core.List.{List, [], ◌∷◌, ◌++◌}
use mathlib.Core.Bool.{Bool, true, ◌&&◌}
use lib.Dec.{eqb}
use borrow.Author.Tests.{eq-eqb, not-true}
use Rattle.lists.specs.Search.{all_of, Each}
use Rattle.lists.proofs.TestLaws.{and_other}
use Rattle.lists.proofs.SearchLaws.{each_of_all, each_map}
use Rattle.records.specs.Records.{reading}
use Rattle.premise.specs.Refusals.{number}
use Rattle.book.specs.declared.Book.{Book}
use Rattle.book.specs.Calls.{call}
use Rattle.demands.specs.Demand3.{Made, Played, last_book}
use Rattle.order_ends.specs.Waiting.{is_named, Unnamed}
use Rattle.order_ends.specs.Plays.{Feed, made, plays, is_unnamed}

module _ (calendar : List ℕ) where
  pub promised : (b : Book) (fs : List Feed) → Played calendar b (plays calendar b fs)
  unfolding made plays
  promised b [] = tt
  promised b (f ∷ fs) = (
    record { answer = refl; book = refl; notices = record { count = refl; bytes = refl } },
    promised (call calendar b f.bytes f.lent).book fs,
  )

  pub played_both : (b : Book) (xs ys : List Made) → Played calendar b xs → Played calendar (last_book b xs) ys
      → Played calendar b (xs ++ ys)
  played_both b [] ys p q = q
  played_both b (m ∷ xs) ys p q = (p.0, played_both m.reply.book xs ys p.1 q)

pub all_unnamed : (premise reference : ℕ) (ms : List Made) → all_of (is_unnamed premise reference) ms ≡ true
    → Each (Unnamed premise reference) ms
all_unnamed premise reference ms e =
    each_map (λ (m : Made). is_unnamed premise reference m ≡ true) (Unnamed premise reference)
    (λ m q z.
    let zero : Bool = eqb (number m.reply.answer) 0 in
    let named : Bool = is_named premise reference (reading m.bytes) in
    and_other zero named (not-true (zero && named) q) (eq-eqb (number m.reply.answer) 0 z)) ms
    (each_of_all (is_unnamed premise reference) ms e)
