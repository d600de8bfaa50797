-- What the book's own table rests on: which answers have the numbers 0 and 6, the rows' numbers in their order, that no row of the
-- one-premise rules has 6, row 4 on a record of a premise that is not held, and row 5 on a create of one that is. Assumes nothing.
use Prim.Native.Nat.{ℕ}
use mathlib.Core.Path.{◌≡◌, refl, sym, ap, ap₂, ◌∙◌}
use mathlib.Core.List.{List, [], ◌∷◌, ◌++◌}
use Rattle.std.specs.Prelude.{Option}
use mathlib.Core.Bool.{Bool, true, false, cond, not, ◌||◌}
use native.Mathlib.Omega.{arith}
use lib.Dec.{eqb}
use lib.ListN.{get_or, replicate}
use borrow.Author.Tests.{eqb-true, eqb-false, ne_eqb, lt-leb, not-true}
use Rattle.lists.specs.Search.{any_of, all_of, count_of}
use Rattle.lists.proofs.TestLaws.{and_left, and_right, or_left, or_right}
use Rattle.records.specs.declared.Record.{Record}
use Rattle.records.specs.Records.{kind_create, kind_new_order}
use Rattle.premise.specs.declared.File.{File}
use Rattle.std.specs.Prelude.{Ok, Err}
use Rattle.premise.specs.Refusals.{Answer}
use Rattle.premise.specs.declared.Refusal.TheVariants.{ShortBuffer, NotWellKept, MalformedRecord, NoSuchPremise, OtherAgreement, PremiseHeld}
use Rattle.premise.specs.declared.Refusal.TheVariants.{BookFull, OrderOpen, ReferenceHeld, DayOutOfRange, NoSwitchDate, NotFirstIn}
use Rattle.premise.specs.declared.Refusal.TheVariants.{RetailerShareFull, StackFull, NoSuchOrder, StatusNotTaken, CounterNotAbove, OrderInWindow}
use Rattle.premise.specs.declared.Refusal.TheVariants.{NotNextDay}
use Rattle.premise.specs.Orders.{most_orders, most_of_one, is_open, open_of}
use Rattle.premise.specs.Refusals.{Row, number, first_row, in_front_of, from_row, premise_rows, order_rows, rows}
use Rattle.premise.specs.Laws.{AcceptedIsZero, FullIsSix, NoRow6, NeedsFile, CreateHeld, PremiseRowNumbers, OrderRowNumbers}
use Rattle.premise.proofs.Answers.{holds}
use Rattle.premise.specs.Laws.{BookAnswers, RoomFrom26, row_numbers}

-- ---- the numbers of the answers
-- the answers in the order of their numbers, by which a number names its answer; 19 to 25 name none
abbrev answers : List Answer
answers =
    (Ok tt ∷ Err ShortBuffer ∷ Err NotWellKept ∷ Err MalformedRecord ∷ Err NoSuchPremise ∷ Err PremiseHeld ∷ Err BookFull ∷ Err OrderOpen
    ∷ Err ReferenceHeld ∷ Err DayOutOfRange ∷ Err NoSwitchDate ∷ Err NotFirstIn ∷ Err StackFull ∷ Err NoSuchOrder ∷ Err StatusNotTaken ∷ Err NotNextDay
    ∷ Err CounterNotAbove ∷ Err OrderInWindow ∷ Err OtherAgreement ∷ [])
    ++ replicate 7 (Ok tt) ++ (Err RetailerShareFull ∷ [])

named_back : (answer : Answer) → get_or answers (number answer) (Ok tt) ≡ answer
unfolding number
named_back (Ok tt) = refl
named_back (Err ShortBuffer) = refl
named_back (Err NotWellKept) = refl
named_back (Err MalformedRecord) = refl
named_back (Err NoSuchPremise) = refl
named_back (Err OtherAgreement) = refl
named_back (Err PremiseHeld) = refl
named_back (Err BookFull) = refl
named_back (Err OrderOpen) = refl
named_back (Err ReferenceHeld) = refl
named_back (Err DayOutOfRange) = refl
named_back (Err NoSwitchDate) = refl
named_back (Err NotFirstIn) = refl
named_back (Err RetailerShareFull) = refl
named_back (Err StackFull) = refl
named_back (Err NoSuchOrder) = refl
named_back (Err StatusNotTaken) = refl
named_back (Err CounterNotAbove) = refl
named_back (Err OrderInWindow) = refl
named_back (Err NotNextDay) = refl

pub same_number : (one other : Answer) → number one ≡ number other → one ≡ other
same_number one other e = sym (named_back one) ∙ ap (λ (n : ℕ). get_or answers n (Ok tt)) e ∙ named_back other

pub accepted_is_zero : AcceptedIsZero
unfolding number
accepted_is_zero answer = (same_number answer (Ok tt), λ e. rw e)

pub premise_row_numbers : PremiseRowNumbers
unfolding number premise_rows
premise_row_numbers file r = refl

pub order_row_numbers : OrderRowNumbers
unfolding number order_rows
order_row_numbers width calendar today os r = refl

pub book_answers : BookAnswers
unfolding number
book_answers = refl

pub full_is_six : FullIsSix
unfolding number
full_is_six answer = (same_number answer (Err BookFull), λ e. rw e)

-- ---- the rows of the one-premise rules
abbrev not_six : Row → Bool
not_six x = not (eqb (number x.answer) 6)

first_not_six : (rs : List Row) → all_of not_six rs ≡ true → number (first_row rs) ≡ 6 → ⊥
unfolding number
first_not_six [] h = λ e. omega (arith, e)
first_not_six (x ∷ rs) h = go x.when (first_not_six rs (and_right (not_six x) (all_of not_six rs) h))
  where
    go : (w : Bool) → (number (first_row rs) ≡ 6 → ⊥) → number (cond w x.answer (first_row rs)) ≡ 6 → ⊥
    go true later = eqb-false (number x.answer) 6 (not-true (eqb (number x.answer) 6) (and_left (not_six x) (all_of not_six rs) h))
    go false later = later

none_is_six : (calendar : List ℕ) (today : ℕ) (file : Option File) (r : Record) → all_of not_six (rows calendar today file r) ≡ true
unfolding number premise_rows order_rows
none_is_six calendar today file r = refl

pub no_row_6 : NoRow6
no_row_6 calendar today file r e =
    first_not_six (rows calendar today file r) (none_is_six calendar today file r)
    ((full_is_six (first_row (rows calendar today file r))).1 e)

-- ---- the rows from a number on
-- where no row in front has the number, they are those of the rest
pub from_skips : (n : ℕ) (rs more : List Row) → any_of (λ (k : ℕ). eqb k n) (row_numbers rs) ≡ false → from_row n (rs ++ more) ≡ from_row n more
from_skips n [] more h = refl
from_skips n (x ∷ rs) more h =
    let later = from_skips n rs more (or_right (eqb (number x.answer) n) (any_of (λ (k : ℕ). eqb k n) (row_numbers rs)) h) in
    rw (or_left (eqb (number x.answer) n) (any_of (λ (k : ℕ). eqb k n) (row_numbers rs)) h) later

-- no row holds in front of the number, and none from it on
pub none_in_all : (n : ℕ) (rs : List Row) → any_of holds (in_front_of n rs) ≡ false → any_of holds (from_row n rs) ≡ false
    → any_of holds rs ≡ false
none_in_all n [] h k = refl
none_in_all n (x ∷ rs) h k = go (eqb (number x.answer) n) h k (none_in_all n rs)
  where
    go : (b : Bool) → any_of holds (cond b [] (x ∷ in_front_of n rs)) ≡ false → any_of holds (cond b (x ∷ rs) (from_row n rs)) ≡ false
        → (any_of holds (in_front_of n rs) ≡ false → any_of holds (from_row n rs) ≡ false → any_of holds rs ≡ false)
        → any_of holds (x ∷ rs) ≡ false
    go true h k later = k
    go false h k later =
        ap₂ (λ (a b : Bool). a || b) (or_left x.when (any_of holds (in_front_of n rs)) h)
        (later (or_right x.when (any_of holds (in_front_of n rs)) h) k)

pub room_from_26 : RoomFrom26
unfolding number order_rows
room_from_26 width calendar today os r e own all =
    rw (
      eqb-true r.kind kind_new_order e,
      lt-leb most_of_one (open_of r.retailer os) own,
      ne_eqb (count_of is_open os) most_orders (λ q. omega (arith, q, all)),
    )

pub needs_file : NeedsFile
unfolding premise_rows
needs_file r more e = rw e refl

pub create_held : CreateHeld
unfolding premise_rows
create_held f r more e = rw (eqb-true r.kind kind_create e)
