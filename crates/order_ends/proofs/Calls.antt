-- One call on a well_kept book and what becomes of an order by it; lists of calls in two parts. Assumes nothing.
use Prim.Native.Nat.{ℕ, ◌+◌}
use mathlib.Core.Path.{◌≡◌, refl, sym, ap, subst, ◌∙◌}
use mathlib.Core.Logic.{◌⊎◌, inl, inr}
use mathlib.Core.List.{List, [], ◌∷◌, ◌++◌}
use Rattle.std.specs.Prelude.{Option, Some, None}
use mathlib.Core.Bool.{Bool, true, false, cond, false≢true}
use native.Mathlib.Omega.{arith}
use lib.Dec.{eqb}
use borrow.Author.Tests.{eqb-true}
use Rattle.records.specs.declared.Record.{Record}
use Rattle.records.specs.Records.{reading, kind_day_mark}
use Rattle.records.proofs.Readings.{says}
use Rattle.premise.specs.declared.Order.{Order}
use Rattle.premise.specs.declared.File.{File}
use Rattle.std.specs.Prelude.{Err}
use Rattle.premise.specs.declared.Refusal.TheVariants.{NotNextDay}
use Rattle.premise.specs.Orders.{held}
use Rattle.premise.specs.Steps.{is}
use Rattle.premise.specs.Refusals.{number, orders_of}
use Rattle.premise.specs.OnePremise.{State, Given, refused, step}
use Rattle.premise.specs.Laws.{marked_or}
use Rattle.premise.proofs.Answers.{mark_step, only_marks_move}
use Rattle.premise_laws.specs.Laws.{Held, KeptFor}
use Rattle.premise_laws.specs.Endings.{order_in, Becomes}
use Rattle.premise_laws.proofs.KeptOrders.{OrderKept, orders_facts}
use Rattle.premise_laws.proofs.KeptReferences.{has_reference}
use Rattle.premise_laws.proofs.OrdersFound.{found_each}
use Rattle.premise_laws.proofs.Endings.{step_on_order}
use Rattle.book.specs.declared.Book.{Book}
use Rattle.book.specs.Book.{files_of, book_kept, file_for}
use Rattle.book.specs.Calls.{premise_state, call}
use Rattle.book.specs.Laws.{Heard, Unheard}
use Rattle.book.specs.Promise.{Promised}
use Rattle.book.proofs.Kept.{book_kept_means}
use Rattle.book.proofs.Rows.{refusing}
use Rattle.book.proofs.Keeps.{found_kept, call_keeps}
use Rattle.book.proofs.OnPremise.{call_on_premise}
use Rattle.demands.specs.Demand3.{Made, Played, last_book}
use Rattle.order_ends.specs.Endings.{order_for}

-- ---- one call
-- a record that the premise hears, and what becomes of its order; a day mark is the next day's
pub record Done (calendar : List ℕ) (b : Book) (premise reference : ℕ) (m : Made) : Type 0 where
  pub said : Record
  pub says : reading m.bytes ≡ Some said
  pub own : is kind_day_mark said ≡ false → said.premise ≡ premise
  pub accepted : number m.reply.answer ≡ 0
  pub becomes : Becomes calendar b.today premise said reference (orders_of (file_for premise (files_of b))) (order_for premise reference b)
      (order_for premise reference m.reply.book)
  pub next : is kind_day_mark said ≡ true → said.day ≡ b.today + 1
  pub today : m.reply.book.today ≡ cond (is kind_day_mark said) (b.today + 1) b.today

-- a call that leaves the premise and T; it is no accepted day mark
pub record Left (b : Book) (premise reference : ℕ) (m : Made) : Type 0 where
  pub no_mark : number m.reply.answer ≡ 0 → (r : Record) → reading m.bytes ≡ Some r → is kind_day_mark r ≡ false
  pub order : order_for premise reference m.reply.book ≡ order_for premise reference b
  pub today : m.reply.book.today ≡ b.today

-- the day that an accepted record leaves
record Dated (calendar : List ℕ) (s : State) (r : Record) : Type 0 where
  next : is kind_day_mark r ≡ true → r.day ≡ s.today + 1
  today : (step calendar s r).state.today ≡ cond (is kind_day_mark r) (s.today + 1) s.today

dated : (calendar : List ℕ) (s : State) (r : Record) → number (step calendar s r).answer ≡ 0 → Dated calendar s r
dated calendar s r z = go (is kind_day_mark r) refl
  where
    marked_day : (file : Option File) → (marked_or calendar r.day file).state.today ≡ r.day
    marked_day None = refl
    marked_day (Some f) = refl

    mark : (next : Bool) → eqb r.day (s.today + 1) ≡ next
        → step calendar s r ≡ cond next (marked_or calendar r.day s.file) (refused (Err NotNextDay) s)
        → (r.day ≡ s.today + 1) × ((step calendar s r).state.today ≡ s.today + 1)
    mark true q e =
        let day = eqb-true r.day (s.today + 1) q in
        (day, ap (λ (x : Given). x.state.today) e ∙ marked_day s.file ∙ day)
    mark false q e = absurd (refusing NotNextDay (sym (ap (λ (x : Given). number x.answer) e) ∙ z))

    go : (is-mark : Bool) → is kind_day_mark r ≡ is-mark → Dated calendar s r
    go true t =
        let e = mark_step calendar s r t in
        let x = mark (eqb r.day (s.today + 1)) refl e in
        record { next = λ u. x.0; today = x.1 ∙ ap (λ (c : Bool). cond c (s.today + 1) s.today) (sym t) }
    go false t =
        record {
          next = λ u. absurd (false≢true (sym t ∙ u));
          today = only_marks_move calendar s r t ∙ ap (λ (c : Bool). cond c (s.today + 1) s.today) (sym t);
        }

module _ (calendar : List ℕ) (b : Book) (m : Made) (k : book_kept b ≡ true)
    (p : Promised calendar b m.bytes m.lent m.reply m.after) (premise reference : ℕ) where
  heard_done : Heard calendar b m.bytes premise (call calendar b m.bytes m.lent) → Done calendar b premise reference m
  unfolding order_for
  heard_done h =
      let s : State = premise_state b premise in
      let r : Record = h.said in
      let state : premise_state m.reply.book premise ≡ (step calendar s r).state =
      ap (λ (c : Book). premise_state c premise) p.book ∙ h.state in
      let day = dated calendar s r h.accepted in
      record {
        said = r;
        says = h.says;
        own = h.own;
        accepted = ap number p.answer ∙ h.answered;
        becomes = subst (λ (t : State). Becomes calendar b.today premise r reference (orders_of (file_for premise (files_of b)))
            (order_in reference (orders_of (file_for premise (files_of b)))) (order_in reference (orders_of t.file))) (sym state)
            (step_on_order calendar s r premise reference (says m.bytes r h.says).formed
            (found_kept b ((book_kept_means b).0 k) premise) h.accepted);
        next = day.next;
        today = ap (λ (t : State). t.today) state ∙ day.today;
      }

  unheard_left : Unheard b m.bytes premise (call calendar b m.bytes m.lent) → Left b premise reference m
  unfolding order_for
  unheard_left h =
      let state : premise_state m.reply.book premise ≡ premise_state b premise =
      ap (λ (c : Book). premise_state c premise) p.book ∙ h.state in
      record {
        no_mark = λ z r e. (h.why (sym (ap number p.answer) ∙ z) r e).0;
        order = ap (λ (t : State). order_in reference (orders_of t.file)) state;
        today = ap (λ (t : State). t.today) state;
      }

  pub one_call : Done calendar b premise reference m ⊎ Left b premise reference m
  one_call = go (call_on_premise calendar b m.bytes m.lent premise k)
    where
      go : Heard calendar b m.bytes premise (call calendar b m.bytes m.lent)
          ⊎ Unheard b m.bytes premise (call calendar b m.bytes m.lent)
          → Done calendar b premise reference m ⊎ Left b premise reference m
      go (inl h) = inl (heard_done h)
      go (inr h) = inr (unheard_left h)

-- an order of a well_kept book is kept
pub order_kept_lem : (b : Book) → book_kept b ≡ true → (premise reference : ℕ) (o : Order) → order_for premise reference b ≡ Some o → OrderKept o
unfolding order_for
order_kept_lem b k premise reference o e = go (file_for premise (files_of b)) (found_kept b ((book_kept_means b).0 k) premise) e
  where
    go : (file : Option File) → Held (KeptFor premise) file → order_in reference (orders_of file) ≡ Some o → OrderKept o
    go None h q = absurd (let z : ◌≡◌ {A = ℕ} 0 1 = cc in omega arith)
    go (Some f) h q = found_each (has_reference reference) OrderKept (held f) o (orders_facts (held f) h.kept.orders) q

-- ---- lists of calls
pub last-append : (b : Book) (xs ys : List Made) → last_book b (xs ++ ys) ≡ last_book (last_book b xs) ys
last-append b [] ys = refl
last-append b (m ∷ xs) ys = last-append m.reply.book xs ys

module _ (calendar : List ℕ) where
  pub call_kept : (b : Book) (m : Made) → book_kept b ≡ true → Promised calendar b m.bytes m.lent m.reply m.after
      → book_kept m.reply.book ≡ true
  call_kept b m k p = ap book_kept p.book ∙ call_keeps calendar b m.bytes m.lent k

  pub last_kept : (b : Book) (ms : List Made) → book_kept b ≡ true → Played calendar b ms → book_kept (last_book b ms) ≡ true
  last_kept b [] k p = k
  last_kept b (m ∷ ms) k p = last_kept m.reply.book ms (call_kept b m k p.0) p.1

  pub played_first : (b : Book) (xs ys : List Made) → Played calendar b (xs ++ ys) → Played calendar b xs
  played_first b [] ys p = tt
  played_first b (m ∷ xs) ys p = (p.0, played_first m.reply.book xs ys p.1)

  pub played_second : (b : Book) (xs ys : List Made) → Played calendar b (xs ++ ys) → Played calendar (last_book b xs) ys
  played_second b [] ys p = p
  played_second b (m ∷ xs) ys p = played_second m.reply.book xs ys p.1
