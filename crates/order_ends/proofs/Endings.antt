-- The first theorem: a closed order stays until it goes, an order goes only so, and comes only by an accepted new order. One call by what
-- becomes of the order, then lists of calls, with no cases. Assumes nothing.
use Prim.Native.Nat.{ℕ, min}
use mathlib.Core.Path.{◌≡◌, refl, sym, ap, subst, ◌∙◌}
use mathlib.Core.Logic.{◌⊎◌, inl, inr}
use mathlib.Core.List.{List, [], ◌∷◌, ◌++◌, append_assoc, append-nil}
use Rattle.std.specs.Prelude.{Option, Some, None}
use mathlib.Core.Bool.{Bool, true, false, not, ◌&&◌, false≢true}
use native.Mathlib.Omega.{arith}
use lib.Dec.{eqb, leb}
use borrow.Author.Tests.{eqb-true}
use Rattle.lists.proofs.SearchLaws.{each_append}
use Rattle.days.specs.Days.{last_day}
use Rattle.records.specs.declared.Record.{Record}
use Rattle.records.specs.Records.{kind_retire, kind_new_order, kind_day_mark}
use Rattle.premise.specs.declared.Order.{Order}
use Rattle.premise.specs.Orders.{in_review, cancel_pending, complete, cancelled, unexecutable, has_status, is_open, is_closed}
use Rattle.premise.specs.Steps.{is}
use Rattle.premise.specs.Refusals.{orders_of}
use Rattle.premise.specs.OnePremise.{State}
use Rattle.premise_laws.specs.Endings.{order_in, is_there, Comes, Drops, Goes, Becomes}
use Rattle.premise_laws.proofs.OrdersFound.{not_there}
use Rattle.premise_laws.proofs.OrdersRest.{other_status}
use Rattle.book.specs.declared.Book.{Book}
use Rattle.book.specs.Book.{fresh_book, book_kept, file_for}
use Rattle.book.specs.Promise.{Promised}
use Rattle.book.proofs.Kept.{fresh_kept}
use Rattle.book.proofs.OnPremise.{state_of}
use Rattle.demands.specs.Demand3.{Made, Played, last_book}
use Rattle.order_ends.specs.Endings.{order_for, ThereAfterEach, ClosedStays, Gone, GoneByItsCall, OpenStaysThere, NeverGone}
use Rattle.order_ends.specs.Endings.{ThereUntilGone, Came, EachCame, ComesToOneEnd, Endings}
use Rattle.order_ends.proofs.Calls.{Done, Left, one_call, last-append, call_kept, last_kept, played_first, played_second}

-- ---- by what becomes of an order
module _ (calendar : List ℕ) (today premise : ℕ) (r : Record) (reference : ℕ) (os : List Order) (o : Order) where
  closed_becomes : (before after : Option Order) → Becomes calendar today premise r reference os before after → before ≡ Some o
      → is_closed o ≡ true → is_there after ≡ true → after ≡ Some o
  closed_becomes None after s e c t = absurd (let z : ◌≡◌ {A = ℕ} 0 1 = cc in omega arith)
  closed_becomes (Some x) None s e c t = absurd (false≢true t)
  closed_becomes (Some x) (Some y) s e c t =
      let same : x ≡ o = cc in
      ap Some (s.closed (ap is_closed same ∙ c) ∙ same)

  goes_becomes : (before after : Option Order) → Becomes calendar today premise r reference os before after → before ≡ Some o → after ≡ None
      → Goes os r o
  goes_becomes None after s e n = absurd (let z : ◌≡◌ {A = ℕ} 0 1 = cc in omega arith)
  goes_becomes (Some x) None s e n = subst (Goes os r) (let same : x ≡ o = cc in same) s
  goes_becomes (Some x) (Some y) s e n = absurd (let z : ◌≡◌ {A = ℕ} 0 1 = cc in omega arith)

-- a retire and a new order are no day marks
no_mark : (os : List Order) (r : Record) (o : Order) → Goes os r o → is kind_day_mark r ≡ false
no_mark os r o g = go g.how
  where
    go : (is kind_retire r ≡ true) ⊎ Drops os r o → is kind_day_mark r ≡ false
    go (inl t) = ap (λ (kind : ℕ). eqb kind kind_day_mark) (eqb-true r.kind kind_retire t)
    go (inr d) = ap (λ (kind : ℕ). eqb kind kind_day_mark) (eqb-true r.kind kind_new_order d.kind)

-- ---- one call
module _ (calendar : List ℕ) (premise reference : ℕ) where
  module _ (b : Book) (m : Made) (k : book_kept b ≡ true) (p : Promised calendar b m.bytes m.lent m.reply m.after) (o : Order)
      (e : order_for premise reference b ≡ Some o) where
    pub closed_stays : is_closed o ≡ true → is_there (order_for premise reference m.reply.book) ≡ true
        → order_for premise reference m.reply.book ≡ Some o
    closed_stays c t = go (one_call calendar b m k p premise reference)
      where
        go : Done calendar b premise reference m ⊎ Left b premise reference m → order_for premise reference m.reply.book ≡ Some o
        go (inl d) = closed_becomes calendar b.today premise d.said reference _ o _ _ d.becomes e c t
        go (inr l) = l.order ∙ e

    gone_so : order_for premise reference m.reply.book ≡ None → Gone b premise o m
    gone_so n = go (one_call calendar b m k p premise reference)
      where
        go : Done calendar b premise reference m ⊎ Left b premise reference m → Gone b premise o m
        go (inl d) =
            let goes = goes_becomes calendar b.today premise d.said reference _ o _ _ d.becomes e n in
            record { said = d.said; says = d.says; accepted = d.accepted; own = d.own (no_mark _ d.said o goes); goes = goes }
        go (inr l) = absurd (let l2 = l.order in let z : ◌≡◌ {A = ℕ} 0 1 = cc in omega arith)

    there_unless : (Gone b premise o m → ⊥) → is_there (order_for premise reference m.reply.book) ≡ true
    there_unless never = go (is_there (order_for premise reference m.reply.book)) refl
      where
        go : (there : Bool) → is_there (order_for premise reference m.reply.book) ≡ there → there ≡ true
        go true q = refl
        go false q = absurd (never (gone_so (not_there (order_for premise reference m.reply.book) q)))

    open_stays : is_open o ≡ true → is_there (order_for premise reference m.reply.book) ≡ true
    open_stays q = there_unless (λ g. false≢true (ap not (sym q) ∙ g.goes.closed))

  -- ---- lists of calls
  found : (x : Option Order) → is_there x ≡ true → (o : Order) × (x ≡ Some o)
  found None t = absurd (false≢true t)
  found (Some o) t = (o, refl)

  pub stays_from : (b : Book) (ms : List Made) → book_kept b ≡ true → Played calendar b ms
      → (o : Order) → order_for premise reference b ≡ Some o → is_closed o ≡ true → ThereAfterEach premise reference ms
      → order_for premise reference (last_book b ms) ≡ Some o
  stays_from b [] k p o e c t = e
  stays_from b (m ∷ ms) k p o e c t =
      stays_from m.reply.book ms (call_kept calendar b m k p.0) p.1 o (closed_stays b m k p.0 o e c t.0) c t.1

  there_from : (b : Book) (ms : List Made) → book_kept b ≡ true → Played calendar b ms → is_there (order_for premise reference b) ≡ true
      → NeverGone premise reference b ms → ThereAfterEach premise reference ms
  there_from b [] k p t n = tt
  there_from b (m ∷ ms) k p t n =
      let here = found (order_for premise reference b) t in
      let next = there_unless b m k p.0 here.0 here.1 (n.0 here.0 here.1) in
      (next, there_from m.reply.book ms (call_kept calendar b m k p.0) p.1 next n.1)

  -- ---- where it came from
  module _ (start : ℕ) where
    -- after a list of calls it is known where it came from, or it is not there
    abbrev Known : List Made → Type 0
    Known ms = Came calendar start premise reference ms ⊎ (order_for premise reference (last_book (fresh_book start) ms) ≡ None)

    after_one : (xs : List Made) (m : Made) → last_book (fresh_book start) (xs ++ (m ∷ [])) ≡ m.reply.book
    after_one xs m = last-append (fresh_book start) xs (m ∷ [])

    -- one call more, after which it is there
    known_there : (xs : List Made) (m : Made) → book_kept (last_book (fresh_book start) xs) ≡ true
        → Promised calendar (last_book (fresh_book start) xs) m.bytes m.lent m.reply m.after
        → (o : Order) → order_for premise reference m.reply.book ≡ Some o → Known xs
        → Came calendar start premise reference (xs ++ (m ∷ []))
    known_there xs m k p o e (inl c) =
        record {
          before = c.before;
          call = c.call;
          later = c.later ++ (m ∷ []);
          whole = ap (λ (l : List Made). l ++ (m ∷ [])) c.whole ∙ append_assoc c.before (c.call ∷ c.later) (m ∷ []);
          said = c.said;
          says = c.says;
          accepted = c.accepted;
          kind = c.kind;
          own = c.own;
          names = c.names;
          free = c.free;
          begins = c.begins;
          since = each_append (λ (x : Made). is_there (order_for premise reference x.reply.book) ≡ true) c.later (m ∷ []) c.since
              (ap is_there e, tt);
        }
    known_there xs m k p o e (inr free) = go (one_call calendar (last_book (fresh_book start) xs) m k p premise reference)
      where
        b : Book
        b = last_book (fresh_book start) xs

        comes : (r : Record) (os : List Order) (before after : Option Order)
            → Becomes calendar b.today premise r reference os before after
            → before ≡ None → after ≡ Some o → Comes calendar b.today r reference o
        comes r os None None s f q = absurd (let z : ◌≡◌ {A = ℕ} 0 1 = cc in omega arith)
        comes r os None (Some x) s f q =
            subst (Comes calendar b.today r reference) (let same : x ≡ o = cc in same) s
        comes r os (Some x) after s f q = absurd (let z : ◌≡◌ {A = ℕ} 0 1 = cc in omega arith)

        go : Done calendar b premise reference m ⊎ Left b premise reference m → Came calendar start premise reference (xs ++ (m ∷ []))
        go (inr l) = absurd (let l2 = l.order in let z : ◌≡◌ {A = ℕ} 0 1 = cc in omega arith)
        go (inl d) =
            let c = comes d.said _ _ _ d.becomes free e in
            record {
              before = xs;
              call = m;
              later = [];
              whole = refl;
              said = d.said;
              says = d.says;
              accepted = d.accepted;
              kind = c.kind;
              own = d.own (ap (λ (kind : ℕ). eqb kind kind_day_mark) (eqb-true d.said.kind kind_new_order c.kind));
              names = c.names;
              free = free;
              begins = e ∙ ap Some c.new;
              since = tt;
            }

    known_next : (xs : List Made) (m : Made) → book_kept (last_book (fresh_book start) xs) ≡ true
        → Promised calendar (last_book (fresh_book start) xs) m.bytes m.lent m.reply m.after
        → Known xs → Known (xs ++ (m ∷ []))
    known_next xs m k p c = go (order_for premise reference m.reply.book) refl
      where
        go : (after : Option Order) → order_for premise reference m.reply.book ≡ after → Known (xs ++ (m ∷ []))
        go None e = inr (ap (order_for premise reference) (after_one xs m) ∙ e)
        go (Some o) e = inl (known_there xs m k p o e c)

    known_all : (ys xs : List Made) → book_kept (last_book (fresh_book start) xs) ≡ true
        → Played calendar (last_book (fresh_book start) xs) ys → Known xs → Known (xs ++ ys)
    known_all [] xs k p c = rw (append-nil xs) c
    known_all (m ∷ ys) xs k p c =
        subst Known (append_assoc xs (m ∷ []) ys)
        (known_all ys (xs ++ (m ∷ [])) (ap book_kept (after_one xs m) ∙ call_kept calendar (last_book (fresh_book start) xs) m k p.0)
        (subst (λ (b : Book). Played calendar b ys) (sym (after_one xs m)) p.1) (known_next xs m k p.0 c))

    -- a fresh book has no order
    fresh_none : order_for premise reference (fresh_book start) ≡ None
    unfolding order_for file_for
    fresh_none = ap (λ (s : State). order_in reference (orders_of s.file)) (state_of (min start last_day) premise [])

-- ---- the theorem
closed_stays_all : ClosedStays
closed_stays_all calendar start first second p premise reference o e c t =
    let b : Book = last_book (fresh_book start) first in
    let k = last_kept calendar (fresh_book start) first (fresh_kept start) (played_first calendar (fresh_book start) first second p) in
    ap (order_for premise reference) (last-append (fresh_book start) first second)
    ∙ stays_from calendar premise reference b second k (played_second calendar (fresh_book start) first second p) o e c t

gone_by_its_call : GoneByItsCall
gone_by_its_call calendar start before m p premise reference o e n =
    let b : Book = last_book (fresh_book start) before in
    let k = last_kept calendar (fresh_book start) before (fresh_kept start) (played_first calendar (fresh_book start) before (m ∷ []) p) in
    gone_so calendar premise reference b m k (played_second calendar (fresh_book start) before (m ∷ []) p).0 o e n

open_stays_there : OpenStaysThere
open_stays_there calendar start before m p premise reference o e q =
    let b : Book = last_book (fresh_book start) before in
    let k = last_kept calendar (fresh_book start) before (fresh_kept start) (played_first calendar (fresh_book start) before (m ∷ []) p) in
    open_stays calendar premise reference b m k (played_second calendar (fresh_book start) before (m ∷ []) p).0 o e q

there_until_gone : ThereUntilGone
there_until_gone calendar start first second p premise reference t n =
    let b : Book = last_book (fresh_book start) first in
    let k = last_kept calendar (fresh_book start) first (fresh_kept start) (played_first calendar (fresh_book start) first second p) in
    there_from calendar premise reference b second k (played_second calendar (fresh_book start) first second p) t n

each_came : EachCame
each_came calendar start ms p premise reference t =
    go (known_all calendar premise reference start ms [] (fresh_kept start) p (inr (fresh_none calendar premise reference start)))
  where
    go : Came calendar start premise reference ms ⊎ (order_for premise reference (last_book (fresh_book start) ms) ≡ None)
        → Came calendar start premise reference ms
    go (inl c) = c
    go (inr n) = absurd (false≢true (sym (ap is_there n) ∙ t))

-- an order with a closed status is closed
closed_by : (status : ℕ) (o : Order) → (leb in_review status && leb status cancel_pending) ≡ false → has_status status o ≡ true
    → is_closed o ≡ true
closed_by status o n e =
    ap (λ (s : ℕ). not (leb in_review s && leb s cancel_pending)) (eqb-true o.status status e) ∙ ap not n

comes_to_one_end : ComesToOneEnd
comes_to_one_end calendar start first second p premise reference o after e n q =
    record {
      complete_not_cancelled = λ s. other complete cancelled refl refl s;
      complete_not_unexecutable = λ s. other complete unexecutable refl refl s;
      cancelled_not_complete = λ s. other cancelled complete refl refl s;
      unexecutable_not_complete = λ s. other unexecutable complete refl refl s;
    }
  where
    inside : (x y : Order) → ◌≡◌ {A = Option Order} (Some x) (Some y) → x ≡ y
    inside x y e = cc

    other : (one another : ℕ) → (leb in_review one && leb one cancel_pending) ≡ false → eqb one another ≡ false → has_status one o ≡ true
        → has_status another after ≡ false
    other one another c d s =
        let there = there_until_gone calendar start first second p premise reference (ap is_there e) n in
        let stays = closed_stays_all calendar start first second p premise reference o e (closed_by one o c s) there in
        let same = inside after o (sym q ∙ stays) in
        ap (has_status another) same ∙ other_status one another o d s

pub endings : Endings
endings = record {
  stays = closed_stays_all;
  gone = gone_by_its_call;
  open_there = open_stays_there;
  until = there_until_gone;
  came = each_came;
  one_end = comes_to_one_end;
}
