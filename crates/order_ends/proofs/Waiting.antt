-- The second theorem: an order in review that no accepted record names is, after every call, what it is on that day. Assumes nothing.
use Prim.Native.Nat.{ℕ, ◌+◌, ◌≤◌, ◌<◌}
use mathlib.Core.Path.{◌≡◌, refl, sym, ap, ap₂, subst, ◌∙◌}
use mathlib.Core.Logic.{◌⊎◌, inl, inr}
use mathlib.Core.List.{List, [], ◌∷◌, ◌++◌}
use Rattle.std.specs.Prelude.{Option, Some, None}
use mathlib.Core.Bool.{Bool, true, false, cond, not, ◌&&◌, false≢true}
use native.Mathlib.Omega.{arith}
use lib.Dec.{eqb, ltb}
use borrow.Author.Tests.{eqb-true, eq-eqb, ltb-true, ltb-false}
use Rattle.lists.specs.Search.{count_of, Each}
use Rattle.lists.proofs.TestLaws.{or_either}
use Rattle.lists.proofs.SearchLaws.{count_append}
use Rattle.days.specs.Days.{is_business_day}
use Rattle.records.specs.declared.Record.{Record}
use Rattle.records.specs.Records.{reading, kind_day_mark}
use Rattle.premise.specs.declared.Order.{Order}
use Rattle.premise.specs.Orders.{in_review, cancel_pending, has_status, is_open, is_closed}
use Rattle.premise.specs.Steps.{is}
use Rattle.premise.specs.Refusals.{number}
use Rattle.premise.specs.Clock.{ticked}
use Rattle.premise.proofs.Taken.{status_open}
use Rattle.premise_laws.specs.Endings.{is_there, Waits, Stays, Becomes}
use Rattle.premise_laws.proofs.KeptOrders.{OrderKept}
use Rattle.book.specs.declared.Book.{Book}
use Rattle.book.specs.Book.{fresh_book, book_kept}
use Rattle.book.specs.Promise.{Promised}
use Rattle.book.proofs.Kept.{fresh_kept, book_kept_means}
use Rattle.demands.specs.Demand3.{Made, Played, last_book}
use Rattle.order_ends.specs.Endings.{order_for, ThereAfterEach}
use Rattle.order_ends.specs.Waiting.{is_mark, is_accepted_mark, MarksMoveDay, is_named, Unnamed, turning_of, Hangs, HangsUntilItsDay}
use Rattle.order_ends.proofs.Calls.{Done, Left, one_call, order_kept_lem, last-append, call_kept, last_kept, played_first, played_second}
use Rattle.order_ends.proofs.Endings.{closed_stays}
use Rattle.order_ends.proofs.Ticks.{on_day, on_before, on_pending, on_ended, no_day_lem, on_first, on_waits, on_closed, on_next}

-- ---- accepted marks
module _ (calendar : List ℕ) where
  call_moves : (b : Book) (m : Made) → book_kept b ≡ true → Promised calendar b m.bytes m.lent m.reply m.after
      → m.reply.book.today ≡ b.today + cond (is_accepted_mark m) 1 0
  call_moves b m k p = go (one_call calendar b m k p 0 0)
    where
      by : (mark : Bool) → cond mark (b.today + 1) b.today ≡ b.today + cond mark 1 0
      by true = refl
      by false = omega arith

      left : (zero : Bool) (d : Option Record) → eqb (number m.reply.answer) 0 ≡ zero → reading m.bytes ≡ d → Left b 0 0 m
          → (zero && is_mark d) ≡ false
      left false d z e l = refl
      left true None z e l = refl
      left true (Some r) z e l = l.no_mark (eqb-true (number m.reply.answer) 0 z) r e

      go : Done calendar b 0 0 m ⊎ Left b 0 0 m → m.reply.book.today ≡ b.today + cond (is_accepted_mark m) 1 0
      go (inl d) =
          let marks : is_accepted_mark m ≡ is kind_day_mark d.said =
          ap (λ (x : Bool). x && is_mark (reading m.bytes)) (eq-eqb (number m.reply.answer) 0 d.accepted) ∙ ap is_mark d.says in
          d.today ∙ by (is kind_day_mark d.said) ∙ ap (λ (x : Bool). b.today + cond x 1 0) (sym marks)
      go (inr l) =
          let none = left (eqb (number m.reply.answer) 0) (reading m.bytes) refl refl l in
          omega (arith, l.today, ap {B = ℕ} (λ (x : Bool). cond x 1 0) none)

  pub calls_move : (b : Book) (ms : List Made) → book_kept b ≡ true → Played calendar b ms
      → (last_book b ms).today ≡ b.today + count_of is_accepted_mark ms
  calls_move b [] k p = omega arith
  calls_move b (m ∷ ms) k p =
      let rest = calls_move m.reply.book ms (call_kept calendar b m k p.0) p.1 in
      omega (arith, rest, call_moves b m k p.0)

pub marks_move_day : MarksMoveDay
marks_move_day calendar start first second p =
    let k = last_kept calendar (fresh_book start) first (fresh_kept start) (played_first calendar (fresh_book start) first second p) in
    ap (λ (b : Book). b.today) (last-append (fresh_book start) first second)
    ∙ calls_move calendar (last_book (fresh_book start) first) second k (played_second calendar (fresh_book start) first second p)

-- ---- one call, by what becomes of an order that waits
waits_open : (o : Order) → Waits o → is_open o ≡ true
waits_open o q = or_either (has_status in_review o) (has_status cancel_pending o) q.status (status_open in_review o refl)
    (status_open cancel_pending o refl)

waits_becomes : (calendar : List ℕ) (today premise : ℕ) (r : Record) (reference : ℕ) (os : List Order) (o : Order)
    (before after : Option Order)
    → Becomes calendar today premise r reference os before after → before ≡ Some o → Waits o
    → (is kind_day_mark r ≡ false → r.reference ≡ reference → ⊥)
    → after ≡ Some (cond (is kind_day_mark r) (ticked (is_business_day calendar r.day) r.day premise o).order o)
waits_becomes calendar today premise r reference os o None after s e q u = absurd (let z : ◌≡◌ {A = ℕ} 0 1 = cc in omega arith)
waits_becomes calendar today premise r reference os o (Some x) None s e q u =
    let same : x ≡ o = cc in
    absurd (false≢true (ap not (sym (waits_open o q)) ∙ ap is_closed (sym same) ∙ s.closed))
waits_becomes calendar today premise r reference os o (Some x) (Some y) s e q u =
    let same : x ≡ o = cc in
    ap Some ((subst (λ (z : Order). Stays calendar premise r reference z y) same s).waits q u)

-- a record of the premise that an accepted call does not name it by
not_named : (calendar : List ℕ) (b : Book) (premise reference : ℕ) (m : Made) (d : Done calendar b premise reference m)
    → Unnamed premise reference m → is kind_day_mark d.said ≡ false → d.said.reference ≡ reference → ⊥
not_named calendar b premise reference m d u t e =
    false≢true
    (sym (u d.accepted) ∙ ap (is_named premise reference) d.says
    ∙ ap₂ (λ (x y : Bool). x && y) (eq-eqb d.said.premise premise (d.own t)) (eq-eqb d.said.reference reference e))

-- ---- day by day
module _ (calendar : List ℕ) (premise reference today : ℕ) (o : Order) (review : has_status in_review o ≡ true) (kept : OrderKept o) where
  abbrev turning : ℕ
  turning = turning_of calendar today o

  -- it is what it is on that day
  abbrev AsOnDay : Book → Type 0
  AsOnDay b = order_for premise reference b ≡ Some (on_day calendar today o b.today)

  module _ (b : Book) (m : Made) (k : book_kept b ≡ true) (p : Promised calendar b m.bytes m.lent m.reply m.after)
      (after : today ≤ b.today) (e : AsOnDay b) where
    before_end : b.today < turning + 7 → Unnamed premise reference m → AsOnDay m.reply.book
    before_end h u = go (one_call calendar b m k p premise reference)
      where
        done : (d : Done calendar b premise reference m) (mark : Bool) → is kind_day_mark d.said ≡ mark
            → m.reply.book.today ≡ cond mark (b.today + 1) b.today
            → order_for premise reference m.reply.book
            ≡ Some (cond mark
            (ticked (is_business_day calendar d.said.day) d.said.day premise (on_day calendar today o b.today)).order
            (on_day calendar today o b.today))
            → AsOnDay m.reply.book
        done d true t moved q =
            let last = ((book_kept_means m.reply.book).0 (call_kept calendar b m k p)).today in
            q
            ∙ ap (λ (day : ℕ). Some (ticked (is_business_day calendar day) day premise (on_day calendar today o b.today)).order)
            (d.next t)
            ∙ ap Some (on_next calendar today o review kept b.today after (omega arith) h premise)
            ∙ ap (λ (day : ℕ). Some (on_day calendar today o day)) (sym moved)
        done d false t moved q = q ∙ ap (λ (day : ℕ). Some (on_day calendar today o day)) (sym moved)

        go : Done calendar b premise reference m ⊎ Left b premise reference m → AsOnDay m.reply.book
        go (inl d) =
            done d (is kind_day_mark d.said) refl d.today
            (waits_becomes calendar b.today premise d.said reference _ (on_day calendar today o b.today) _ _ d.becomes e
            (on_waits calendar today o review kept b.today h) (not_named calendar b premise reference m d u))
        go (inr l) = l.order ∙ e ∙ ap (λ (day : ℕ). Some (on_day calendar today o day)) (sym l.today)

    after_end : turning + 7 ≤ b.today → is_there (order_for premise reference m.reply.book) ≡ true → AsOnDay m.reply.book
    after_end h t =
        closed_stays calendar premise reference b m k p (on_day calendar today o b.today) e
        (on_closed calendar today o review kept b.today h) t
        ∙ ap Some
        (on_ended calendar today o b.today h
        ∙ sym (on_ended calendar today o m.reply.book.today (omega (arith, h, call_moves calendar b m k p))))

    on_call : Unnamed premise reference m
        → (b.today < turning + 7) ⊎ (is_there (order_for premise reference m.reply.book) ≡ true) → AsOnDay m.reply.book
    on_call u c = go (ltb b.today (turning + 7)) refl c
      where
        go : (early : Bool) → ltb b.today (turning + 7) ≡ early
            → (b.today < turning + 7) ⊎ (is_there (order_for premise reference m.reply.book) ≡ true) → AsOnDay m.reply.book
        go true q c = before_end (ltb-true b.today (turning + 7) q) u
        go false q (inl h) = absurd (omega (arith, h, ltb-false b.today (turning + 7) q))
        go false q (inr t) = after_end (ltb-false b.today (turning + 7) q) t

  -- each call comes before the last mark of its wait, or leaves it there
  abbrev Followed : Book → List Made → Type 0
  Followed b [] = Unit {0}
  Followed b (m ∷ ms) =
      ((b.today < turning + 7) ⊎ (is_there (order_for premise reference m.reply.book) ≡ true)) × Followed m.reply.book ms

  follow : (b : Book) (ms : List Made) → book_kept b ≡ true → Played calendar b ms → Each (Unnamed premise reference) ms
      → today ≤ b.today → AsOnDay b → Followed b ms → AsOnDay (last_book b ms)
  follow b [] k p u h e f = e
  follow b (m ∷ ms) k p u h e f =
      follow m.reply.book ms (call_kept calendar b m k p.0) p.1 u.1 (omega (arith, h, call_moves calendar b m k p.0))
      (on_call b m k p.0 h e u.0 f.0) f.1

  followed_early : (b : Book) (ms : List Made) → book_kept b ≡ true → Played calendar b ms → (last_book b ms).today < turning + 7
      → Followed b ms
  followed_early b [] k p h = tt
  followed_early b (m ∷ ms) k p h = (
    inl (omega (arith, h, calls_move calendar b (m ∷ ms) k p)),
    followed_early m.reply.book ms (call_kept calendar b m k p.0) p.1 h,
  )

  followed_there : (b : Book) (ms : List Made) → ThereAfterEach premise reference ms → Followed b ms
  followed_there b [] t = tt
  followed_there b (m ∷ ms) t = (inr t.0, followed_there m.reply.book ms t.1)

  -- the last call is the mark of the last day
  followed_last : (b : Book) (ms : List Made) (last : Made) → book_kept b ≡ true → Played calendar b (ms ++ (last ∷ []))
      → is_accepted_mark last ≡ true → (last_book b (ms ++ (last ∷ []))).today ≡ turning + 7 → Followed b (ms ++ (last ∷ []))
  followed_last b [] last k p a h =
      let one = ap {B = ℕ} (λ (x : Bool). cond x 1 0) a in
      (inl (omega (arith, h, one, call_moves calendar b last k p.0)), tt)
  followed_last b (m ∷ ms) last k p a h =
      let one = ap {B = ℕ} (λ (x : Bool). cond x 1 0) a in (
        inl (omega (
          arith,
          h,
          one,
          calls_move calendar b (m ∷ ms ++ (last ∷ [])) k p,
          count_append is_accepted_mark ms (last ∷ []),
        )),
        followed_last m.reply.book ms last (call_kept calendar b m k p.0) p.1 a h,
      )

  hangs : (b : Book) (ms : List Made) → book_kept b ≡ true → Played calendar b ms → Each (Unnamed premise reference) ms
      → b.today ≡ today → order_for premise reference b ≡ Some o → Hangs calendar premise reference o today ms (last_book b ms)
  hangs b ms k p u t e =
      let now = (last_book b ms).today in
      let first = on_first calendar today o review kept (omega (arith, t, ((book_kept_means b).0 k).today)) in
      let as-was : AsOnDay b = e ∙ ap Some (sym first) ∙ ap (λ (day : ℕ). Some (on_day calendar today o day)) (sym t) in
      let then = follow b ms k p u (omega arith) as-was in
      record {
        unscheduled = no_day_lem calendar today o review kept;
        waits = λ h. then (followed_early b ms k p (omega arith)) ∙ ap Some (on_before calendar today o now h);
        pends = λ h l. then (followed_early b ms k p (omega arith)) ∙ ap Some (on_pending calendar today o now h (omega arith));
        ends = λ before m q a h.
            then
            (subst (Followed b) (sym q)
            (followed_last b before m k (subst (Played calendar b) q p) a (ap (λ (l : List Made). (last_book b l).today) (sym q) ∙ h)))
            ∙ ap Some (on_ended calendar today o now (omega arith));
        stays = λ h l. then (followed_there b ms l) ∙ ap Some (on_ended calendar today o now h);
      }

pub hangs_until_its_day : HangsUntilItsDay
hangs_until_its_day calendar start first second p premise reference o e review u =
    let b : Book = last_book (fresh_book start) first in
    let k = last_kept calendar (fresh_book start) first (fresh_kept start) (played_first calendar (fresh_book start) first second p) in
    subst (Hangs calendar premise reference o b.today second) (sym (last-append (fresh_book start) first second))
    (hangs calendar premise reference b.today o review (order_kept_lem b k premise reference o e) b second k
    (played_second calendar (fresh_book start) first second p) u refl e)
