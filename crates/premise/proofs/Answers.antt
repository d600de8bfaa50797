-- The answer is that of the first row that holds, and no row's answer is acceptance. Assumes nothing.
use Prim.Native.Nat.{ℕ, ◌+◌}
use mathlib.Core.Path.{◌≡◌, refl, sym, ap, ◌∙◌}
use mathlib.Core.Logic.{◌↔◌}
use mathlib.Core.List.{List, [], ◌∷◌, ◌++◌}
use Rattle.std.specs.Prelude.{Option, Some, None}
use mathlib.Core.Bool.{Bool, true, false, cond, not, ◌||◌}
use lib.Dec.{eqb}
use borrow.Author.Tests.{eqb-true, eq-eqb, not-true}
use Rattle.lists.specs.Search.{any_of, all_of}
use Rattle.records.specs.declared.Record.{Record}
use Rattle.records.specs.Records.{kind_create, kind_retire, kind_day_mark}
use Rattle.premise.specs.declared.File.{File}
use Rattle.std.specs.Prelude.{Ok, Err}
use Rattle.premise.specs.Refusals.{Answer}
use Rattle.premise.specs.declared.Refusal.TheVariants.{ShortBuffer, NotWellKept, MalformedRecord, NoSuchPremise, OtherAgreement, PremiseHeld}
use Rattle.premise.specs.declared.Refusal.TheVariants.{BookFull, OrderOpen, ReferenceHeld, DayOutOfRange, NoSwitchDate, NotFirstIn}
use Rattle.premise.specs.declared.Refusal.TheVariants.{RetailerShareFull, StackFull, NoSuchOrder, StatusNotTaken, CounterNotAbove, OrderInWindow}
use Rattle.premise.specs.declared.Refusal.TheVariants.{NotNextDay}
use Rattle.premise.specs.Steps.{is}
use Rattle.premise.specs.Refusals.{Row, number, first_row, rows, is_held, premise_rows, order_rows}
use Rattle.premise.specs.OnePremise.{State, Given, effect_on, decide, refused, step_with}
use Rattle.premise.specs.Laws.{AnswerIsFirstRow, ZeroWhereNoRow, RefusalIs, RefusalChangesNothing, CreatePasses, OnlyMarksMove}
use Rattle.premise.specs.Laws.{MarkStep, OnlyCreateMakes, OnlyRetireTakes, marked_or}
use Rattle.lists.proofs.TestLaws.{by_test, and_left, and_right}

-- ---- any list of rows
pub first_row_skips : (a : List Row) (x : Row) (b : List Row) → x.when ≡ false → first_row (a ++ x ∷ b) ≡ first_row (a ++ b)
first_row_skips [] x b e = rw e
first_row_skips (y ∷ a) x b e = ap (cond y.when y.answer) (first_row_skips a x b e)

abbrev pub holds : Row → Bool
holds x = x.when

-- a row of a refusal: its number is not 0
abbrev pub refuses : Row → Bool
refuses x = not (eqb (number x.answer) 0)

-- where every row refuses, the first row's number is 0 exactly if none holds
pub zero_first : (rs : List Row) → all_of refuses rs ≡ true → eqb (number (first_row rs)) 0 ≡ not (any_of holds rs)
unfolding number
zero_first [] h = refl
zero_first (x ∷ rs) h =
    go x.when (and_left (refuses x) (all_of refuses rs) h) (zero_first rs (and_right (refuses x) (all_of refuses rs) h))
  where
    go : (w : Bool) → refuses x ≡ true → eqb (number (first_row rs)) 0 ≡ not (any_of holds rs)
        → eqb (number (cond w x.answer (first_row rs))) 0 ≡ not (w || any_of holds rs)
    go true e ih = not-true (eqb (number x.answer) 0) e
    go false e ih = ih

zero_none : (n : ℕ) (one : Bool) → eqb n 0 ≡ not one → (n ≡ 0) ↔ (one ≡ false)
zero_none n one e = ((λ q. not-true one (sym e ∙ eq-eqb n 0 q)), (λ q. eqb-true n 0 (e ∙ ap not q)))

pub all_refuse : (calendar : List ℕ) (today : ℕ) (file : Option File) (r : Record) → all_of refuses (rows calendar today file r) ≡ true
unfolding number premise_rows order_rows
all_refuse calendar today file r = refl

-- ---- what is decided
decided : (a : Answer) (done : Given) (s : State) → done.answer ≡ Ok tt → (decide a done s).answer ≡ a
unfolding number
decided (Ok tt) done s h = h
decided (Err ShortBuffer) done s h = refl
decided (Err NotWellKept) done s h = refl
decided (Err MalformedRecord) done s h = refl
decided (Err NoSuchPremise) done s h = refl
decided (Err OtherAgreement) done s h = refl
decided (Err PremiseHeld) done s h = refl
decided (Err BookFull) done s h = refl
decided (Err OrderOpen) done s h = refl
decided (Err ReferenceHeld) done s h = refl
decided (Err DayOutOfRange) done s h = refl
decided (Err NoSwitchDate) done s h = refl
decided (Err NotFirstIn) done s h = refl
decided (Err RetailerShareFull) done s h = refl
decided (Err StackFull) done s h = refl
decided (Err NoSuchOrder) done s h = refl
decided (Err StatusNotTaken) done s h = refl
decided (Err CounterNotAbove) done s h = refl
decided (Err OrderInWindow) done s h = refl
decided (Err NotNextDay) done s h = refl

-- a property of what is done and of a refusal is one of what is decided
pub either : (P : Given → Type 0) (a : Answer) {done : Given} (s : State) → P done → P (refused a s) → P (decide a done s)
either P a s h k = by_test P (eqb (number a) 0) _ _ (λ e. h) (λ e. k)

Accepts : Given → Type 0
Accepts g = g.answer ≡ Ok tt

effect_accepted : (calendar : List ℕ) (today : ℕ) (file : Option File) (r : Record) → (effect_on calendar today file r).answer ≡ Ok tt
unfolding Accepts
effect_accepted calendar today None r = by_test Accepts (is kind_create r) _ _ (λ e. refl) (λ e. refl)
effect_accepted calendar today (Some f) r =
    by_test Accepts (is kind_retire r) _ _ (λ e. refl) (λ e. by_test Accepts (is kind_day_mark r) _ _ (λ e. refl) (λ e. refl))

pub answer_is_first_row : AnswerIsFirstRow
unfolding step_with
answer_is_first_row calendar s r =
    decided (first_row (rows calendar s.today s.file r)) _ s (effect_accepted calendar s.today s.file r)

pub zero_where_no_row : ZeroWhereNoRow
zero_where_no_row calendar s r =
    rw (answer_is_first_row calendar s r)
    (zero_none _ _ (zero_first (rows calendar s.today s.file r) (all_refuse calendar s.today s.file r)))

pub refusal_is : RefusalIs
unfolding step_with
refusal_is calendar s r h =
    let answer : Answer = first_row (rows calendar s.today s.file r) in
    let e : eqb (number answer) 0 ≡ false = rw (answer_is_first_row calendar s r) at h in
    rw (answer_is_first_row calendar s r, e)

pub refusal_changes_nothing : RefusalChangesNothing
refusal_changes_nothing calendar s r h =
    record {
      state = ap (λ (g : Given). g.state) (refusal_is calendar s r h);
      silent = ap (λ (g : Given). g.notices) (refusal_is calendar s r h);
    }

-- ---- by the record's kind
pub create_passes : CreatePasses
unfolding premise_rows
create_passes r more h = rw (eqb-true r.kind kind_create h) refl

-- what is done by a record that is no day mark is done on the day that it was
effect_stays : (calendar : List ℕ) (today : ℕ) (file : Option File) (r : Record) → is kind_day_mark r ≡ false
    → (effect_on calendar today file r).state.today ≡ today
effect_stays calendar today None r h = by_test (λ (g : Given). g.state.today ≡ today) (is kind_create r) _ _ (λ e. refl) (λ e. rw h refl)
effect_stays calendar today (Some f) r h =
    by_test (λ (g : Given). g.state.today ≡ today) (is kind_retire r) _ _ (λ e. refl) (λ e. rw h refl)

pub only_marks_move : OnlyMarksMove
unfolding step_with
only_marks_move calendar s r h =
    either (λ g. g.state.today ≡ s.today) (first_row (rows calendar s.today s.file r)) s
    (effect_stays calendar s.today s.file r h) refl

pub only_create_makes : OnlyCreateMakes
unfolding step_with
only_create_makes calendar today r h =
    either (λ g. g.state.file ≡ None) (first_row (rows calendar today None r)) (record { today = today; file = None }) (rw h refl) refl

pub only_retire_takes : OnlyRetireTakes
unfolding step_with
only_retire_takes calendar today f r h =
    either (λ g. is_held g.state.file ≡ true) (first_row (rows calendar today (Some f) r)) (record { today = today; file = Some f })
    (rw h (by_test (λ (g : Given). is_held g.state.file ≡ true) (is kind_day_mark r) _ _ (λ e. refl) (λ e. refl))) refl

-- of a day mark's rows only the last can hold
mark_rows : (calendar : List ℕ) (today : ℕ) (file : Option File) (r : Record) → r.kind ≡ kind_day_mark
    → first_row (rows calendar today file r) ≡ cond (not (eqb r.day (today + 1))) (Err NotNextDay) (Ok tt)
unfolding premise_rows order_rows
mark_rows calendar today file r e = rw e

mark_effect : (calendar : List ℕ) (today : ℕ) (file : Option File) (r : Record) → r.kind ≡ kind_day_mark
    → effect_on calendar today file r ≡ marked_or calendar r.day file
mark_effect calendar today None r e = rw e refl
mark_effect calendar today (Some f) r e = rw e refl

pub mark_step : MarkStep
unfolding step_with number
mark_step calendar s r h =
    rw (
      mark_rows calendar s.today s.file r (eqb-true r.kind kind_day_mark h),
      mark_effect calendar s.today s.file r
          (eqb-true r.kind kind_day_mark h),
    )
    (go (eqb r.day (s.today + 1)))
  where
    go : (next : Bool)
        → decide (cond (not next) (Err NotNextDay) (Ok tt)) (marked_or calendar r.day s.file) s
        ≡ cond next (marked_or calendar r.day s.file) (refused (Err NotNextDay) s)
    go true = refl
    go false = refl
