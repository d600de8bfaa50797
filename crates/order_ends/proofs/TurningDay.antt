-- The turning day is the first day on which the review ends, and N is counted on by a day as the clock does it. Assumes nothing.
use Prim.Native.Nat.{ℕ, zero, suc, ◌+◌, ◌-◌, ◌≤◌, ◌<◌, min}
use mathlib.Core.Path.{◌≡◌, refl, sym, ap, ◌∙◌}
use mathlib.Core.Logic.{◌⊎◌, inl, inr}
use mathlib.Core.List.{List}
use mathlib.Core.Bool.{Bool, true, false, cond, ◌&&◌, false≢true, or-true}
use native.Mathlib.Omega.{arith}
use lib.Dec.{eqb, leb}
use borrow.Author.Tests.{eqb-true, eqb-false, leb-true, le-leb}
use Rattle.lists.proofs.TestLaws.{and_left, and_right, or_either}
use Rattle.days.specs.Days.{last_day, no_day, is_business_day}
use Rattle.days.specs.Window.{count_from, business_days}
use Rattle.days.proofs.Laws.{count_end}
use Rattle.premise.specs.Clock.{most_waited, long_review, short_review, review_ends}
use Rattle.order_ends.specs.TurningDay.{counted_to, turns_on, first_day, turning_day, Turns, TurnsFirst, NeverTurns, TurningDayIs}

-- ---- a search over days
-- none of the days from one up to but not including another passes
abbrev NoneFrom : (ℕ → Bool) → ℕ → ℕ → Type 0
NoneFrom p from to = (day : ℕ) → from ≤ day → day < to → p day ≡ false

record Finds (p : ℕ → Bool) (from found : ℕ) : Type 0 where
  after : from ≤ found
  day : found ≤ last_day
  passes : p found ≡ true
  none : NoneFrom p from found

record Misses (p : ℕ → Bool) (from found : ℕ) : Type 0 where
  missing : found ≡ no_day
  none : NoneFrom p from no_day

none_more : (p : ℕ → Bool) (from to : ℕ) → p from ≡ false → NoneFrom p (suc from) to → NoneFrom p from to
none_more p from to e none day h k = go (eqb day from) refl
  where
    go : (b : Bool) → eqb day from ≡ b → p day ≡ false
    go true q = ap p (eqb-true day from q) ∙ e
    go false q = none day (omega (arith, eqb-false day from q)) k

first_day_lem : (p : ℕ → Bool) (many day : ℕ) → many ≡ no_day - day → Finds p day (first_day p many day) ⊎ Misses p day (first_day p many day)
first_day_lem p zero day h = inr (record { missing = refl; none = λ d k l. absurd (omega arith) })
first_day_lem p (suc many) day h = go (p day) refl (first_day_lem p many (suc day) (omega arith))
  where
    go : (b : Bool) → p day ≡ b → Finds p (suc day) (first_day p many (suc day)) ⊎ Misses p (suc day) (first_day p many (suc day))
        → Finds p day (cond b day (first_day p many (suc day))) ⊎ Misses p day (cond b day (first_day p many (suc day)))
    go true e ih = inl (record { after = omega arith; day = omega arith; passes = e; none = λ d k l. absurd (omega arith) })
    go false e (inl f) =
        inl (record { after = omega (arith, f.after); day = f.day; passes = f.passes; none = none_more p day _ e f.none })
    go false e (inr n) = inr (record { missing = n.missing; none = none_more p day no_day e n.none })

-- ---- the review ends
module _ (waited requested day : ℕ) where
  ends_true : review_ends waited requested day ≡ true → (20 ≤ waited) ⊎ ((3 ≤ waited) × (requested ≤ day))
  ends_true e =
      or_either (leb long_review waited) (leb short_review waited && leb requested day) e (λ q. inl (leb-true long_review waited q))
      (λ q. inr (
        leb-true short_review waited (and_left (leb short_review waited) (leb requested day) q),
        leb-true requested day (and_right (leb short_review waited) (leb requested day) q),
      ))

  turns_true : (20 ≤ waited) ⊎ ((3 ≤ waited) × (requested ≤ day)) → review_ends waited requested day ≡ true
  turns_true (inl h) = rw (le-leb long_review waited h) refl
  turns_true (inr h) = rw (le-leb short_review waited h.0, le-leb requested day h.1) (or-true (leb long_review waited))

  ends_false : review_ends waited requested day ≡ false → (20 ≤ waited) ⊎ ((3 ≤ waited) × (requested ≤ day)) → ⊥
  ends_false e t = false≢true (sym e ∙ turns_true t)

pub turning_day_is : TurningDayIs
unfolding turning_day
turning_day_is calendar today waited requested =
    go (first_day_lem (turns_on calendar today waited requested) (last_day - today) (suc today) (omega arith))
  where
    counted : ℕ → ℕ
    counted day = counted_to calendar today waited day

    go : {turning : ℕ}
        → Finds (turns_on calendar today waited requested) (suc today) turning
        ⊎ Misses (turns_on calendar today waited requested) (suc today) turning
        → TurnsFirst calendar today waited requested turning ⊎ NeverTurns calendar today waited requested turning
    go {turning} (inl f) = inl
        (record {
          after = omega (arith, f.after);
          day = f.day;
          turns = ends_true (counted turning) requested turning f.passes;
          first = λ day h k. ends_false (counted day) requested day (f.none day (omega arith) k);
        })
    go (inr n) = inr
        (record {
          missing = n.missing;
          never = λ day h k. ends_false (counted day) requested day (n.none day (omega arith) (omega arith));
        })

-- ---- N is counted on
count_last : (calendar : List ℕ) (many day last : ℕ) → last ≡ day + many
    → count_from calendar (suc many) day ≡ count_from calendar many day + cond (is_business_day calendar last) 1 0
count_last calendar zero day last e =
    let same : last ≡ day = omega arith in
    omega (arith, ap {B = ℕ} (λ (d : ℕ). cond (is_business_day calendar d) 1 0) same)
count_last calendar (suc many) day last e =
    let rest = count_last calendar many (suc day) last (omega arith) in
    omega (arith, rest)

-- the business days up to a day are those before it, and the day if it is one
business_last : (calendar : List ℕ) (from to : ℕ) → from ≤ to
    → business_days calendar from (to + 1) ≡ business_days calendar from to + cond (is_business_day calendar to) 1 0
unfolding business_days
business_last calendar from to h =
    let e : to + 1 - from ≡ suc (to - from) = omega arith in
    ap (λ (many : ℕ). count_from calendar many from) e ∙ count_last calendar (to - from) from to (omega arith)

module _ (calendar : List ℕ) (today waited : ℕ) where
  -- by the clock of the next day
  pub counted_next : (day : ℕ) → today ≤ day
      → cond (is_business_day calendar (day + 1)) (min (counted_to calendar today waited day + 1) most_waited)
      (counted_to calendar today waited day)
      ≡ counted_to calendar today waited (day + 1)
  counted_next day h =
      go (is_business_day calendar (day + 1)) (business_days calendar (today + 1) (day + 1)) (business_days calendar (today + 1) (day + 1 + 1))
      (business_last calendar (today + 1) (day + 1) (omega arith))
    where
      go : (business : Bool) (before after : ℕ) → after ≡ before + cond business 1 0
          → cond business (min (min (waited + before) most_waited + 1) most_waited) (min (waited + before) most_waited)
          ≡ min (waited + after) most_waited
      go true before after e = omega arith
      go false before after e = omega arith

  -- on the day itself
  pub counted_here : waited ≤ most_waited → counted_to calendar today waited today ≡ waited
  counted_here h = omega (arith, count_end calendar (today + 1) (today + 1) (omega arith))

-- the test that the search goes by, on the turning day and before it
module _ (calendar : List ℕ) (today waited requested : ℕ) where
  abbrev turning : ℕ
  turning = turning_day calendar today waited requested

  pub record Turning : Type 0 where
    pub after : today ≤ last_day → today < turning
    pub here : turning ≤ last_day → turns_on calendar today waited requested turning ≡ true
    pub before : (day : ℕ) → today < day → day ≤ last_day → day < turning → turns_on calendar today waited requested day ≡ false

  pub turning_tests : Turning
  turning_tests = go (turning_day_is calendar today waited requested)
    where
      ends : (day : ℕ) → Turns calendar today waited requested day → turns_on calendar today waited requested day ≡ true
      ends day t = turns_true (counted_to calendar today waited day) requested day t

      none : (day : ℕ) → (Turns calendar today waited requested day → ⊥) → turns_on calendar today waited requested day ≡ false
      none day n = by (turns_on calendar today waited requested day) refl
        where
          by : (b : Bool) → turns_on calendar today waited requested day ≡ b → b ≡ false
          by false q = refl
          by true q = absurd (n (ends_true (counted_to calendar today waited day) requested day q))

      go : TurnsFirst calendar today waited requested turning ⊎ NeverTurns calendar today waited requested turning → Turning
      go (inl f) =
          record {
            after = λ h. f.after;
            here = λ h. ends turning f.turns;
            before = λ day h k l. none day (f.first day h l);
          }
      go (inr n) =
          record {
            after = λ h. omega (arith, n.missing);
            here = λ h. absurd (omega (arith, h, n.missing));
            before = λ day h k l. none day (n.never day h k);
          }
