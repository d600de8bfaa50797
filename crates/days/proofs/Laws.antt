-- Laws of the days layer's definitions: how a search and a count go on by a day, and what the layers above rely on. Assumes nothing.
use Prim.Native.Nat.{ℕ, zero, suc, ◌+◌, ◌-◌, ◌<◌, ◌≤◌}
use mathlib.Core.Path.{◌≡◌, refl, sym, ap, ap₂, ◌∙◌}
use mathlib.Core.Logic.{◌⊎◌, inl, inr}
use mathlib.Core.List.{List}
use mathlib.Core.Bool.{Bool, true, false, cond, ◌&&◌}
use native.Mathlib.Numerals.{add-one}
use native.Mathlib.Omega.{arith}
use lib.Dec.{eqb, leb}
use lib.ListN.{length, get_or}
use borrow.Author.Tests.{lt-ltb, le-ltb, le-leb, lt-leb, leb-true, leb-false, eqb-true, eqb-false}
use Rattle.days.specs.Days.{last_day, no_day, kind_of_day, is_business_day, starts_switches, first_start, switch_date}
use Rattle.days.specs.Window.{count_from, business_days, in_window}
use Rattle.days.specs.Laws.{NoneBefore, FirstStart, NoStart, SwitchDateIs, PastInWindow}

-- the kind of a day, by its byte and by whether the calendar has one
module _ (calendar : List ℕ) (day : ℕ) where
  pub kind_known : day < length calendar → get_or calendar day 0 ≤ 1 → get_or calendar day 0 ≡ kind_of_day calendar day
  unfolding kind_of_day
  kind_known h k = sym (ap₂ (λ (inside known : Bool). cond (inside && known) (get_or calendar day 0) 2) (lt-ltb _ _ h) (le-leb _ _ k))

  pub kind_unknown : day < length calendar → 1 < get_or calendar day 0 → 2 ≡ kind_of_day calendar day
  unfolding kind_of_day
  kind_unknown h k = sym (ap₂ (λ (inside known : Bool). cond (inside && known) (get_or calendar day 0) 2) (lt-ltb _ _ h) (lt-leb _ _ k))

  pub kind_outside : length calendar ≤ day → 2 ≡ kind_of_day calendar day
  unfolding kind_of_day
  kind_outside h = sym (ap (λ (inside : Bool). cond (inside && leb (get_or calendar day 0) 1) (get_or calendar day 0) 2) (le-ltb _ _ h))

-- the search from a day on
module _ (calendar : List ℕ) (day : ℕ) where
  pub switch_end : last_day < day → switch_date calendar day ≡ no_day
  unfolding switch_date
  switch_end h =
      let e : suc last_day - day ≡ 0 = omega arith in
      rw e

  switch_step : day ≤ last_day → switch_date calendar day ≡ cond (starts_switches calendar day) day (switch_date calendar (day + 1))
  unfolding switch_date
  switch_step h =
      let e : suc last_day - day ≡ suc (suc last_day - (day + 1)) = omega arith in
      rw (e, add-one day)

  pub switch_here : day ≤ last_day → starts_switches calendar day ≡ true → switch_date calendar day ≡ day
  switch_here h e = switch_step h ∙ ap (λ (b : Bool). cond b day (switch_date calendar (day + 1))) e

  pub switch_next : day ≤ last_day → starts_switches calendar day ≡ false → switch_date calendar day ≡ switch_date calendar (day + 1)
  switch_next h e = switch_step h ∙ ap (λ (b : Bool). cond b day (switch_date calendar (day + 1))) e

-- the count from a day up to another
module _ (calendar : List ℕ) (day to : ℕ) where
  pub count_end : to ≤ day → business_days calendar day to ≡ 0
  unfolding business_days
  count_end h =
      let none : to - day ≡ 0 = omega arith in
      ap (λ (many : ℕ). count_from calendar many day) none

  count_step : day < to → business_days calendar day to ≡ cond (is_business_day calendar day) 1 0 + business_days calendar (day + 1) to
  unfolding business_days
  count_step h =
      let e : to - day ≡ suc (to - (day + 1)) = omega arith in
      rw (e, add-one day)

module _ (calendar : List ℕ) where
  join_from : (many from by to : ℕ) → many ≡ by - from → from ≤ by → by ≤ to
      → business_days calendar from to ≡ business_days calendar from by + business_days calendar by to
  join_from zero from by to e h k =
      let same : by ≡ from = omega arith in
      rw same (omega (arith, count_end calendar from from (omega arith)))
  join_from (suc many) from by to e h k = omega (
    arith,
    join_from many (from + 1) by to (omega arith) (omega arith) k,
    count_step calendar from to (omega arith),
    count_step calendar from by (omega arith),
  )

  -- the count up to a day and the count from it on
  pub count_join : (from by to : ℕ) → from ≤ by → by ≤ to
      → business_days calendar from to ≡ business_days calendar from by + business_days calendar by to
  count_join from by to = join_from (by - from) from by to refl

  -- a later day has no fewer before it
  pub count_most : (from by to : ℕ) → by ≤ to → business_days calendar from by ≤ business_days calendar from to
  count_most from by to h = go (leb from by) refl
    where
      go : (b : Bool) → leb from by ≡ b → business_days calendar from by ≤ business_days calendar from to
      go true e = omega (arith, count_join from by to (leb-true from by e) h)
      go false e = omega (arith, count_end calendar from by (omega (arith, leb-false from by e)))

-- what a day adds to the count up to it
module _ (calendar : List ℕ) (from day : ℕ) (h : from ≤ day) where
  count_past : business_days calendar from (day + 1) ≡ business_days calendar from day + cond (is_business_day calendar day) 1 0
  count_past = omega (
    arith,
    count_join calendar from day (day + 1) h (omega arith),
    count_step calendar day (day + 1) (omega arith),
    count_end calendar (day + 1) (day + 1) (omega arith),
  )

  pub count_business : is_business_day calendar day ≡ true → business_days calendar from (day + 1) ≡ business_days calendar from day + 1
  count_business e = count_past ∙ ap (λ (b : Bool). business_days calendar from day + cond b 1 0) e

  pub count_other : is_business_day calendar day ≡ false → business_days calendar from (day + 1) ≡ business_days calendar from day
  count_other e = omega (arith, count_past, ap {B = ℕ} (λ (b : Bool). cond b 1 0) e)

  pub count_one : business_days calendar from (day + 1) ≤ business_days calendar from day + 1
  count_one = go (is_business_day calendar day) refl
    where
      go : (b : Bool) → is_business_day calendar day ≡ b → business_days calendar from (day + 1) ≤ business_days calendar from day + 1
      go true e = omega (arith, count_business e)
      go false e = omega (arith, count_other e)

-- no switches start on a day, nor on those after it
none_more : (calendar : List ℕ) (from to : ℕ) → starts_switches calendar from ≡ false → NoneBefore calendar (suc from) to
    → NoneBefore calendar from to
none_more calendar from to e none day h k = go (eqb day from) refl
  where
    go : (b : Bool) → eqb day from ≡ b → starts_switches calendar day ≡ false
    go true q = ap (starts_switches calendar) (eqb-true day from q) ∙ e
    go false q = none day (omega (arith, eqb-false day from q)) k

first_start_lem : (calendar : List ℕ) (many day : ℕ) → many ≡ suc last_day - day
    → FirstStart calendar day (first_start calendar many day) ⊎ NoStart calendar day (first_start calendar many day)
first_start_lem calendar zero day h = inr (record { missing = refl; none = λ d k l. absurd (omega arith) })
first_start_lem calendar (suc many) day h = go (starts_switches calendar day) refl (first_start_lem calendar many (suc day) (omega arith))
  where
    go : (b : Bool) → starts_switches calendar day ≡ b
        → FirstStart calendar (suc day) (first_start calendar many (suc day)) ⊎ NoStart calendar (suc day)
        (first_start calendar many (suc day))
        → FirstStart calendar day (cond b day (first_start calendar many (suc day))) ⊎ NoStart calendar day
        (cond b day (first_start calendar many (suc day)))
    go true e ih = inl (record { from = omega arith; day = omega arith; starts = e; none = λ d k l. absurd (omega arith) })
    go false e (inl f) = inl
        (record { from = omega (arith, f.from); day = f.day; starts = f.starts; none = none_more calendar day _ e f.none })
    go false e (inr n) = inr (record { missing = n.missing; none = none_more calendar day no_day e n.none })

pub switch_date_is : SwitchDateIs
unfolding switch_date
switch_date_is calendar today = first_start_lem calendar (suc last_day - today) today refl

pub past_in_window : PastInWindow
unfolding in_window
past_in_window calendar width today scheduled h k =
    simp (le-leb scheduled last_day h, count_end calendar today scheduled k, le-leb 0 width (omega arith))
