-- The last day in window, by the business days before it and before the day after it: how a walk finds it, and how the window of one
-- business day more goes on from it. Assumes nothing.
use Prim.Native.Nat.{ℕ, zero, suc, ◌+◌, ◌-◌, ◌<◌, ◌≤◌}
use mathlib.Core.Path.{◌≡◌, refl, subst, ◌∙◌}
use mathlib.Core.List.{List, [], ◌∷◌}
use mathlib.Core.Bool.{Bool, true, false, and-false}
use native.Mathlib.Omega.{arith}
use lib.Dec.{leb}
use lib.ListN.{get_or, length}
use borrow.Author.Tests.{le-leb, lt-leb, leb-true, leb-false}
use Rattle.lists.proofs.TestLaws.{and_left, and_right, and_other}
use Rattle.days.specs.Days.{last_day, is_day, is_business_day}
use Rattle.days.specs.Window.{business_days, in_window, LastInWindow}
use Rattle.days.specs.Laws.{WindowIsUpTo}
use Rattle.days.proofs.Laws.{count_end, count_join, count_most, count_business, count_other, count_one}

-- a day has no more than the width before it; if there is a day after it, that one has
pub record Ends (calendar : List ℕ) (width today last : ℕ) : Type 0 where
  pub day : last ≤ last_day
  pub within : business_days calendar today last ≤ width
  pub beyond : last < last_day → width < business_days calendar today (last + 1)

module _ (calendar : List ℕ) (width today last : ℕ) where
  pub window_of_ends : Ends calendar width today last → LastInWindow calendar width today last
  unfolding in_window
  window_of_ends e to = go (leb to last) refl
    where
      past : last < to → (b : Bool) → is_day to ≡ b → in_window calendar width today to ≡ false
      past h true k =
          let many : width < business_days calendar today to =
          omega (arith, e.beyond (omega (arith, leb-true to last_day k)), count_most calendar today (last + 1) to (omega arith)) in
          rw (lt-leb (business_days calendar today to) width many) (and-false (is_day to))
      past h false k = simp (k)

      go : (b : Bool) → leb to last ≡ b → in_window calendar width today to ≡ b
      go true h =
          let near : to ≤ last = leb-true to last h in
          let few : business_days calendar today to ≤ width = omega (arith, e.within, count_most calendar today to last near) in
          simp (le-leb to last_day (omega (arith, e.day)), le-leb (business_days calendar today to) width few)
      go false h = past (leb-false to last h) (is_day to) refl

  pub ends_of_window : LastInWindow calendar width today last → Ends calendar width today last
  unfolding in_window
  ends_of_window w =
      let own : in_window calendar width today last ≡ true = w last ∙ le-leb last last (omega arith) in
      let next : in_window calendar width today (last + 1) ≡ false = w (last + 1) ∙ lt-leb (last + 1) last (omega arith) in
      record {
        day = leb-true last last_day (and_left _ _ own);
        within = leb-true _ width (and_right (is_day last) _ own);
        beyond = λ h. leb-false _ width (and_other (is_day (last + 1)) _ next (le-leb (last + 1) last_day (omega arith)));
      }

pub last_is_day : (calendar : List ℕ) (width today last : ℕ) → LastInWindow calendar width today last → last ≤ last_day
last_is_day calendar width today last w = (ends_of_window calendar width today last w).day

-- a window that ends before the last day ends no earlier than it opens
from_today : (calendar : List ℕ) (width today last : ℕ) → Ends calendar width today last → last < last_day → today ≤ last
from_today calendar width today last e h = go (leb today last) refl
  where
    go : (b : Bool) → leb today last ≡ b → today ≤ last
    go true k = leb-true today last k
    go false k = absurd (omega (arith, e.beyond h, count_end calendar today (last + 1) (omega (arith, leb-false today last k))))

-- the walk stands at a day: the business days passed and those still allowed make up the width
pub record Passing (calendar : List ℕ) (width today left day : ℕ) : Type 0 where
  pub from : today ≤ day
  pub passed : left + business_days calendar today day ≡ width

pub passing_first : (calendar : List ℕ) (width today : ℕ) → Passing calendar width today width today
passing_first calendar width today = record { from = omega arith; passed = omega (arith, count_end calendar today today (omega arith)) }

module _ (calendar : List ℕ) (width today left day : ℕ) (p : Passing calendar width today left day) where
  more : is_business_day calendar day ≡ true → business_days calendar today (day + 1) ≡ business_days calendar today day + 1
  more = count_business calendar today day p.from

  pub passing_business : is_business_day calendar day ≡ true → 0 < left → Passing calendar width today (left - 1) (day + 1)
  passing_business e some = record { from = omega (arith, p.from); passed = omega (arith, p.passed, more e) }

  pub passing_other : is_business_day calendar day ≡ false → Passing calendar width today left (day + 1)
  passing_other e = record { from = omega (arith, p.from); passed = omega (arith, p.passed, count_other calendar today day p.from e) }

  -- a business day that is one too many for the next day is the last in window
  pub ends_here : is_business_day calendar day ≡ true → left ≡ 0 → day < last_day → LastInWindow calendar width today day
  ends_here e none before = window_of_ends _ _ _ _
      (record { day = omega arith; within = omega (arith, p.passed); beyond = λ h. omega (arith, p.passed, more e) })

  -- at the last day that there is, no day has too many before it
  pub ends_last : last_day ≤ day → LastInWindow calendar width today last_day
  ends_last after = window_of_ends _ _ _ _
      (record {
        day = omega arith;
        within = omega (arith, p.passed, count_most calendar today last_day day after);
        beyond = λ h. absurd (omega arith);
      })

-- The window of one business day more ends where a window of none does that opens on the day after.
module _ (calendar : List ℕ) (width today last next : ℕ) where
  ends_more : Ends calendar width today last → Ends calendar 0 (last + 1) next → Ends calendar (width + 1) today next
  ends_more e n = record { day = n.day; within = within (leb next last) refl; beyond = beyond }
    where
      opens : last < last_day → today ≤ last
      opens = from_today calendar width today last e

      within : (b : Bool) → leb next last ≡ b → business_days calendar today next ≤ width + 1
      within true k = omega (arith, e.within, count_most calendar today next last (leb-true next last k))
      within false k =
          let later : last < next = leb-false next last k in
          let near : today ≤ last = opens (omega (arith, n.day)) in
          omega (
            arith,
            e.within,
            n.within,
            count_join calendar today (last + 1) next (omega arith) (omega arith),
            count_one calendar today last near,
          )

      beyond : next < last_day → width + 1 < business_days calendar today (next + 1)
      beyond h =
          let later : last + 1 ≤ next = from_today calendar 0 (last + 1) next n h in
          let near : today ≤ last = opens (omega arith) in
          omega (
            arith,
            e.beyond (omega arith),
            n.beyond h,
            count_join calendar today (last + 1) (next + 1) (omega arith) (omega arith),
          )

  pub window_more : LastInWindow calendar width today last → LastInWindow calendar 0 (last + 1) next
      → LastInWindow calendar (width + 1) today next
  window_more w n = window_of_ends _ _ _ _ (ends_more (ends_of_window _ _ _ _ w) (ends_of_window _ _ _ _ n))

-- days of which each ends a window of no business day that opens after the one before it
abbrev pub GoOn : List ℕ → ℕ → List ℕ → Type 0
GoOn calendar last [] = Unit {0}
GoOn calendar last (next ∷ rest) = LastInWindow calendar 0 (last + 1) next × GoOn calendar next rest

-- so they are the last days in window of a width and of those that follow it
pub widths_go_on : (calendar : List ℕ) (width today last : ℕ) (rest : List ℕ) → LastInWindow calendar width today last
    → GoOn calendar last rest → (i : ℕ) → i < length (last ∷ rest) → LastInWindow calendar (i + width) today (get_or (last ∷ rest) i 0)
widths_go_on calendar width today last rest w ns zero h =
    let same : width ≡ 0 + width = omega arith in
    subst (λ (n : ℕ). LastInWindow calendar n today last) same w
widths_go_on calendar width today last [] w ns (suc i) h = absurd (omega arith)
widths_go_on calendar width today last (next ∷ rest) w ns (suc i) h =
    let wider : i + (width + 1) ≡ suc i + width = omega arith in
    subst (λ (n : ℕ). LastInWindow calendar n today (get_or (next ∷ rest) i 0)) wider
    (widths_go_on calendar (width + 1) today next rest (window_more calendar width today last next w ns.0) ns.1 i (omega arith))

-- two tests that agree on every day are one
pub window_is_up_to : WindowIsUpTo
window_is_up_to calendar width today last window = λ i scheduled. window scheduled i
