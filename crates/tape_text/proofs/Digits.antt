-- Laws of a number's digits: how many there are, and the last of them. Assumes nothing.
use Prim.Native.Nat.{ℕ, zero, suc, ◌+◌, ◌*◌, ◌/◌, ◌%◌, ◌^◌, ◌≤◌, ◌<◌, max}
use mathlib.Core.Path.{◌≡◌, refl, ap, ◌∙◌}
use mathlib.Core.List.{List, [], ◌∷◌, ◌++◌}
use mathlib.Core.Bool.{Bool, true, false}
use native.Mathlib.Nat.{pow-suc, one-le-pow}
use native.Mathlib.Omega.{arith}
use lib.Dec.{ltb}
use lib.ListN.{length, length-append}
use borrow.Author.Tests.{lt-ltb, le-ltb, ltb-true, ltb-false}
use Rattle.lists.proofs.TestLaws.{by_test}
use Rattle.tape_text.specs.Numbers.{digit, digits, most_digits, decimal}

-- one digit behind others
one_more : (others : List ℕ) (last : ℕ) → length (others ++ (last ∷ [])) ≡ length others + 1
one_more others last = length-append others (last ∷ [])

-- the number without its last digit is below the next lower power of ten
tenth_below : (k n : ℕ) → n < 10 ^ suc k → n / 10 < 10 ^ k
tenth_below k n h = omega (arith, rw pow-suc at h)

-- Room for one digit more changes nothing where there is room for all.
digits_enough : (k n : ℕ) → n < 10 ^ suc k → digits (suc (suc k)) n ≡ digits (suc k) n
digits_enough zero n h = rw (lt-ltb n 10 (omega arith))
digits_enough (suc k) n h = rw (digits_enough k (n / 10) (tenth_below (suc k) n h))

digits_some : (most n : ℕ) → 1 ≤ length (digits (suc most) n)
digits_some most n = by_test (λ (l : List ℕ). 1 ≤ length l) (ltb n 10) _ _ (λ e. omega arith)
    (λ e. omega (arith, one_more (digits most (n / 10)) (digit (n % 10))))

digits_within : (most n : ℕ) → length (digits most n) ≤ most
digits_within zero n = omega arith
digits_within (suc most) n =
    let others = digits_within most (n / 10) in
    by_test (λ (l : List ℕ). length l ≤ suc most) (ltb n 10) _ _ (λ e. omega arith)
    (λ e. omega (arith, one_more (digits most (n / 10)) (digit (n % 10))))

-- a number below a power of ten has no more digits than the power has zeros
digits_below : (most k n : ℕ) → n < 10 ^ suc k → length (digits most n) ≤ suc k
digits_below zero k n h = omega arith
digits_below (suc most) zero n h = rw (lt-ltb n 10 (omega arith)) (omega arith)
digits_below (suc most) (suc k) n h =
    let others = digits_below most k (n / 10) (tenth_below (suc k) n h) in
    by_test (λ (l : List ℕ). length l ≤ suc (suc k)) (ltb n 10) _ _ (λ e. omega arith)
    (λ e. omega (arith, one_more (digits most (n / 10)) (digit (n % 10))))

-- ---- the same of `decimal`
pub decimal_some : (n : ℕ) → 1 ≤ length (decimal n)
unfolding decimal
decimal_some n = digits_some 19 n

pub decimal_within : (n : ℕ) → length (decimal n) ≤ most_digits
unfolding decimal
decimal_within n = digits_within most_digits n

pub decimal_below : (k n : ℕ) → n < 10 ^ suc k → length (decimal n) ≤ suc k
unfolding decimal
decimal_below k n h = digits_below most_digits k n h

-- a single digit
pub decimal_one : (n : ℕ) → n < 10 → decimal n ≡ digit n ∷ []
unfolding decimal
decimal_one n h = rw (lt-ltb n 10 h)

-- a number of 64 bits with more digits: the last of them stands behind those of the number without it
pub decimal_more : (n : ℕ) → 10 ≤ n → n < 18446744073709551616 → decimal n ≡ decimal (n / 10) ++ (digit (n % 10) ∷ [])
unfolding decimal
decimal_more n h k = rw (digits_enough 18 (n / 10) (omega arith), le-ltb n 10 h) refl

pub decimal_longer : (n : ℕ) → 10 ≤ n → n < 18446744073709551616 → length (decimal n) ≡ length (decimal (n / 10)) + 1
decimal_longer n h k = ap length (decimal_more n h k) ∙ one_more (decimal (n / 10)) (digit (n % 10))

-- a number with one digit is below ten, and one with more is not
pub decimal_short : (n : ℕ) → n < 18446744073709551616 → length (decimal n) ≤ 1 → n < 10
decimal_short n k h = go (ltb n 10) refl
  where
    go : (a : Bool) → ltb n 10 ≡ a → n < 10
    go true e = ltb-true n 10 e
    go false e = absurd (omega (arith, h, decimal_longer n (ltb-false n 10 e) k, decimal_some (n / 10)))

pub decimal_long : (n : ℕ) → 1 < length (decimal n) → 10 ≤ n
decimal_long n h = go (ltb n 10) refl
  where
    go : (a : Bool) → ltb n 10 ≡ a → 10 ≤ n
    go true e = absurd (omega (arith, h, ap length (decimal_one n (ltb-true n 10 e))))
    go false e = ltb-false n 10 e

-- the power of ten between a number and its tenth has as many zeros as the number has digits behind its first
decimal_above : (k n : ℕ) → n < 18446744073709551616 → 10 ^ k ≤ n → suc k ≤ length (decimal n)
decimal_above zero n wide h = decimal_some n
decimal_above (suc k) n wide h =
    let tens : 10 ^ k * 10 ≤ n = rw pow-suc at h in
    let one = one-le-pow k 10 (omega arith) in
    omega (arith, decimal_longer n (omega (arith, tens, one)) wide, decimal_above k (n / 10) (omega (arith, wide)) (omega (arith, tens)))

-- .. where 0 counts as 1
pub decimal_many : (k n : ℕ) → n < 18446744073709551616 → 10 ^ k ≤ max n 1 → max n 1 < 10 * 10 ^ k → length (decimal n) ≡ k + 1
decimal_many zero n wide low high = omega (arith, decimal_some n, decimal_below 0 n (omega (arith, high)))
decimal_many (suc k) n wide low high =
    let tens : 10 ^ k * 10 ≤ max n 1 = rw pow-suc at low in
    let one = one-le-pow k 10 (omega arith) in
    let same : max n 1 ≡ n = omega (arith, tens, one) in
    omega (arith, decimal_above (suc k) n wide (rw same at low), decimal_below (suc k) n (omega (arith, high, pow-suc 10 (suc k))))
